use Rattle.replay.proofs.Painting.{PaintedTo}
use Rattle.replay.proofs.painted.paint.Given as goal

abbrev pub invariant-loop-i : goal.invariant-loop-i
invariant-loop-i l = PaintedTo l.initial.bytes l.bytes l.i

use Rattle.replay.proofs.Painting.{SeenTo}
use Rattle.replay.proofs.painted.is_painted.Given as goal

abbrev pub invariant-loop-i : goal.invariant-loop-i
invariant-loop-i l = SeenTo l.from l.bytes l.i

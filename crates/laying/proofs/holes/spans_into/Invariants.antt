use Rattle.std.proofs.Common.{map}
use Rattle.lists.specs.Pieces.{pieces}
use Rattle.lists.specs.Placed.{placed}
use Rattle.lists.proofs.Remaining.{Remaining}
use Rattle.tables.specs.Corners.{us}
use Rattle.tables.specs.Rows.{rows}
use Rattle.tables.specs.Loops.{loops_in}
use Rattle.seam.specs.Gap.{span_of}
use Rattle.laying.proofs.EachHole.{span_of_hole}
use Rattle.laying.proofs.holes.spans_into.Given as goal

abbrev pub invariant-loop-i : goal.invariant-loop-i
invariant-loop-i l =
    Remaining (placed 0 (map span_of (pieces l.holes.counts.now (us (rows l.holes.corners.now)))) l.initial.out) l.out l.i-iterator.count (map span_of_hole (loops_in l.i-iterator.iter))

use Rattle.std.proofs.Common.{map}
use Rattle.lists.specs.Placed.{placed}
use Rattle.lists.proofs.Remaining.{Remaining}
use Rattle.tables.specs.Loops.{loops_by}
use Rattle.closed_region.specs.Loops.{box_in}
use Rattle.closed_region.proofs.box_table.boxes_into.Given as goal

abbrev pub invariant-loop-i : goal.invariant-loop-i
invariant-loop-i g l =
    let loops = loops_by g.R.TableRow.rows_of in
    Remaining (placed 0 (map box_in (loops l.loops)) l.initial.boxes) l.boxes l.i-iterator.count (map box_in (loops l.i-iterator.iter))

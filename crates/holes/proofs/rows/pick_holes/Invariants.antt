use Rattle.lists.specs.Placed.{placed}
use Rattle.tables.specs.Rows.{rows}
use Rattle.tables.specs.Loops.{loops_in}
use Rattle.holes.proofs.Later.{later, Picking}
use Rattle.holes.proofs.rows.pick_holes.Given as goal

abbrev pub invariant-loop-i : goal.invariant-loop-i
invariant-loop-i l =
    Picking l.a l.b (placed l.at (later l.a l.b 0 (loops_in l.loops)) (rows l.initial.out)) (rows l.out) l.here l.i-iterator.count
    (loops_in l.i-iterator.iter)

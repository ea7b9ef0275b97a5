use Rattle.std.proofs.Common.{◌≡◌, ◌+◌, length}
use Rattle.tables.specs.Loops.{loops_in}
use Rattle.holes.proofs.Later.{later}
use Rattle.holes.proofs.rows.count_rows.Given as goal

abbrev pub invariant-loop-i : goal.invariant-loop-i
invariant-loop-i l =
    l.sum + length (later l.a l.b l.i-iterator.count (loops_in l.i-iterator.iter)) ≡ length (later l.a l.b 0 (loops_in l.loops))

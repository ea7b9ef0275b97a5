use Rattle.std.proofs.Common.{◌≡◌, ◌≤◌, ◌-◌, [], get_or}
use Rattle.tables.specs.Loops.{loops_in}
use Rattle.tables.proofs.loops.loop_of.Given as goal

abbrev pub invariant-loop-i : goal.invariant-loop-i
invariant-loop-i l =
    (l.i-iterator.count ≤ l.k) × (get_or (loops_in l.i-iterator.iter) (l.k - l.i-iterator.count) [] ≡ get_or (loops_in l.loops) l.k [])

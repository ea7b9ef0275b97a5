use Prim.Native.Nat.{◌≤◌}
use lib.ListN.{length}
use Rattle.results.proofs.Rows as rows
use Rattle.results.proofs.put_counts.Given as goal

abbrev pub invariant-loop-i : goal.invariant-loop-i
invariant-loop-i l = (l.i ≤ length l.counts) × rows.Counts l.initial.out l.at l.counts l.out l.i

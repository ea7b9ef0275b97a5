use mathlib.Core.Path.{◌≡◌}
use Prim.Native.Nat.{◌+◌}
use lib.ListN.{length}
use Rattle.results.proofs.Sizes as sizes
use Rattle.results.proofs.result_size.Given as goal

abbrev pub invariant-loop-count : goal.invariant-loop-count
invariant-loop-count l = sizes.Summing l.counts l.corners l.count-index × ((l.n ≡ length l.counts) × (l.holes + 1 ≡ l.n))

use Prim.Native.Nat.{◌≤◌}
use lib.ListN.{length}
use Rattle.results.proofs.Corners.{uv_bytes}
use Rattle.results.proofs.Stores.{Storing}
use Rattle.results.proofs.put_parameters.Given as goal

abbrev pub invariant-loop-i : goal.invariant-loop-i
invariant-loop-i g l = (l.i ≤ length l.t) × Storing uv_bytes 16 l.initial.out l.at (g.R.TableRow.rows_of l.t) l.out l.i

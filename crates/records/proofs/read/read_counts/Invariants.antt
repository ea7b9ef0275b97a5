use Prim.Native.Nat.{◌+◌, ◌*◌, ◌≤◌}
use lib.ListN.{length}
use Rattle.records.specs.Face.{header_size, loops, counts}
use Rattle.records.proofs.Columns as columns
use Rattle.records.proofs.read.read_counts.Given as goal

abbrev pub invariant-loop-k : goal.invariant-loop-k
invariant-loop-k l = columns.Filling (counts l.face) l.initial.dst l.dst l.k × (header_size + 2 * loops l.face ≤ length l.face)

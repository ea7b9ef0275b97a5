use mathlib.Core.Path.{◌≡◌}
use Prim.Native.Nat.{◌<◌}
use Rattle.records.specs.Face.{loops}
use Rattle.records.proofs.Counting as counting
use Rattle.records.proofs.points.Given as goal

abbrev pub invariant-loop-k : goal.invariant-loop-k
invariant-loop-k l = counting.Adding l.face.bytes.now l.total l.k × ((l.k-end ≡ loops l.face.bytes.now) × (l.k-end < 256))

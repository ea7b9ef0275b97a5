use mathlib.Core.Path.{◌≡◌}
use Prim.Native.Nat.{◌<◌}
use Rattle.records.specs.Face.{loops}
use Rattle.records.proofs.Counting.{Walking}
use Rattle.records.proofs.check.first_loop.Given as goal

abbrev pub invariant-loop-k : goal.invariant-loop-k
invariant-loop-k g l = Walking (goal.F-post g l.refuses) l.face.bytes.now l.total l.k × ((l.k-end ≡ loops l.face.bytes.now) × (l.k-end < 256))

-- Corners that are put together from their u, their v and their positions.
use Prim.Native.Nat.{ℕ, zero, suc, ◌<◌}
use mathlib.Core.Path.{◌≡◌, refl, ap}
use mathlib.Core.List.{List, [], ◌∷◌}
use native.Mathlib.Omega.{arith}
use lib.Ieee.{Float}
use lib.ListN.{length, get_or}
use Rattle.tables.specs.Corners.{Corner, corners_from}

module _ {A : Type 0} where
  pub length_from : (ul vl : List Float) (ps : List A) → length ul ≡ length ps → length vl ≡ length ps → length (corners_from ul vl ps) ≡ length ps
  unfolding corners_from
  length_from [] vl [] e f = refl
  length_from [] vl (p ∷ ps) e f = absurd (omega arith)
  length_from (u ∷ ul) vl [] e f = absurd (omega arith)
  length_from (u ∷ ul) [] (p ∷ ps) e f = absurd (omega arith)
  length_from (u ∷ ul) (v ∷ vl) (p ∷ ps) e f = ap suc (length_from ul vl ps (omega arith) (omega arith))

  pub corner-from : (ul vl : List Float) (ps : List A) (i : ℕ) (z : Corner A) → length ul ≡ length ps → length vl ≡ length ps → i < length ps
      → get_or (corners_from ul vl ps) i z ≡ record { u = get_or ul i z.u; v = get_or vl i z.v; at = get_or ps i z.at }
  unfolding corners_from
  corner-from ul vl [] i z e f h = absurd (omega arith)
  corner-from [] vl (p ∷ ps) i z e f h = absurd (omega arith)
  corner-from (u ∷ ul) [] (p ∷ ps) i z e f h = absurd (omega arith)
  corner-from (u ∷ ul) (v ∷ vl) (p ∷ ps) zero z e f h = refl
  corner-from (u ∷ ul) (v ∷ vl) (p ∷ ps) (suc i) z e f h = corner-from ul vl ps i z (omega arith) (omega arith) (omega arith)

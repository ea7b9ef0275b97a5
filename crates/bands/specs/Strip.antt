-- The strip between two rings. The sentences are those of 01, "Bands".
use Rattle.std.specs.Prelude.{ℕ, Bool, cond, List, [], ◌∷◌, ◌++◌, map, reverse, Float, Option}
use Rattle.std.specs.Float.Ieee.{le}
use Rattle.numbers.specs.Order.{min_of, max_of}
use Rattle.numbers.specs.Rounded.{◌⊕◌}
use Rattle.surfaces.specs.Rungs.{inner}
use Rattle.tables.specs.Corners.{Corner, Corners}

-- What a band takes from its surface and its face: how u and v come round, whether the face's sense is the surface's, when two positions are one, the
-- point at u and v, the ladder of n steps from one v up to another, and how many steps lie between two v.
pub record Setting (A : Type 0) : Type 0 where
  pub period : Float
  pub v_period : Option Float
  pub sense : Bool
  pub same : A → A → Bool
  pub point_at : Float → Float → A
  pub rungs : Float → Float → ℕ → List Float
  pub steps : Float → Float → ℕ

-- the v of a wall, where `rungs` is the ladder of n steps from one v up to another, and `steps` how many lie between two v
module _ (rungs : Float → Float → ℕ → List Float) (steps : Float → Float → ℕ) where
  -- "the inner rungs of one `merge_even`, with the steps of `v_steps`, from the lesser to the greater of the two rings' first v"
  unfoldable pub ladder : Float → Float → List Float
  ladder a b = let lo = min_of a b in let hi = max_of a b in inner (rungs lo hi (steps lo hi))

  -- the ladder as the first wall reads it, from the lower ring's first v to the upper's
  unfoldable pub heights : Float → Float → List Float
  heights lower upper = cond (le lower upper) (ladder lower upper) (reverse (ladder lower upper))

module _ {A : Type 0} (S : Setting A) where
  -- a wall at u; "positions are taken at the lower ring's first u", begin
  abbrev pub wall : Float → Float → List Float → Corners A
  wall begin u vs = map (λ v. record { u = u; v = v; at = S.point_at begin v }) vs

  -- "Read round, the strip is the lower ring with u rising, one wall, the upper ring with u falling, the other wall". Each ring's first point stands
  -- again where its wall begins or ends.
  unfoldable pub strip : Corners A → Corners A → Corners A
  strip [] upper = reverse upper
  strip (l ∷ lower) [] = l ∷ lower
  strip (l ∷ lower) (u ∷ upper) =
      let begin = l.u in
      let end = l.u ⊕ S.period in
      let up = heights S.rungs S.steps l.v u.v in
      let corner₁ : Corner A = record { u = end; v = l.v; at = l.at } in
      let corner₂ : Corner A = record { u = end; v = u.v; at = u.at } in
      (l ∷ lower) ++ (corner₁ ∷ wall begin end up) ++ (corner₂ ∷ reverse (u ∷ upper)) ++ reverse (wall begin begin up)

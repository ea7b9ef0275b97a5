-- The box of a loop, one corner after the other.
use Prim.Native.Nat.{ℕ, ◌+◌, ◌≤◌, ◌<◌}
use mathlib.Core.Path.{◌≡◌, refl, ◌∙◌}
use mathlib.Core.List.{[], ◌∷◌, foldl}
use lib.ListN.{length, get_or}
use Rattle.numbers.specs.Order.{min_of, max_of}
use Rattle.numbers.specs.declared.math.Vec3.{Vec3}
use Rattle.lists.proofs.Folds.{Folding, folding_turn, folding_end}
use Rattle.loops.specs.Span.{least_of, greatest_of}
use Rattle.tables.specs.Corners.{Corner, Corners, us, vs}
use Rattle.tables.specs.Rows.{none}
use Rattle.closed_region.specs.declared.boxes.Bounds.{Bounds}
use Rattle.closed_region.specs.Loops.{box_in}
use Rattle.closed_region.specs.ByOutermost.{empty_box, hull_of}

-- ---- the box of a loop

abbrev grown : Bounds → Corner Vec3 → Bounds
grown b c = hull_of b (record { ulo = c.u; uhi = c.u; vlo = c.v; vhi = c.v })

grown_all : (r : Corners Vec3) (b : Bounds)
    → foldl grown b r ≡ record { ulo = foldl min_of b.ulo (us r); uhi = foldl max_of b.uhi (us r); vlo = foldl min_of b.vlo (vs r); vhi = foldl max_of b.vhi (vs r) }
grown_all [] b = refl
grown_all (c ∷ r) b = grown_all r (grown b c)

module _ (r : Corners Vec3) where
  abbrev pub Growing : Bounds → ℕ → Type 0
  Growing b i = Folding grown empty_box r b i

  pub growing_turn : (b b' : Bounds) (i : ℕ) → Growing b i → i < length r
      → b' ≡ hull_of b (record { ulo = (get_or r i none).u; uhi = (get_or r i none).u; vlo = (get_or r i none).v; vhi = (get_or r i none).v }) → Growing b' (i + 1)
  growing_turn b b' i g h e = folding_turn grown empty_box r none b b' i g h e

  pub growing_end : (b : Bounds) (i : ℕ) → Growing b i → length r ≤ i → b ≡ box_in r
  unfolding least_of greatest_of
  growing_end b i g h = folding_end grown empty_box r b i g h ∙ grown_all r empty_box

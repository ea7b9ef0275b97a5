-- A band takes the inner rungs alone: with another ladder of the same inner rungs it is the same band. So 02, N2, which moves the last rung, moves no band.
use mathlib.Core.Path.{◌≡◌, refl, ap}
use mathlib.Core.Bool.{Bool, cond}
use mathlib.Core.List.{List, [], ◌∷◌, ◌++◌, reverse}
use lib.Ieee.{Float, le}
use Rattle.numbers.specs.Order.{min_of, max_of}
use Rattle.numbers.specs.Rounded.{◌⊕◌}
use Rattle.numbers.specs.declared.math.Frame.{Frame}
use Rattle.numbers.specs.declared.math.Vec3.{Vec3}
use Rattle.surfaces.specs.Rungs.{kept_divisions}
use Rattle.surfaces.specs.declared.options.Resolved.{Resolved}
use Rattle.surfaces.specs.declared.surface.Surface.{Surface}
use Rattle.surfaces.proofs.knots.Rungs.{inner-kept}
use Rattle.loops.specs.Repeats.{drop_repeats}
use Rattle.bands.specs.Band.{joined, lower_first, lower_ring, upper_ring, strip_of, outer}
use Rattle.bands.specs.Columns.{steps_on, heights_on, heights_kept, setting_of, setting_with}
use Rattle.tables.specs.Corners.{Corner, Corners}
use Rattle.bands.specs.Given.{Given}
use Rattle.bands.specs.Strip.{ladder, heights, wall, strip}

-- ---- a wall

pub heights-kept : (surface : Surface) (options : Resolved) (a b : Float) → heights_on surface options a b ≡ heights_kept surface options a b
unfolding heights ladder
heights-kept surface options a b =
    let lo = min_of a b in
    let hi = max_of a b in
    ap (λ (l : List Float). cond (le a b) l (reverse l)) (inner-kept lo hi (steps_on surface options lo hi))

-- ---- a band

module _ (frame : Frame) (surface : Surface) (options : Resolved) (period : Float) (sense : Bool) where
  strip-kept : (lower upper : Corners Vec3)
      → strip (setting_of frame surface options period sense) lower upper ≡ strip (setting_with kept_divisions frame surface options period sense) lower upper
  unfolding strip
  strip-kept [] upper = refl
  strip-kept (l ∷ lower) [] = refl
  strip-kept (l ∷ lower) (u ∷ upper) =
      let S = setting_of frame surface options period sense in
      let begin = l.u in
      let end = l.u ⊕ period in
      let corner₁ : Corner Vec3 = record { u = end; v = l.v; at = l.at } in
      let corner₂ : Corner Vec3 = record { u = end; v = u.v; at = u.at } in
      ap (λ (up : List Float). (l ∷ lower) ++ (corner₁ ∷ wall S begin end up) ++ (corner₂ ∷ reverse (u ∷ upper)) ++ reverse (wall S begin begin up))
      (heights-kept surface options l.v u.v)

  pub band-kept : (given : Given Vec3)
      → outer (setting_of frame surface options period sense) given ≡ outer (setting_with kept_divisions frame surface options period sense) given
  unfolding outer strip_of lower_ring upper_ring lower_first joined
  band-kept given =
      let S = setting_of frame surface options period sense in
      ap (drop_repeats (λ (a b : Corner Vec3). S.same a.at b.at)) (strip-kept (lower_ring S given) (upper_ring S given))

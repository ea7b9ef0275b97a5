-- Every real of a result is a double: what is read from the record is one, and each rounded step gives one.
use Prim.Native.Nat.{ℕ}
use mathlib.Core.Path.{subst, sym}
use mathlib.Core.Logic.{⊎_elim}
use mathlib.Core.Bool.{Bool, true, false, cond, not, ◌&&◌}
use mathlib.Core.List.{List, [], ◌∷◌}
use lib.Ieee.{Float, nan, binary64, lt, le}
use lib.Ieee.Fits.{add-fits, mul-fits}
use Rattle.std.proofs.Common.{Option, Some, None}
use Rattle.numbers.specs.Order.{min_of, max_of}
use Rattle.numbers.specs.Rounded.{◌⊕◌}
use Rattle.numbers.specs.declared.math.Vec3.{Vec3}
use Rattle.numbers.specs.declared.math.Frame.{Frame}
use Rattle.surfaces.specs.declared.surface.Surface.{Surface}
use Rattle.surfaces.specs.declared.surface.Surface.TheVariants.{Plane, Cylinder, Cone, Sphere, Torus}
use Rattle.surfaces.specs.Points.{plane_of, raised_of, sphere_of, torus_of, point_of}
use Rattle.surfaces.specs.Rungs.{division, rungs, inner}
use Rattle.surfaces.proofs.knots.Rungs.{inner_each, rungs_each}
use Rattle.loops.specs.Area.{area_of}
use Rattle.bands.specs.Band.{lift, lower_first, lower_ring, upper_ring, strip_of, outer, holes}
use Rattle.tables.specs.Corners.{Corner, Corners, move_u}
use Rattle.bands.specs.Given.{Given}
use Rattle.bands.specs.Strip.{Setting, ladder, heights, wall, strip}
use Rattle.records.specs.Result.{Fits, FitsXyz}
use Rattle.lists.specs.Elements.{All, and}
use Rattle.call.proofs.Each.{all_first, all_at, all_append, all_reverse, all_if, all_map, all_drop_repeats}
use Rattle.call.proofs.Rings.{EachGiven, pick_each, lower_each, holes_each}

-- ---- surfaces

pub point_fits : (f : Frame) (s : Surface) (u v : Float) → FitsXyz (point_of f s u v)
unfolding point_of plane_of raised_of sphere_of torus_of
point_fits f Plane u v = record { x = add-fits binary64 _ _; y = add-fits binary64 _ _; z = add-fits binary64 _ _ }
point_fits f (Cylinder R) u v = record { x = add-fits binary64 _ _; y = add-fits binary64 _ _; z = add-fits binary64 _ _ }
point_fits f (Cone R a) u v = record { x = add-fits binary64 _ _; y = add-fits binary64 _ _; z = add-fits binary64 _ _ }
point_fits f (Sphere R) u v = record { x = add-fits binary64 _ _; y = add-fits binary64 _ _; z = add-fits binary64 _ _ }
point_fits f (Torus R r) u v = record { x = add-fits binary64 _ _; y = add-fits binary64 _ _; z = add-fits binary64 _ _ }

division-fits : (lo hi : Float) (n i : ℕ) → Fits (division lo hi n i)
unfolding division
division-fits lo hi n i = add-fits binary64 _ _

-- each inner rung is a division, and each other one too or the upper end
pub inner_fit : (lo hi : Float) (n : ℕ) → All Fits (inner (rungs lo hi n))
inner_fit lo hi n = all_at (inner (rungs lo hi n)) nan (λ j h. let d = inner_each lo hi n j h in subst Fits (sym d.is) (division-fits lo hi n d.at))

pub rungs_fit : (lo hi : Float) (n : ℕ) → Fits hi → All Fits (rungs lo hi n)
rungs_fit lo hi n f =
    all_at (rungs lo hi n) nan (λ j h. ⊎_elim (λ d. subst Fits (sym d.is) (division-fits lo hi n d.at)) (λ e. subst Fits (sym e) f) (rungs_each lo hi n j h))

-- ---- loops

pub record FitsCorner (c : Corner Vec3) : Type 0 where
  pub u : Fits c.u
  pub v : Fits c.v
  pub at : FitsXyz c.at

abbrev pub FitsCorners : Corners Vec3 → Type 0
FitsCorners r = All FitsCorner r

pub area-fits : (us vs : List Float) → Fits (area_of us vs)
unfolding area_of
area-fits us vs = mul-fits binary64 _ _

moved-fits : (f : Float → Float) → ((x : Float) → Fits (f x)) → (c : Corner Vec3) → FitsCorner c → FitsCorner (move_u f c)
moved-fits f to c h = record { u = to c.u; v = h.v; at = h.at }

-- ---- a band

lift-fits : (p : Option Float) (with_l with_u : Bool) (mean_l mean_u v : Float) → Fits v → Fits (lift p with_l with_u mean_l mean_u v)
unfolding lift
lift-fits None with_l with_u mean_l mean_u v h = h
lift-fits (Some p) with_l with_u mean_l mean_u v h = at-lift (with_l && (not with_u && lt mean_u mean_l))
  where
    at-lift : (t : Bool) → Fits (cond t (v ⊕ p) v)
    at-lift true = add-fits binary64 v p
    at-lift false = h

module _ (S : Setting Vec3) (points : (u v : Float) → FitsXyz (S.point_at u v)) (ladders : (lo hi : Float) (n : ℕ) → All Fits (inner (S.rungs lo hi n))) where
  heights_fit : (a b : Float) → All Fits (heights S.rungs S.steps a b)
  unfolding heights ladder
  heights_fit a b =
      let lo = min_of a b in
      let hi = max_of a b in
      let rungs_are = ladders lo hi (S.steps lo hi) in
      all_if (le a b) rungs_are (all_reverse rungs_are)

  wall-fits : (begin u : Float) → Fits u → {vs : List Float} → All Fits vs → FitsCorners (wall S begin u vs)
  wall-fits begin u h vs = all_map _ (λ v f. record { u = h; v = f; at = points begin v }) vs

  strip-fits : (lower upper : Corners Vec3) → FitsCorners lower → FitsCorners upper → FitsCorners (strip S lower upper)
  unfolding strip
  strip-fits [] upper p q = all_reverse q
  strip-fits (l ∷ lower) [] p q = p
  strip-fits (l ∷ lower) (u ∷ upper) p q =
      let end = add-fits binary64 l.u S.period in
      let c = all_first p in
      let d = all_first q in
      let up = heights_fit l.v u.v in
      all_append (all_append (all_append p (and (record { u = end; v = c.v; at = c.at }) (wall-fits l.u _ end up)))
      (and (record { u = end; v = d.v; at = d.at }) (all_reverse q))) (all_reverse (wall-fits l.u _ c.u up))

  module _ (g : Given Vec3) (h : EachGiven FitsCorner g) where
    lower-fits : FitsCorners (lower_ring S g)
    lower-fits = lower_each moved-fits S g h

    upper_fits : FitsCorners (upper_ring S g)
    unfolding upper_ring
    upper_fits =
        all_map _ (λ c f. record { u = f.u; v = lift-fits S.v_period _ _ _ _ c.v f.v; at = f.at })
        (pick_each moved-fits S g h (not (lower_first S g)))

    pub outer-fits : FitsCorners (outer S g)
    unfolding outer strip_of
    outer-fits = all_drop_repeats _ (strip_of S g) (strip-fits (lower_ring S g) (upper_ring S g) lower-fits upper_fits)

    pub holes_fit : All FitsCorners (holes S g)
    holes_fit = holes_each moved-fits S g h

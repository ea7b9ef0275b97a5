-- The result of each path can be written: few loops, few corners, all of doubles.
use Prim.Native.Nat.{ℕ, ◌+◌, ◌≤◌}
use mathlib.Core.Path.{◌≡◌, refl, ap}
use mathlib.Core.Bool.{Bool, true, false, cond, ◌&&◌}
use mathlib.Core.List.{List, [], ◌∷◌, map}
use native.Mathlib.Omega.{arith}
use lib.ListN.{length, length-map}
use borrow.Author.Tests.{eqb-false}
use lib.Ieee.{Float, binary64, neg, eq}
use lib.Ieee.Bits.{of_bits-fits}
use lib.Ieee.Fits.{add-fits, neg-fits}
use Rattle.numbers.specs.Constants.{plus_zero, H}
use Rattle.numbers.specs.declared.math.Interval.{Interval}
use Rattle.numbers.specs.declared.math.Vec2.{Vec2}
use Rattle.numbers.specs.declared.math.Vec3.{Vec3}
use Rattle.numbers.specs.declared.math.Frame.{Frame}
use Rattle.surfaces.specs.declared.options.Resolved.{Resolved}
use Rattle.surfaces.specs.declared.surface.Surface.{Surface}
use Rattle.surfaces.specs.declared.surface.Surface.TheVariants.{Plane, Cylinder, Cone, Sphere, Torus}
use Rattle.surfaces.specs.Domains.{between, full_turn, domain_of}
use Rattle.surfaces.specs.Rungs.{inner}
use Rattle.loops.proofs.Trailing.{repeats_fewer}
use Rattle.closed_region.specs.Outer.{holes_of}
use Rattle.closed_region.specs.Rephase.{shift_of, moved, rephased}
use Rattle.closed_region.specs.Rephase as Rephase
use Rattle.closed_region.specs.declared.rephase.Branch.{Branch}
use Rattle.full_domain.specs.Boundary.{sides, sides_of, rungs_of, whole_corners, position_of, whole_area}
use Rattle.full_domain.proofs.boundary.Meaning.{few-corners}
use Rattle.bands.specs.Band.{strip_of, outer, holes}
use Rattle.tables.specs.Corners.{Corner, Corners, us, vs, positions}
use Rattle.tables.specs.Moves.{moved_by}
use Rattle.tables.specs.declared.moves.Move.TheVariants.{Up}
use Rattle.bands.proofs.Demand.{holes-counts, holes_as_many}
use Rattle.records.specs.Bytes.{◌=?◌}
use Rattle.lists.specs.Elements.{sum, All, none, and}
use Rattle.records.specs.Face.{loops, points}
use Rattle.records.specs.declared.limits.Limits.{Limits}
use Rattle.records.specs.Encodable.{Encodable, most_corners}
use Rattle.records.specs.Result.{Fits, FitsUv, FitsXyz, Writable, Loop, corners_of, count_of, result_of}
use Rattle.records.specs.Result as Result
use Rattle.records.proofs.Pieces.{writable}
use Rattle.call.specs.Face.{frame_in, surface_in, options_in, u_period_in, v_period_in, loops_in, wrapping, setting_in, given_in}
use Rattle.call.specs.Later.{strip_points}
use Rattle.call.specs.Paths.{ResultLoop, signed_area, with_area, outer_number, outer_loop, branch_of, rephased_hole, closed_loops, loops_from, wrapped_loops, whole_loop, uv_of, xyz_of, path_in, result_loops, result_in}
use Rattle.call.proofs.Doubles.{FitsCorners, point_fits, inner_fit, rungs_fit, area-fits, outer-fits, holes_fit}
use Rattle.call.proofs.Each.{all_get_d, all_append, all_take, all_drop, all_drop_last, all_reverse, all_map}
use Rattle.call.proofs.Loops.{corners_fit, loops_many, loops-total, loops_fit, given-fits, holes_many, holes-points}
use Rattle.call.proofs.Sizes.{total, holes-few, holes-total, corners-few, all_short_lem}

-- ---- loops of doubles

pub record FitsLoop (l : ResultLoop) : Type 0 where
  pub area : Fits l.area
  pub corners : FitsCorners l.corners

with_area-fits : (r : Corners Vec3) → FitsCorners r → FitsLoop (with_area r)
with_area-fits r h = record { area = area-fits (us r) (vs r); corners = h }

all_corners : {ls : List ResultLoop} → All FitsLoop ls → FitsCorners (corners_of ls)
unfolding corners_of
all_corners none = none
all_corners (and h hs) = all_append h.corners (all_corners hs)

-- ---- what can be written: within the limits, an outer loop and a hole for each given loop with the corners of a strip and of all given points

pub record Fine (L : Limits) (ls : List ResultLoop) : Type 0 where
  pub some : 1 ≤ length ls
  pub few : length ls ≤ L.loops + 1
  pub corners : sum (map count_of ls) ≤ most_corners L
  pub fit : All FitsLoop ls

pub fine_writable : (L : Limits) → Encodable L → (path : ℕ) (ls : List ResultLoop) → Fine L ls → Writable (result_of uv_of xyz_of path ls)
fine_writable L fit path ls f =
    let n = f.few in
    let c = f.corners in
    let cs = all_corners f.fit in
    writable uv_of xyz_of path ls f.some (omega arith) (all_short_lem _ (omega arith)) (all_map Result.area_of (λ l h. h.area) f.fit)
    (all_map uv_of (λ k h. record { u = h.u; v = h.v }) cs) (all_map xyz_of (λ k h. h.at) cs)

-- ---- closed faces

module _ (b : Branch) where
  record FitsParts (l : Rephase.Loop) : Type 0 where
    pub us : All Fits l.us
    pub vs : All Fits l.vs
    pub area : Fits l.area

  moved-fits : (su sv : Float) (l : Rephase.Loop) → FitsParts l → FitsParts (moved su sv l)
  unfolding moved
  moved-fits su sv l h = record {
    us = all_map (moved_by (Up su)) (λ u f. add-fits binary64 u su) h.us;
    vs = all_map (moved_by (Up sv)) (λ v f. add-fits binary64 v sv) h.vs;
    area = area-fits _ _;
  }

  rephased-fits : (l : Rephase.Loop) → FitsParts l → FitsParts (rephased b l)
  unfolding rephased
  rephased-fits l h = pick (eq (su l) plus_zero && eq (sv l) plus_zero)
    where
      su : Rephase.Loop → Float
      su l = shift_of b.umid b.uperiod l.us

      sv : Rephase.Loop → Float
      sv l = shift_of b.vmid b.vperiod l.vs

      pick : (t : Bool) → FitsParts (cond t l (moved (su l) (sv l) l))
      pick true = h
      pick false = moved-fits (su l) (sv l) l h

  hole-fits : (r : Corners Vec3) → FitsCorners r → FitsLoop (rephased_hole b r)
  unfolding rephased_hole
  hole-fits r h =
      let parts = rephased-fits (record { us = us r; vs = vs r; area = signed_area r })
      (record { us = all_map _ (λ c f. f.u) h; vs = all_map _ (λ c f. f.v) h; area = area-fits (us r) (vs r) }) in
      record { area = parts.area; corners = corners_fit parts.us parts.vs (all_map _ (λ c f. f.at) h) }

  hole-few : (r : Corners Vec3) → count_of (rephased_hole b r) ≤ length r
  unfolding rephased_hole
  hole-few r =
      let l = rephased b (record { us = us r; vs = vs r; area = signed_area r }) in
      let a = corners-few l.us l.vs (positions r) in
      let e = length-map r (λ (c : Corner Vec3). c.at) in
      omega arith

  rephased-counts : (ls : List (Corners Vec3)) → sum (map count_of (map (rephased_hole b) ls)) ≤ total ls
  unfolding sum
  rephased-counts [] = omega arith
  rephased-counts (l ∷ ls) = let a = hole-few l in let h = rephased-counts ls in omega arith

module _ (L : Limits) (s : List ℕ) (loops_are : loops s ≤ L.loops) (points_are : points s ≤ L.points) where
  rest-fits : (n : ℕ) → All FitsCorners (holes_of n (loops_in s))
  unfolding holes_of
  rest-fits n = all_append (all_take n (loops_fit s)) (all_drop (n + 1) (loops_fit s))

  closed_fine : Fine L (closed_loops (u_period_in s) (v_period_in s) (loops_in s))
  unfolding closed_loops outer_loop sum
  closed_fine =
      let n : ℕ = outer_number (loops_in s) in
      let b : Branch = branch_of (u_period_in s) (v_period_in s) (outer_loop (loops_in s)) in
      let rest : List (Corners Vec3) = holes_of n (loops_in s) in
      let all = loops_many s in
      let long = length-map rest (rephased_hole b) in
      let fewer = holes-few n (loops_in s) in
      let counts = rephased-counts b rest in
      let within = holes-total n (loops_in s) in
      let given = loops-total s in
      record {
        some = omega arith;
        few = omega arith;
        corners = omega arith;
        fit = and (with_area-fits (outer_loop (loops_in s)) (all_get_d (loops_fit s) n [] none)) (all_map (rephased_hole b) (hole-fits b) (rest-fits n));
      }

-- ---- bands

loops_of_few : (areas : List Float) (ls : List (Corners Vec3)) → length (loops_from areas ls) ≤ length ls
unfolding loops_from
loops_of_few [] ls = omega arith
loops_of_few (a ∷ areas) [] = omega arith
loops_of_few (a ∷ areas) (l ∷ ls) = let h = loops_of_few areas ls in omega arith

loops_of_counts : (areas : List Float) (ls : List (Corners Vec3)) → sum (map count_of (loops_from areas ls)) ≤ total ls
unfolding loops_from sum
loops_of_counts [] ls = omega arith
loops_of_counts (a ∷ areas) [] = omega arith
loops_of_counts (a ∷ areas) (l ∷ ls) = let h = loops_of_counts areas ls in omega arith

loops_of_fit : {areas : List Float} {ls : List (Corners Vec3)} → All Fits areas → All FitsCorners ls → All FitsLoop (loops_from areas ls)
unfolding loops_from
loops_of_fit none hs = none
loops_of_fit (and a areas) none = none
loops_of_fit (and a areas) (and h hs) = and (record { area = a; corners = h }) (loops_of_fit areas hs)

module _ (s : List ℕ) where
  abbrev after : List (Corners Vec3)
  after = holes (setting_in s) (given_in s)

  abbrev areas : List Float
  areas = map signed_area (given_in s).holes

  points_fit_lem : (u v : Float) → FitsXyz ((setting_in s).point_at u v)
  unfolding setting_in
  points_fit_lem u v = point_fits (frame_in s) (surface_in s) u v

  ladders_fit : (lo hi : Float) (n : ℕ) → All Fits (inner ((setting_in s).rungs lo hi n))
  unfolding setting_in
  ladders_fit lo hi n = inner_fit lo hi n

module _ (L : Limits) (s : List ℕ) (loops_are : loops s ≤ L.loops) (points_are : points s ≤ L.points) (strip_is : strip_points s ≤ L.strip) where
  outer-few : length (outer (setting_in s) (given_in s)) ≤ L.strip
  unfolding outer strip_points
  outer-few =
      let h = repeats_fewer (λ (a b : Corner Vec3). (setting_in s).same a.at b.at) (strip_of (setting_in s) (given_in s)) in omega arith

  wrapped_fine : Fine L (wrapped_loops s)
  unfolding wrapped_loops sum
  wrapped_fine =
      let first = outer-few in
      let few = loops_of_few (areas s) (after s) in
      let counts = loops_of_counts (areas s) (after s) in
      let long = holes_as_many (setting_in s) (given_in s) in
      let points-of = ap sum (holes-counts (setting_in s) (given_in s)) in
      let many = holes_many s in
      let given = holes-points s in
      record {
        some = omega arith;
        few = omega arith;
        corners = omega arith;
        fit = and (with_area-fits (outer (setting_in s) (given_in s)) (outer-fits (setting_in s) (points_fit_lem s) (ladders_fit s) (given_in s) (given-fits s)))
            (loops_of_fit (all_map signed_area (λ r h. area-fits (us r) (vs r)) (given-fits s).holes) (holes_fit (setting_in s) (points_fit_lem s) (ladders_fit s) (given_in s) (given-fits s)));
      }

-- ---- whole surfaces

record FitsInterval (i : Interval) : Type 0 where
  pub lo : Fits i.lo
  pub hi : Fits i.hi

sides_fit : (us vs : List Float) (ui vi : Interval) → All Fits us → All Fits vs → FitsInterval ui → FitsInterval vi → All FitsUv (sides us vs ui vi)
unfolding sides
sides_fit us vs ui vi hu hv iu iv =
    all_append (all_map _ (λ u h. record { u = h; v = iv.lo }) (all_drop_last us hu))
    (all_append (all_map _ (λ v h. record { u = iu.hi; v = h }) (all_drop_last vs hv))
    (all_append (all_map _ (λ u h. record { u = h; v = iv.hi }) (all_reverse (all_drop 1 hu)))
    (all_map _ (λ v h. record { u = iu.lo; v = h }) (all_reverse (all_drop 1 hv)))))

turn_fits : FitsInterval full_turn
turn_fits = record { lo = of_bits-fits binary64 _; hi = of_bits-fits binary64 _ }

quarters_fit : FitsInterval (between (neg H) H)
quarters_fit = record { lo = neg-fits binary64 H (of_bits-fits binary64 _); hi = of_bits-fits binary64 _ }

whole_corners_fit : (s : Surface) (o : Resolved) → All FitsUv (whole_corners s o)
unfolding whole_corners sides_of rungs_of domain_of
whole_corners_fit Plane o = none
whole_corners_fit (Cylinder R) o = none
whole_corners_fit (Cone R a) o = none
whole_corners_fit (Sphere R) o =
    sides_fit _ _ _ _ (rungs_fit _ _ _ turn_fits.hi) (rungs_fit _ _ _ quarters_fit.hi) turn_fits quarters_fit
whole_corners_fit (Torus R r) o = sides_fit _ _ _ _ (rungs_fit _ _ _ turn_fits.hi) (rungs_fit _ _ _ turn_fits.hi) turn_fits turn_fits

position-fits : (s : Surface) (f : Frame) (c : Vec2) → FitsXyz (position_of s f c)
unfolding position_of
position-fits s f c = point_fits f s _ _

module _ (L : Limits) (fit : Encodable L) (s : List ℕ) where
  abbrev corner_at : Vec2 → Corner Vec3
  corner_at c = record { u = c.u; v = c.v; at = position_of (surface_in s) (frame_in s) c }

  whole_fine : Fine L (whole_loop s ∷ [])
  unfolding whole_loop whole_area sum
  whole_fine =
      let most = few-corners (surface_in s) (options_in s) in
      let long = length-map (whole_corners (surface_in s) (options_in s)) corner_at in
      record {
        some = omega arith;
        few = omega arith;
        corners = omega arith;
        fit = and (record {
          area = area-fits _ _;
          corners = all_map corner_at (λ c h. record { u = h.u; v = h.v; at = position-fits (surface_in s) (frame_in s) c }) (whole_corners_fit (surface_in s) (options_in s));
        }) none;
      }

  -- ---- the result

  module _ (loops_are : loops s ≤ L.loops) (points_are : points s ≤ L.points) (strip_is : (wrapping s ≡ 0 → ⊥) → strip_points s ≤ L.strip) where
    pub result_fine : Fine L (result_loops s)
    unfolding result_loops
    result_fine = pick (loops s =? 0) (wrapping s =? 0) refl
      where
        pick : (a b : Bool) → (wrapping s =? 0) ≡ b → Fine L (cond a (whole_loop s ∷ []) (cond b (closed_loops (u_period_in s) (v_period_in s) (loops_in s)) (wrapped_loops s)))
        pick true b e = whole_fine
        pick false true e = closed_fine L s loops_are points_are
        pick false false e = wrapped_fine L s loops_are points_are (strip_is (eqb-false (wrapping s) 0 e))

    pub result_writable : Writable (result_in s)
    unfolding result_in
    result_writable = fine_writable L fit (path_in s) (result_loops s) result_fine

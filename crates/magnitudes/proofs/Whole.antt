-- Whole surfaces: the corners of a sphere or a torus have bounded parameters, positions and areas.
use Prim.Native.Nat.{ℕ, ◌+◌, ◌^◌, ◌≤◌}
use mathlib.Core.List.{List, map}
use native.Mathlib.Omega.{arith}
use lib.Dec.{lit<, lit≤}
use lib.ListN.{length-map}
use lib.Ieee.{Float, neg, le, of_bits}
use Rattle.std.proofs.Common.{Option, Some, None}
use Rattle.numbers.specs.Constants.{H}
use Rattle.numbers.specs.Within.{Within, EachUv}
use Rattle.numbers.specs.declared.math.Frame.{Frame}
use Rattle.numbers.specs.declared.math.Interval.{Interval}
use Rattle.numbers.specs.declared.math.Vec2.{Vec2}
use Rattle.numbers.specs.declared.math.Vec3.{Vec3}
use Rattle.numbers.proofs.Fractions.{turn_within}
use Rattle.numbers.proofs.Magnitude.{held_small, within_more, pow_more, neg_within, sub_within, pick_within, zero_within}
use Rattle.numbers.proofs.math.Frames.{In, Framed}
use Rattle.surfaces.specs.declared.options.Resolved.{Resolved}
use Rattle.surfaces.specs.declared.surface.Surface.{Surface}
use Rattle.surfaces.specs.declared.surface.Surface.TheVariants.{Plane, Cylinder, Cone, Sphere, Torus}
use Rattle.surfaces.specs.Domains.{full_turn, domain_of}
use Rattle.surfaces.specs.Rungs.{rungs}
use Rattle.surfaces.proofs.surface.Points.{Sizes, point_in}
use Rattle.full_domain.specs.Boundary.{clamped, steps_of, rungs_of, sides, sides_of, whole_corners, wrap_of, position_of, us_of, vs_of, whole_area}
use Rattle.full_domain.proofs.boundary.Meaning.{few-corners}
use Rattle.tables.specs.Corners.{Corner}
use Rattle.lists.specs.Elements.{All, none}
use Rattle.call.specs.Face.{frame_in, surface_in, options_in}
use Rattle.call.specs.Paths.{whole_loop}
use Rattle.call.proofs.Each.{all_append, all_drop, all_drop_last, all_reverse, all_map}
use Rattle.magnitudes.proofs.Closed.{SizedCorners, SizedLoop}
use Rattle.magnitudes.proofs.Loops.{rungs_each_within, area_within_lem}
use Rattle.magnitudes.proofs.Record.{Sized}

-- ---- the domain: from 0 to TAU, or from -H to H

record Ends (i : Interval) : Type 0 where
  lo : Within 7 i.lo
  hi : Within 7 i.hi

turn_ends : Ends full_turn
turn_ends = record { lo = zero_within 7; hi = turn_within }

quarter_within : Within 2 H
unfolding of_bits
quarter_within = lit≤ tt

-- the rungs between two such ends, of at most 256 steps
rungs-between : (i : Interval) → Ends i → (n : ℕ) → n ≤ 256 → All (Within 21) (rungs i.lo i.hi n)
rungs-between i e n h =
    rungs_each_within 7 14 n i.lo i.hi e.lo (sub_within 7 7 i.hi i.lo (held_small 14 (lit< tt)) e.hi e.lo) (omega arith) (omega arith) (lit< tt)
    (within_more 7 21 i.hi (lit≤ tt) e.hi)

-- ---- the corners

module _ (us vs : List Float) (ui vi : Interval) (hu : All (Within 21) us) (hv : All (Within 21) vs) (eu : Ends ui) (ev : Ends vi) where
  end : (x : Float) → Within 7 x → Within 21 x
  end x h = within_more 7 21 x (lit≤ tt) h

  sides_within : All (EachUv (Within 21)) (sides us vs ui vi)
  unfolding sides
  sides_within =
      all_append (all_map _ (λ u h. record { u = h; v = end vi.lo ev.lo }) (all_drop_last us hu))
      (all_append (all_map _ (λ v h. record { u = end ui.hi eu.hi; v = h }) (all_drop_last vs hv))
      (all_append (all_map _ (λ u h. record { u = h; v = end vi.hi ev.hi }) (all_reverse (all_drop 1 hu)))
      (all_map _ (λ v h. record { u = end ui.lo eu.lo; v = h }) (all_reverse (all_drop 1 hv)))))

few-steps : (n : ℕ) → clamped n ≤ 256
few-steps n = omega arith

corners_within : (s : Surface) (o : Resolved) → All (EachUv (Within 21)) (whole_corners s o)
unfolding whole_corners sides_of rungs_of steps_of domain_of
corners_within Plane o = none
corners_within (Cylinder R) o = none
corners_within (Cone R a) o = none
corners_within (Sphere R) o =
    let ends : Ends (record { lo = neg H; hi = H }) = record { lo = within_more 2 7 (neg H) (lit≤ tt) (neg_within 2 H quarter_within); hi = within_more 2 7 H (lit≤ tt) quarter_within } in
    sides_within _ _ full_turn (record { lo = neg H; hi = H }) (rungs-between full_turn turn_ends _ (few-steps _)) (rungs-between (record { lo = neg H; hi = H }) ends _ (few-steps _)) turn_ends ends
corners_within (Torus R r) o =
    sides_within _ _ full_turn full_turn (rungs-between full_turn turn_ends _ (few-steps _)) (rungs-between full_turn turn_ends _ (few-steps _)) turn_ends turn_ends

-- ---- their positions

-- the far end of a parameter that comes round is taken at the near one
wrap_within : (B : ℕ) (p : Option Float) (i : Interval) (t : Float) → Within B i.lo → Within B t → Within B (wrap_of p i t)
unfolding wrap_of
wrap_within B None i t v w = w
wrap_within B (Some p) i t v w = pick_within B i.lo t v w (le i.hi t)

module _ (f : Frame) (w : Framed f) where
  -- of a surface whose domain has bounded ends
  position_in : (s : Surface) → Sizes s → Within 21 (domain_of s).u.lo → Within 21 (domain_of s).v.lo → (c : Vec2) → EachUv (Within 21) c → In (2 ^ 32) (position_of s f c)
  unfolding position_of
  position_in s z lu lv c h =
      let u = wrap_of (domain_of s).u_period (domain_of s).u c.u in
      let v = wrap_of (domain_of s).v_period (domain_of s).v c.v in
      point_in f w u v (within_more 21 (2 ^ 22) u (lit≤ tt) (wrap_within 21 (domain_of s).u_period (domain_of s).u c.u lu h.u))
      (within_more 21 (2 ^ 22) v (lit≤ tt) (wrap_within 21 (domain_of s).v_period (domain_of s).v c.v lv h.v)) s z

  abbrev corner_at : Surface → Vec2 → Corner Vec3
  corner_at s c = record { u = c.u; v = c.v; at = position_of s f c }

  corner_sized : (s : Surface) → Sizes s → Within 21 (domain_of s).u.lo → Within 21 (domain_of s).v.lo → (c : Vec2) → EachUv (Within 21) c → Sized 21 21 (2 ^ 32) (corner_at s c)
  corner_sized s z lu lv c h = record { u = h.u; v = h.v; at = position_in s z lu lv c h }

  corners_whole : (s : Surface) (o : Resolved) → Sizes s → SizedCorners 21 21 (map (corner_at s) (whole_corners s o))
  unfolding whole_corners domain_of
  corners_whole Plane o z = none
  corners_whole (Cylinder R) o z = none
  corners_whole (Cone R a) o z = none
  corners_whole (Sphere R) o z =
      all_map (corner_at (Sphere R)) (corner_sized (Sphere R) z (zero_within 21) (within_more 2 21 (neg H) (lit≤ tt) (neg_within 2 H quarter_within))) (corners_within (Sphere R) o)
  corners_whole (Torus R r) o z = all_map (corner_at (Torus R r)) (corner_sized (Torus R r) z (zero_within 21) (zero_within 21)) (corners_within (Torus R r) o)

-- ---- the path

area_whole : (s : Surface) (o : Resolved) → Within (2 ^ 50) (whole_area s o)
unfolding whole_area
area_whole s o =
    let cs = whole_corners s o in
    area_within_lem 20 20 (lit≤ tt) (us_of cs) (vs_of cs) (all_map (λ (c : Vec2). c.u) (λ c h. within_more 21 (2 ^ 20) c.u (lit≤ tt) h.u) (corners_within s o))
    (all_map (λ (c : Vec2). c.v) (λ c h. within_more 21 (2 ^ 20) c.v (lit≤ tt) h.v) (corners_within s o))
    10 (lit≤ tt) (let n = few-corners s o in let e = length-map cs (λ (c : Vec2). c.u) in omega arith)

pub whole_sized : (d : ℕ) → 10 ≤ d → (s : List ℕ) → Framed (frame_in s) → Sizes (surface_in s) → SizedLoop d 21 21 (whole_loop s)
unfolding whole_loop
whole_sized d some s w z = record {
  area = pow_more 50 (40 + d) (whole_area (surface_in s) (options_in s)) (omega arith) (area_whole (surface_in s) (options_in s));
  corners = corners_whole (frame_in s) w (surface_in s) (options_in s) z;
}

-- Bands: the strip's corners and the holes have bounded parameters, positions and areas.
use Prim.Native.Nat.{ℕ, ◌+◌, ◌*◌, ◌^◌, ◌≤◌, ◌<◌, max}
use mathlib.Core.Path.{◌≡◌, sym, ap, subst}
use mathlib.Core.Logic.{◌⊎◌, inl, inr}
use mathlib.Core.Bool.{Bool, true, false, cond, not, ◌&&◌}
use mathlib.Core.List.{List, [], ◌∷◌}
use native.Mathlib.Nat.{lt_of_le_of_lt, mul-le-mul}
use native.Mathlib.Omega.{arith}
use borrow.Author.Tests.{eq-eqb}
use lib.Dec.{lit<, lit≤}
use lib.ListN.{length, drop}
use lib.Ieee.{Float, lt, le}
use Rattle.std.proofs.Common.{Option, Some, None}
use Rattle.numbers.specs.Constants.{TAU}
use Rattle.numbers.specs.Order.{min_of, max_of}
use Rattle.numbers.specs.Rounded.{◌⊕◌}
use Rattle.numbers.specs.Within.{Within}
use Rattle.numbers.specs.declared.math.Vec3.{Vec3}
use Rattle.numbers.proofs.Fractions.{turn_within}
use Rattle.numbers.proofs.Magnitude.{held_small, within_more, add_within, sub_within, min_within, max_within}
use Rattle.numbers.proofs.math.Frames.{In, Billion, in_more}
use Rattle.surfaces.specs.Domains.{u_period, v_period, period_length}
use Rattle.surfaces.specs.Rungs.{rungs, inner}
use Rattle.surfaces.specs.Steps.{v_steps_of}
use Rattle.surfaces.proofs.surface.Points.{point_in}
use Rattle.loops.specs.Wrap.{net_wrap}
use Rattle.bands.specs.Band.{lift, pick, joined, lower_first, lower_ring, upper_ring, strip_of, outer, holes}
use Rattle.tables.specs.Corners.{Corner, Corners, us}
use Rattle.bands.specs.Given.{wraps}
use Rattle.bands.specs.Rings.{started, reseam, laid}
use Rattle.bands.specs.Strip.{Setting, ladder, heights, wall, strip}
use Rattle.records.specs.declared.limits.Limits.{Limits}
use Rattle.records.specs.Accepted.{Accepted}
use Rattle.records.specs.Face.{kind, real_of}
use Rattle.records.specs.Limits.{plane}
use Rattle.lists.specs.Elements.{All, and}
use Rattle.call.specs.Face.{frame_in, surface_of, surface_in, options_in, loops_in, measured_in, is_wrapping, wrapping, setting_in, given_in}
use Rattle.call.proofs.Each.{all_first, all_append, all_drop, all_drop_last, all_reverse, all_if, all_map, all_so, all_drop_repeats}
use Rattle.call.proofs.Loops.{loops_fit, given_each}
use Rattle.call.proofs.Rings.{EachGiven, pick_each, holes_each}
use Rattle.call.proofs.Sizes.{only_none}
use Rattle.call.proofs.Strips.{High, steps-few}
use Rattle.magnitudes.specs.Bounded.{most_angle}
use Rattle.magnitudes.proofs.Closed.{SizedCorners}
use Rattle.magnitudes.proofs.Loops.{all_both, Known, rungs_each_within}
use Rattle.magnitudes.proofs.Record.{Million, Sized, either_u, either_v, frame_framed, sizes_in}
use Rattle.magnitudes.proofs.Rings.{Reach, Reaches, GivenReach, started_reach}

-- ---- a face of which a loop wraps: u comes round by TAU, and the surface is curved

plane_open : (k : ℕ) (a b : Float) → k ≡ plane → u_period (surface_of k a b) ≡ None
unfolding surface_of u_period
plane_open k a b e = rw (eq-eqb k plane e)

module _ (s : List ℕ) where
  -- where u does not come round no loop wraps
  open_none : u_period (surface_in s) ≡ None → wrapping s ≡ 0
  unfolding wrapping measured_in
  open_none e = ap length (only_none is_wrapping (all_map _ (λ r h. ap (λ (p : Option Float). wraps (net_wrap p (us r))) e) (loops_fit s)))

  module _ (some : wrapping s ≡ 0 → ⊥) where
    comes_round : u_period (surface_in s) ≡ Some TAU
    comes_round = go (either_u (surface_in s))
      where
        go : (u_period (surface_in s) ≡ None) ⊎ (u_period (surface_in s) ≡ Some TAU) → u_period (surface_in s) ≡ Some TAU
        go (inl e) = absurd (some (open_none e))
        go (inr e) = e

    period_is : (setting_in s).period ≡ TAU
    unfolding setting_in
    period_is = ap period_length comes_round

    pub curved : kind s ≡ plane → ⊥
    unfolding surface_in
    curved e = some (open_none (plane_open (kind s) (real_of s 9) (real_of s 10) e))

-- ---- v: an upper ring is lifted by at most one turn

lift_within : (H : ℕ) → H ≤ Million → (p : Option Float) → (p ≡ None) ⊎ (p ≡ Some TAU) → (with_l with_u : Bool) (mean_l mean_u v : Float) → Within H v
    → Within (H + 7) (lift p with_l with_u mean_l mean_u v)
unfolding lift
lift_within H few p (inl e) with_l with_u mean_l mean_u v h = subst (λ (q : Option Float). Within (H + 7) (lift q with_l with_u mean_l mean_u v)) (sym e) (within_more H (H + 7) v (omega arith) h)
lift_within H few p (inr e) with_l with_u mean_l mean_u v h = subst (λ (q : Option Float). Within (H + 7) (lift q with_l with_u mean_l mean_u v)) (sym e) (at-lift (with_l && (not with_u && lt mean_u mean_l)))
  where
    at-lift : (t : Bool) → Within (H + 7) (cond t (v ⊕ TAU) v)
    at-lift true = add_within H 7 v TAU (held_small (H + 7) (omega arith)) h turn_within
    at-lift false = within_more H (H + 7) v (omega arith) h

-- v is given up to H, and no rung passes B
module _ {L : Limits} (s : List ℕ) (a : Accepted L s) (H B : ℕ) (given : H ≤ Million) (room : 3 * (H + 7) ≤ B) (most : B ≤ 2 ^ 22) where
  abbrev S : Setting Vec3
  S = setting_in s

  abbrev R : ℕ
  R = H + 7

  -- a wall's v: the lesser end, and at most the width more
  heights_within : (x y : Float) → Within R x → Within R y → High s a x → High s a y → All (Within B) (heights S.rungs S.steps x y)
  unfolding heights ladder inner setting_in
  heights_within x y p q h k =
      let lo = min_of x y in
      let hi = max_of x y in
      let n = v_steps_of (surface_in s) lo hi (options_in s) in
      let few : n ≤ 142000 = steps-few s a x y h k in
      let low = min_within R x y p q in
      let wide = sub_within R R hi lo (held_small (R + R) (omega arith)) (max_within R x y p q) low in
      let many : (R + R) * max n 1 < 2 ^ 53 = lt_of_le_of_lt (mul-le-mul (le-two given) (le-steps few)) (lit< tt) in
      let high = within_more R (R + (R + R)) hi (omega arith) (max_within R x y p q) in
      let rungs_are = rungs_each_within R (R + R) n lo hi low wide (omega arith) many (omega arith) high in
      let inner-are = all_so (λ v w. within_more (R + (R + R)) B v (omega arith) w) (all_drop_last (drop 1 (rungs lo hi n)) (all_drop 1 rungs_are)) in
      all_if (le x y) inner-are (all_reverse inner-are)
    where
      le-two : H ≤ Million → R + R ≤ 2000014
      le-two h = omega arith

      le-steps : {n : ℕ} → n ≤ 142000 → max n 1 ≤ 142000
      le-steps h = omega arith

  -- ---- a corner of a ring as the strip takes it

  record Ringed (c : Corner Vec3) : Type 0 where
    u : Within 645 c.u
    v : Within R c.v
    high : High s a c.v
    at : In Billion c.at

  ringed_sized : (c : Corner Vec3) → Ringed c → Sized most_angle B (2 ^ 32) c
  ringed_sized c h = record {
    u = within_more 645 most_angle c.u (lit≤ tt) h.u;
    v = within_more R B c.v (omega arith) h.v;
    at = in_more Billion (2 ^ 32) c.at (lit≤ tt) h.at;
  }

  module _ (some : wrapping s ≡ 0 → ⊥) where
    period_within : Within 7 S.period
    period_within = subst (Within 7) (sym (period_is s some)) turn_within

    wall_sized : (begin u : Float) → Within most_angle begin → Within most_angle u → {vs : List Float} → All (Within B) vs → SizedCorners most_angle B (wall S begin u vs)
    unfolding setting_in
    wall_sized begin u p q h =
        all_map _ (λ v w.
        let high = within_more B (2 ^ 22) v most w in
        record { u = q; v = w; at = point_in (frame_in s) (frame_framed s a) begin v (within_more most_angle (2 ^ 22) begin (lit≤ tt) p) high (surface_in s) (sizes_in s a) }) h

    strip_sized : (lower upper : Corners Vec3) → All Ringed lower → All Ringed upper → SizedCorners most_angle B (strip S lower upper)
    unfolding strip
    strip_sized [] upper p q = all_reverse (all_so ringed_sized q)
    strip_sized (l ∷ lower) [] p q = all_so ringed_sized p
    strip_sized (l ∷ lower) (u ∷ upper) p q =
        let c = all_first p in
        let d = all_first q in
        let begin = (ringed_sized l c).u in
        let far : Within 652 (l.u ⊕ S.period) = add_within 645 7 l.u S.period (held_small 652 (lit< tt)) c.u period_within in
        let end : Within most_angle (l.u ⊕ S.period) = within_more 652 most_angle (l.u ⊕ S.period) (lit≤ tt) far in
        let up = heights_within l.v u.v c.v d.v c.high d.high in
        all_append (all_append (all_append (all_so ringed_sized p) (and (record { u = end; v = (ringed_sized l c).v; at = (ringed_sized l c).at }) (wall_sized l.u (l.u ⊕ S.period) begin end up)))
        (and (record { u = end; v = (ringed_sized u d).v; at = (ringed_sized u d).at }) (all_reverse (all_so ringed_sized q))))
        (all_reverse (wall_sized l.u l.u begin begin up))

    -- ---- the rings

    module _ (h : GivenReach 64 (given_in s)) (loops_are : All (All (λ (c : Corner Vec3). Within H c.v × In Billion c.at)) (loops_in s)) (low : All (λ (c : Corner Vec3). High s a c.v) (lower_ring S (given_in s)))
        (high : All (λ (c : Corner Vec3). High s a c.v) (upper_ring S (given_in s))) where
      joined_reach : Reaches 645 1000 (joined S (given_in s))
      unfolding joined
      joined_reach = subst (λ (p : Float). Reaches 645 1000 (started p (reseam p (laid p (given_in s))))) (sym (period_is s some)) (started_reach (given_in s) h)

      picked_reach : (t : Bool) → Reach 645 (pick t (joined S (given_in s)))
      picked_reach true = joined_reach.first
      picked_reach false = joined_reach.later

      -- v and the position, which no move along u changes
      abbrev Kept : Corner Vec3 → Type 0
      Kept c = Within H c.v × In Billion c.at

      given-kept : EachGiven Kept (given_in s)
      given-kept = given_each s Kept loops_are

      lower_ringed : All Ringed (lower_ring S (given_in s))
      unfolding lower_ring
      lower_ringed =
          all_so (λ c w. record { u = w.0.0.within; v = within_more H R c.v (omega arith) w.0.1.0; high = w.1; at = w.0.1.1 })
          (all_both (all_both (picked_reach (lower_first S (given_in s))).each (pick_each (λ f to c k. k) S (given_in s) given-kept (lower_first S (given_in s)))) low)

      upper_ringed : All Ringed (upper_ring S (given_in s))
      unfolding upper_ring setting_in
      upper_ringed =
          let t = not (lower_first S (given_in s)) in
          all_so (λ c w. record { u = w.0.0.within; v = w.0.1.0; high = w.1; at = w.0.1.1 })
          (all_both (all_map {Q = λ (c : Corner Vec3). Known 645 c.u × (Within R c.v × In Billion c.at)} _ (λ c w. (w.0, (lift_within H given (v_period (surface_in s)) (either_v (surface_in s)) _ _ _ _ c.v w.1.0, w.1.1)))
          (all_both (picked_reach t).each (pick_each (λ f to c k. k) S (given_in s) given-kept t))) high)

      pub outer_sized : SizedCorners most_angle B (outer S (given_in s))
      unfolding outer strip_of
      outer_sized = all_drop_repeats _ (strip_of S (given_in s)) (strip_sized (lower_ring S (given_in s)) (upper_ring S (given_in s)) lower_ringed upper_ringed)

      pub holes_sized : All (SizedCorners most_angle B) (holes S (given_in s))
      unfolding holes
      holes_sized =
          all_so (λ r w. all_so (λ c k. record {
            u = within_more 1000 most_angle c.u (lit≤ tt) k.0.within;
            v = within_more H B c.v (omega arith) k.1.0;
            at = in_more Billion (2 ^ 32) c.at (lit≤ tt) k.1.1;
          }) (all_both w.0.each w.1))
          (all_both joined_reach.holes (holes_each (λ f to c k. k) S (given_in s) given-kept))

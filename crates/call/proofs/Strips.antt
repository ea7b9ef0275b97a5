-- How many points a strip can have before refusal 12 is asked for: at most 285,024.
use Prim.Native.Nat.{ℕ, ◌+◌, ◌*◌, ◌≤◌, ◌<◌, max}
use mathlib.Core.Path.{◌≡◌, refl, sym, ap, ◌∙◌}
use mathlib.Core.Bool.{Bool, true, false, cond, not, ◌&&◌}
use mathlib.Core.List.{List, [], ◌∷◌, reverse}
use native.Mathlib.Omega.{arith}
use borrow.Author.Tests.{eqb-false, leb-true, leb-false, lt-leb}
use lib.IntN.{pos}
use lib.ListN.{length, get_or, length-append, length-map, length-reverse}
use lib.Ieee.{Float, lt, le}
use Rattle.numbers.specs.Constants.{TAU}
use Rattle.numbers.specs.Order.{min_of, max_of}
use Rattle.numbers.specs.Rounded.{◌⊕◌}
use Rattle.numbers.specs.Within.{Within}
use Rattle.numbers.proofs.Fractions.{turn_within}
use Rattle.numbers.proofs.Magnitude.{held_small, within_more, add_within, sub_within, min_within, max_within}
use Rattle.numbers.specs.declared.math.Vec3.{Vec3}
use Rattle.surfaces.specs.declared.options.Resolved.{Resolved}
use Rattle.surfaces.specs.declared.surface.Surface.{Surface}
use Rattle.surfaces.specs.declared.surface.Surface.TheVariants.{Plane, Cylinder, Cone, Sphere, Torus}
use Rattle.surfaces.specs.Domains.{v_period}
use Rattle.surfaces.specs.Rungs.{rungs, inner}
use Rattle.surfaces.specs.Steps.{v_steps_of}
use Rattle.surfaces.proofs.knots.Rungs.{inner-few}
use Rattle.surfaces.proofs.steps.Count.{v-steps-few}
use Rattle.bands.specs.Band.{lift, pick, joined, lower_first, lower_ring, upper_ring, strip_of}
use Rattle.tables.specs.Corners.{Corner, Corners, corners_from}
use Rattle.bands.specs.Given.{given_of}
use Rattle.lists.specs.Elements.{only, All, none, and}
use Rattle.bands.specs.Strip.{Setting, ladder, heights, wall, strip}
use Rattle.bands.proofs.Lengths.{length-first, length-later}
use Rattle.records.specs.Bytes.{◌≤?◌, ◌=?◌}
use Rattle.records.specs.Face.{kind, counts, points, real_of, v_of, corners_in}
use Rattle.records.specs.declared.limits.Limits.{Limits}
use Rattle.records.specs.Accepted.{Accepted}
use Rattle.records.specs.Limits.{64·0, 10^6, cone, holds, up_to, v_range}
use Rattle.records.proofs.Accepted.{parameters_in_range}
use Rattle.records.proofs.Bounds.{within_64}
use Rattle.call.specs.Face.{surface_of, surface_in, options_in, loops_in, measured_in, is_wrapping, setting_in, given_in}
use Rattle.call.specs.Later.{strip_points}
use Rattle.call.proofs.Each.{all_first, all_rest, all_get_d, all_reverse, all_map, all_only}
use Rattle.call.proofs.Loops.{all_pieces, given_each, measured_short}
use Rattle.call.proofs.Rings.{pick_each, lower_each}

-- ---- the steps of a wall

-- a wall of a plane, cylinder or cone is one of at most 64 segments
straight : (k : ℕ) (a b lo hi : Float) (o : Resolved) → k ≤ cone → v_steps_of (surface_of k a b) lo hi o ≡ max o.min_edge_segments 1
unfolding surface_of v_steps_of
straight k a b lo hi o h = go (k =? 0) (k =? 1) (k =? 2) refl refl refl
  where
    go : (p q r : Bool) → (k =? 0) ≡ p → (k =? 1) ≡ q → (k =? 2) ≡ r
        → v_steps_of (cond p Plane (cond q (Cylinder a) (cond r (Cone a b) (cond (k =? 3) (Sphere a) (Torus a b))))) lo hi o ≡ max o.min_edge_segments 1
    go true q r e f g = refl
    go false true r e f g = refl
    go false false true e f g = refl
    go false false false e f g = let x = eqb-false k 0 e in let y = eqb-false k 1 f in let z = eqb-false k 2 g in absurd (omega arith)

lift_within : (s : Surface) (with_l with_u : Bool) (mean_l mean_u v : Float) → Within 64 v → Within 71 (lift (v_period s) with_l with_u mean_l mean_u v)
unfolding lift v_period
lift_within Plane with_l with_u mean_l mean_u v h = within_more 64 71 v (omega arith) h
lift_within (Cylinder R) with_l with_u mean_l mean_u v h = within_more 64 71 v (omega arith) h
lift_within (Cone R a) with_l with_u mean_l mean_u v h = within_more 64 71 v (omega arith) h
lift_within (Sphere R) with_l with_u mean_l mean_u v h = within_more 64 71 v (omega arith) h
lift_within (Torus R r) with_l with_u mean_l mean_u v h = pick (with_l && (not with_u && lt mean_u mean_l))
  where
    pick : (t : Bool) → Within 71 (cond t (v ⊕ TAU) v)
    pick true = add_within 64 7 v TAU (held_small 71 (omega arith)) h turn_within
    pick false = within_more 64 71 v (omega arith) h

-- two v of size up to 71 are at most 142,000 steps apart
arc : (s : Surface) (x y : Float) (o : Resolved) → o.min_edge_segments ≤ 64 → Within 71 x → Within 71 y → v_steps_of s (min_of x y) (max_of x y) o ≤ 142000
arc s x y o few h k =
    let n = v-steps-few 142 (min_of x y) (max_of x y) o s (held_small (142 * 1000) (omega arith))
    (sub_within 71 71 (max_of x y) (min_of x y) (held_small 142 (omega arith)) (max_within 71 x y h k) (min_within 71 x y h k)) in
    omega arith

-- ---- the strip

-- where the walls are short, so is the strip
strip-few : (S : Setting Vec3) (n : ℕ) {Q R : Corner Vec3 → Type 0} (lower upper : Corners Vec3) → All Q lower → All R upper
    → ((l u : Corner Vec3) → Q l → R u → length (heights S.rungs S.steps l.v u.v) ≤ n) → length (strip S lower upper) ≤ length lower + length upper + 2 + 2 * n
unfolding strip
strip-few S n [] upper p q few = let e = length-reverse upper in omega arith
strip-few S n (l ∷ lower) [] p q few = omega arith
strip-few S n (l ∷ lower) (u ∷ upper) p q few =
    let up : List Float = heights S.rungs S.steps l.v u.v in
    let one : Corners Vec3 = wall S l.u (l.u ⊕ S.period) up in
    let other : Corners Vec3 = wall S l.u l.u up in
    let short = few l u (all_first p) (all_first q) in
    let a : length one ≡ length up = length-map up _ in
    let b : length other ≡ length up = length-map up _ in
    let c = length-reverse (u ∷ upper) in
    let d = length-reverse other in
    simp length-append (omega arith)

module _ {L : Limits} (s : List ℕ) (a : Accepted L s) where
  -- the v of a sphere and a torus have a size up to 64
  abbrev pub Low : Float → Type 0
  Low v = cone < kind s → Within 64 v

  abbrev pub High : Float → Type 0
  High v = cone < kind s → Within 71 v

  low-v : (v : Float) → holds (v_range (kind s)) v ≡ true → Low v
  unfolding v_range
  low-v v h past = within_64 v (ap (λ (t : Bool). holds (cond t (up_to 10^6) (up_to 64·0)) v) (sym (lt-leb (kind s) cone past)) ∙ h)

  corners-low : (us vs : List Float) (ps : List Vec3) → All Low vs → All (λ (c : Corner Vec3). Low c.v) (corners_from us vs ps)
  unfolding corners_from
  corners-low [] vs ps h = none
  corners-low (u ∷ us) [] ps h = none
  corners-low (u ∷ us) (v ∷ vs) [] h = none
  corners-low (u ∷ us) (v ∷ vs) (p ∷ ps) h = and (all_first h) (corners-low us vs ps (all_rest h))

  loops-low : All (All (λ (c : Corner Vec3). Low c.v)) (loops_in s)
  unfolding loops_in corners_in
  loops-low = all_pieces (counts s) (corners-low _ _ _ (all_map v_of (λ p h. low-v p.v h.v) (parameters_in_range s a)))

  pub steps-few : (x y : Float) → High x → High y → v_steps_of (surface_in s) (min_of x y) (max_of x y) (options_in s) ≤ 142000
  unfolding surface_in options_in
  steps-few x y h k = go (kind s ≤? cone) refl
    where
      go : (t : Bool) → (kind s ≤? cone) ≡ t → v_steps_of (surface_in s) (min_of x y) (max_of x y) (options_in s) ≤ 142000
      go true e =
          let n = straight (kind s) (real_of s 9) (real_of s 10) (min_of x y) (max_of x y) (options_in s) (leb-true (kind s) cone e) in
          let f = a.few_segments in
          omega arith
      go false e = let past = leb-false (kind s) cone e in arc (surface_in s) x y (options_in s) a.few_segments (h past) (k past)

  heights-few : (x y : Float) → High x → High y → length (heights (setting_in s).rungs (setting_in s).steps x y) ≤ 141999
  unfolding heights ladder setting_in
  heights-few x y h k = pick (le x y)
    where
      rungs_are : List Float
      rungs_are = inner (rungs (min_of x y) (max_of x y) (v_steps_of (surface_in s) (min_of x y) (max_of x y) (options_in s)))

      short : length rungs_are ≤ 141999
      short =
          let n = inner-few (min_of x y) (max_of x y) (v_steps_of (surface_in s) (min_of x y) (max_of x y) (options_in s)) in
          let m = steps-few x y h k in
          omega arith

      pick : (t : Bool) → length (cond t rungs_are (reverse rungs_are)) ≤ 141999
      pick true = short
      pick false = let e = length-reverse rungs_are in let n = short in omega arith

  -- ---- its rings

  abbrev S : Setting Vec3
  S = setting_in s

  pub lower-low : All (λ (c : Corner Vec3). Low c.v) (lower_ring S (given_in s))
  lower-low = lower_each (λ f to c h. h) S (given_in s) (given_each s _ loops-low)

  pub upper-high : All (λ (c : Corner Vec3). High c.v) (upper_ring S (given_in s))
  unfolding upper_ring setting_in
  upper-high =
      all_map _ (λ c h past. lift_within (surface_in s) _ _ _ _ c.v (h past))
      (pick_each (λ f to c h. h) S (given_in s) (given_each s _ loops-low) (not (lower_first S (given_in s))))

  -- no ring has more points than the record
  loop_short : (k : ℕ) → length (get_or (reverse (only is_wrapping (measured_in s))) k (record { corners = []; wrap = pos 0 })).corners ≤ points s
  loop_short k = all_get_d (all_reverse (all_only is_wrapping (λ m e h. h) (measured_short s))) k _ (omega arith)

  picked_short : (t : Bool) → length (pick t (joined S (given_in s))) ≤ points s
  unfolding joined given_in given_of
  picked_short true = let e = length-first S.period (given_in s) in let n = loop_short 0 in omega arith
  picked_short false = let e = length-later S.period (given_in s) in let n = loop_short 1 in omega arith

  upper_short : length (upper_ring S (given_in s)) ≤ points s
  unfolding upper_ring
  upper_short = rw (length-map (pick (not (lower_first S (given_in s))) (joined S (given_in s))) _) (picked_short (not (lower_first S (given_in s))))

  lower_short : length (lower_ring S (given_in s)) ≤ points s
  unfolding lower_ring
  lower_short = picked_short (lower_first S (given_in s))

  pub strip-most : strip_points s ≤ 2 * L.points + 284000
  unfolding strip_points strip_of
  strip-most =
      let n = strip-few S 141999 (lower_ring S (given_in s)) (upper_ring S (given_in s)) lower-low upper-high
      (λ l u h k. heights-few l.v u.v (λ past. within_more 64 71 l.v (omega arith) (h past)) k) in
      let p = lower_short in
      let q = upper_short in
      let t = a.total in
      omega arith

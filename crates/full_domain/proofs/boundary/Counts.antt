-- 02, N2: "For a whole sphere or torus the step count of every pair of positions is then zero." The sides that the seam joins cancel, as the walls of a
-- strip do; the other two are one ring read forward and backward on a torus, and at a pole a ring of one position on a sphere.
use Prim.Native.Nat.{ℕ, suc, suc-le-suc, ◌^◌, ◌<◌}
use mathlib.Core.Path.{◌≡◌, refl, sym, ap, ◌∙◌}
use mathlib.Core.Bool.{Bool, true, cond}
use mathlib.Core.List.{List, [], ◌∷◌, ◌++◌, map, reverse, drop_last, append_assoc, map-append, map-map, reverse-cons, Forall₂}
use native.Mathlib.Omega.{arith}
use native.Mathlib.Nat.{zero-lt-suc}
use lib.Dec.{lit<, lit≤}
use lib.IntN.{pos, neg_ℤ, ◌+ℤ◌, +ℤ_invr}
use lib.ListN.{length, get_or, drop, replicate}
use lib.Ieee.{Float, nan, neg, le, of_bits}
use Rattle.lists.proofs.Maps.{map-reverse}
use Rattle.numbers.specs.Constants.{plus_zero, H, TAU}
use Rattle.numbers.specs.Position.{same}
use Rattle.numbers.specs.Trig.{sincos_of}
use Rattle.numbers.specs.Within.{Within}
use Rattle.numbers.specs.declared.math.Frame.{Frame}
use Rattle.numbers.specs.declared.math.Interval.{Interval}
use Rattle.numbers.specs.declared.math.Vec2.{Vec2}
use Rattle.numbers.specs.declared.math.Vec3.{Vec3}
use Rattle.numbers.proofs.Fractions.{turn_within}
use Rattle.numbers.proofs.Magnitude.{held_small, within_more, sub_within, zero_within, pick_within}
use Rattle.numbers.proofs.Zeros.{IsNil}
use Rattle.numbers.proofs.math.Frames.{Framed}
use Rattle.surfaces.specs.declared.options.Resolved.{Resolved}
use Rattle.surfaces.specs.declared.surface.Surface.{Surface}
use Rattle.surfaces.specs.declared.surface.Surface.TheVariants.{Plane, Cylinder, Cone, Sphere, Torus}
use Rattle.surfaces.specs.Domains.{full_turn, domain_of, u_period, v_period}
use Rattle.surfaces.specs.Rungs.{rungs, inner}
use Rattle.surfaces.proofs.knots.Between.{inner_within}
use Rattle.surfaces.proofs.knots.Ended.{drop_added}
use Rattle.surfaces.proofs.surface.Points.{Sizes}
use Rattle.surfaces.proofs.surface.Poles.{upper-pole, lower-pole, pole-same}
use Rattle.loops.specs.Steps.{net}
use Rattle.loops.proofs.Alike.{Alike, alike, net_alike}
use Rattle.loops.proofs.Paths.{net-nil, net-reverse}
use Rattle.loops.proofs.RepeatsLaw.{net_constant}
use Rattle.loops.proofs.SamePosition.{same-position}
use Rattle.loops.proofs.StripLaw.{net-strip}
use Rattle.full_domain.specs.Boundary.{clamped, corner, sides, sides_of, steps_of, rungs_of, whole_corners, wrap_of, position_of, whole_positions}
use Rattle.full_domain.proofs.boundary.Meaning.{seam_closes}
use Rattle.full_domain.proofs.boundary.Rungs.{all_rungs, backward, quarters, turn_rungs, sphere-rungs}
use Rattle.full_domain.proofs.boundary.Sides.{few-steps}

-- ---- the positions round the sides of a rectangle whose u come round

module _ {A : Type 0} (at : Vec2 → A) (ui vi : Interval) (seam : (v : Float) → at (corner ui.hi v) ≡ at (corner ui.lo v)) where
  -- at one v, for the u of a list; and at the low end of u, for the v of a list
  abbrev along : Float → List Float → List A
  along v us = map (λ u. at (corner u v)) us

  abbrev up : List Float → List A
  up vs = map (λ v. at (corner ui.lo v)) vs

  abbrev low : A
  low = at (corner ui.lo vi.lo)

  abbrev high : A
  high = at (corner ui.lo vi.hi)

  at_each : (f : Float → Vec2) (xs : List Float) → map at (map f xs) ≡ map (λ x. at (f x)) xs
  at_each f xs = map-map at f xs

  module _ (us vs : List Float) where
    in_four : (p q r s : List Vec2) → map at (p ++ (q ++ (r ++ s))) ≡ map at p ++ (map at q ++ (map at r ++ map at s))
    in_four p q r s = simp map-append

    first : map at (map (λ u. corner u vi.lo) (drop_last (all_rungs ui us))) ≡ low ∷ along vi.lo us
    first = ap (λ (l : List Float). map at (map (λ u. corner u vi.lo) l)) (drop_added ui.lo ui.hi us) ∙ at_each (λ u. corner u vi.lo) (ui.lo ∷ us)

    second : map at (map (λ v. corner ui.hi v) (drop_last (all_rungs vi vs))) ≡ low ∷ up vs
    second =
        ap (λ (l : List Float). map at (map (λ v. corner ui.hi v) l)) (drop_added vi.lo vi.hi vs) ∙ at_each (λ v. corner ui.hi v) (vi.lo ∷ vs)
        ∙ (λ i. map (λ v. seam v i) (vi.lo ∷ vs))

    third : map at (map (λ u. corner u vi.hi) (reverse (drop 1 (all_rungs ui us)))) ≡ high ∷ reverse (along vi.hi us)
    third =
        ap (λ (l : List Float). map at (map (λ u. corner u vi.hi) l)) (backward ui us) ∙ at_each (λ u. corner u vi.hi) (ui.hi ∷ reverse us)
        ∙ (λ i. seam vi.hi i ∷ map-reverse (λ u. at (corner u vi.hi)) us i)

    fourth : map at (map (λ v. corner ui.lo v) (reverse (drop 1 (all_rungs vi vs)))) ≡ high ∷ reverse (up vs)
    fourth =
        ap (λ (l : List Float). map at (map (λ v. corner ui.lo v) l)) (backward vi vs) ∙ at_each (λ v. corner ui.lo v) (vi.hi ∷ reverse vs)
        ∙ (λ i. high ∷ map-reverse (λ v. at (corner ui.lo v)) vs i)

    -- the third side's last corner begins the fourth
    joined : (xs ys : List A) → xs ++ (high ∷ ys) ≡ (xs ++ (high ∷ [])) ++ ys
    joined xs ys = sym (append_assoc xs (high ∷ []) ys)

    around : map at (sides (all_rungs ui us) (all_rungs vi vs) ui vi)
        ≡ (low ∷ along vi.lo us) ++ ((low ∷ up vs) ++ ((high ∷ reverse (high ∷ along vi.hi us)) ++ reverse (up vs)))
    unfolding sides
    around =
        in_four (map (λ u. corner u vi.lo) (drop_last (all_rungs ui us))) (map (λ v. corner ui.hi v) (drop_last (all_rungs vi vs)))
        (map (λ u. corner u vi.hi) (reverse (drop 1 (all_rungs ui us)))) (map (λ v. corner ui.lo v) (reverse (drop 1 (all_rungs vi vs))))
        ∙ (λ i. first i ++ (second i ++ (third i ++ fourth i)))
        ∙ ap (λ (l : List A). (low ∷ along vi.lo us) ++ ((low ∷ up vs) ++ (high ∷ l)))
        (joined (reverse (along vi.hi us)) (reverse (up vs)) ∙ ap (◌++ reverse (up vs)) (sym (reverse-cons high (along vi.hi us))))

    to_the_left : (p q r s : List A) → p ++ (q ++ (r ++ s)) ≡ p ++ q ++ r ++ s
    to_the_left p q r s = sym (append_assoc (p ++ q) r s ∙ append_assoc p q (r ++ s))

    -- the steps round the sides are those along the low end of v and back along its high end
    module _ (same : A → A → Bool) (a b : A) where
      steps-round : net same a b (map at (sides (all_rungs ui us) (all_rungs vi vs) ui vi))
          ≡ net same a b (low ∷ along vi.lo us) +ℤ neg_ℤ (net same a b (high ∷ along vi.hi us))
      steps-round =
          ap (net same a b) (around ∙ to_the_left (low ∷ along vi.lo us) (low ∷ up vs) (high ∷ reverse (high ∷ along vi.hi us)) (reverse (up vs)))
          ∙ net-strip same a b low (along vi.lo us) (up vs) high (along vi.hi us)
          ∙ ap (net same a b (low ∷ along vi.lo us) +ℤ◌) (net-reverse same a b (high ∷ along vi.hi us))

      -- where v comes round too
      pub round_still : ((u : Float) → at (corner u vi.hi) ≡ at (corner u vi.lo))
          → net same a b (map at (sides (all_rungs ui us) (all_rungs vi vs) ui vi)) ≡ pos 0
      round_still meets =
          steps-round ∙ (λ i. net same a b (low ∷ along vi.lo us) +ℤ neg_ℤ (net same a b (map (λ u. meets u i) (ui.lo ∷ us))))
          ∙ +ℤ_invr (net same a b (low ∷ along vi.lo us))

      -- where the positions at each end of v are alike
      one_place : (v : Float) (x : A) (xs : List Float) → ((j : ℕ) → j < length xs → Alike same (at (corner (get_or xs j nan) v)) x)
          → Forall₂ (Alike same) (along v xs) (replicate (length xs) x)
      one_place v x [] h = Forall₂.nil
      one_place v x (u ∷ xs) h = Forall₂.cons (h 0 (zero-lt-suc _)) (one_place v x xs (λ j l. h (suc j) (suc-le-suc l)))

      abbrev Pole : Float → Type 0
      Pole v = (j : ℕ) → j < length us → Alike same (at (corner (get_or us j nan) v)) (at (corner ui.lo v))

      still : (v : Float) → Pole v → net same a b (at (corner ui.lo v) ∷ along v us) ≡ pos 0
      still v h = net_alike same a b (Forall₂.cons (λ c. refl) (one_place v (at (corner ui.lo v)) us h)) ∙ net_constant same a b (suc (length us)) (at (corner ui.lo v))

      pub poles_still : Pole vi.lo → Pole vi.hi → net same a b (map at (sides (all_rungs ui us) (all_rungs vi vs) ui vi)) ≡ pos 0
      poles_still p q = steps-round ∙ (λ i. still vi.lo p i +ℤ neg_ℤ (still vi.hi q i))

-- ---- a torus

module _ (R r : Float) (f : Frame) (p q : Vec3) where
  v_closes : (u : Float) → position_of (Torus R r) f (corner u TAU) ≡ position_of (Torus R r) f (corner u plus_zero)
  unfolding position_of wrap_of domain_of u_period v_period le of_bits
  v_closes u = refl

  torus_still : (m n : ℕ)
      → net same p q (map (position_of (Torus R r) f) (sides (rungs plus_zero TAU (clamped m)) (rungs plus_zero TAU (clamped n)) full_turn full_turn)) ≡ pos 0
  unfolding domain_of
  torus_still m n =
      let us = inner (rungs plus_zero TAU (clamped m)) in
      let vs = inner (rungs plus_zero TAU (clamped n)) in
      (λ i. net same p q (map (position_of (Torus R r) f) (sides (turn_rungs m i) (turn_rungs n i) full_turn full_turn)))
      ∙ round_still (position_of (Torus R r) f) full_turn full_turn (λ v. seam_closes (Torus R r) f v refl) us vs same p q v_closes

-- ---- a sphere

turns_within : (n j : ℕ) → j < length (inner (rungs plus_zero TAU (clamped n))) → Within 21 (get_or (inner (rungs plus_zero TAU (clamped n))) j nan)
turns_within n =
    let h = few-steps n in
    let wide = sub_within 7 7 TAU plus_zero (held_small 14 (lit< tt)) turn_within (zero_within 7) in
    inner_within 7 14 (clamped n) plus_zero TAU (zero_within 7) wide (omega arith) (omega arith) (lit< tt)

upper_within : Within (2 ^ 22) H
unfolding of_bits
upper_within = lit≤ tt

lower_within : Within (2 ^ 22) (neg H)
unfolding of_bits neg
lower_within = lit≤ tt

module _ (R : Float) (f : Frame) (w : Framed f) (size : Within (2 ^ 22) R) where
  module _ (v : Float) (hv : Within (2 ^ 22) v) (pole : IsNil (sincos_of v).cos) (u : Float) (hu : Within 21 u) where
    around_within : (t : Float) → Within 21 t → Within (2 ^ 22) (cond (le TAU t) plus_zero t)
    around_within t h = within_more 21 (2 ^ 22) (cond (le TAU t) plus_zero t) (lit≤ tt) (pick_within 21 plus_zero t (zero_within 21) h (le TAU t))

    pole-one : same (position_of (Sphere R) f (corner u v)) (position_of (Sphere R) f (corner plus_zero v)) ≡ true
    unfolding position_of wrap_of domain_of u_period v_period
    pole-one =
        pole-same f w R v size hv pole (cond (le TAU u) plus_zero u) (cond (le TAU plus_zero) plus_zero plus_zero) (around_within u hu) (around_within plus_zero (zero_within 21))

    pole_alike : Alike same (position_of (Sphere R) f (corner u v)) (position_of (Sphere R) f (corner plus_zero v))
    pole_alike = alike same same-position (position_of (Sphere R) f (corner u v)) (position_of (Sphere R) f (corner plus_zero v)) pole-one

  sphere_still : (m n : ℕ) (p q : Vec3)
      → net same p q (map (position_of (Sphere R) f) (sides (rungs plus_zero TAU (clamped m)) (rungs (neg H) H (clamped n)) full_turn quarters)) ≡ pos 0
  unfolding domain_of
  sphere_still m n p q =
      let us = inner (rungs plus_zero TAU (clamped m)) in
      (λ i. net same p q (map (position_of (Sphere R) f) (sides (turn_rungs m i) (sphere-rungs n i) full_turn quarters)))
      ∙ poles_still (position_of (Sphere R) f) full_turn quarters (λ v. seam_closes (Sphere R) f v refl) us (inner (rungs (neg H) H (clamped n))) same p q
      (λ j h. pole_alike (neg H) lower_within lower-pole (get_or us j nan) (turns_within m j h))
      (λ j h. pole_alike H upper_within upper-pole (get_or us j nan) (turns_within m j h))

-- 02, N2: "For a whole sphere or torus the step count of every pair of positions is then zero." Where there is no whole surface there are no steps.
pub whole_still : (s : Surface) (f : Frame) (o : Resolved) → Framed f → Sizes s → (p q : Vec3) → net same p q (whole_positions s f o) ≡ pos 0
unfolding whole_positions whole_corners sides_of rungs_of steps_of domain_of
whole_still Plane f o w z p q = net-nil same p q
whole_still (Cylinder R) f o w z p q = net-nil same p q
whole_still (Cone R a) f o w z p q = net-nil same p q
whole_still (Sphere R) f o w z p q = sphere_still R f w z _ _ p q
whole_still (Torus R r) f o w z p q = torus_still R r f p q _ _

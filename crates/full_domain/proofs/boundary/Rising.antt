-- On a whole surface the rungs of each direction never fall. For each of the step counts up to 256 the prover holds the division before the top one against
-- the upper bound.
use Prim.Native.Nat.{ℕ, zero, suc, ◌-◌, ◌^◌, ◌≤◌, ◌<◌}
use mathlib.Core.Path.{◌≡◌, refl, sym, subst}
use mathlib.Core.Bool.{Bool, true, false, ◌&&◌, true≢false}
use mathlib.Core.Logic.{◌⊎◌, inl, inr, ⊎_elim}
use native.Mathlib.Omega.{arith}
use borrow.Author.Tests.{ltb-true, ltb-false}
use lib.Dec.{T, ltb, lit≤}
use lib.Ieee.{Float, le, neg, add, sub, mul, div, of_bits, of_int}
use lib.Ieee.Fits.{and_l, and_r}
use Rattle.numbers.specs.Constants.{plus_zero, H, TAU}
use Rattle.surfaces.specs.declared.options.Resolved.{Resolved}
use Rattle.surfaces.specs.declared.steps.Axis.{Axis}
use Rattle.surfaces.specs.declared.steps.Axis.TheVariants.{U, «V»}
use Rattle.surfaces.specs.declared.surface.Surface.{Surface}
use Rattle.surfaces.specs.declared.surface.Surface.TheVariants.{Plane, Cylinder, Cone, Sphere, Torus}
use Rattle.surfaces.specs.Domains.{domain_of}
use Rattle.surfaces.specs.Rungs.{division, rungs}
use Rattle.surfaces.specs.Sorting.{rising}
use Rattle.surfaces.proofs.knots.Rising.{Stretch}
use Rattle.surfaces.proofs.knots.RisingRungs.{rungs_rise}
use Rattle.surfaces.proofs.surface.Domains.{turn_stretch, sphere_stretch}
use Rattle.full_domain.specs.Boundary.{is_whole, clamped, steps_of, rungs_of}
use Rattle.full_domain.proofs.boundary.Sides.{few-steps}

module _ (lo hi : Float) where
  -- of 1 to k steps the division before the top one is at most hi
  all_below : ℕ → Bool
  all_below zero = true
  all_below (suc k) = le (division lo hi (suc k) k) hi && all_below k

  below_at : (k : ℕ) → T (all_below k) → (i : ℕ) → i < k → T (le (division lo hi (suc i) i) hi)
  unfolding all_below
  below_at zero h i q = absurd (omega arith)
  below_at (suc k) h i q =
      let top = and_l (le (division lo hi (suc k) k) hi) (all_below k) h in
      let others = and_r (le (division lo hi (suc k) k) hi) (all_below k) h in
      ⊎_elim (λ e. subst (λ (j : ℕ). T (le (division lo hi (suc j) j) hi)) (sym e) top) (below_at k others i) (by_test i k q (ltb i k) refl)
    where
      by_test : (i k : ℕ) → i < suc k → (t : Bool) → ltb i k ≡ t → (i ≡ k) ⊎ (i < k)
      by_test i k q true e = inr (ltb-true i k e)
      by_test i k q false e = inl (let l = ltb-false i k e in omega arith)

  clamped_rise : Stretch lo hi → T (all_below 256) → (n : ℕ) → T (rising (rungs lo hi (clamped n)))
  clamped_rise s h n =
      let few = few-steps n in
      let most : 256 ≤ 2 ^ 53 = lit≤ tt in
      let steps : suc (clamped n - 1) ≡ clamped n = omega arith in
      rungs_rise lo hi (clamped n) s (omega arith)
      (subst (λ (m : ℕ). T (le (division lo hi m (clamped n - 1)) hi)) steps (below_at 256 h (clamped n - 1) (omega arith)))

turn_below : T (all_below plus_zero TAU 256)
unfolding all_below division add sub mul div le of_bits of_int
turn_below = tt

sphere-below : T (all_below (neg H) H 256)
unfolding all_below division add sub mul div neg le of_bits of_int
sphere-below = tt

pub whole_rise : (s : Surface) (o : Resolved) → is_whole s ≡ true → (a : Axis) → T (rising (rungs_of a s o))
unfolding rungs_of steps_of domain_of
whole_rise Plane o e a = absurd (true≢false (sym e))
whole_rise (Cylinder R) o e a = absurd (true≢false (sym e))
whole_rise (Cone R c) o e a = absurd (true≢false (sym e))
whole_rise (Sphere R) o e U = clamped_rise plus_zero TAU turn_stretch turn_below _
whole_rise (Sphere R) o e «V» = clamped_rise (neg H) H sphere_stretch sphere-below _
whole_rise (Torus R r) o e U = clamped_rise plus_zero TAU turn_stretch turn_below _
whole_rise (Torus R r) o e «V» = clamped_rise plus_zero TAU turn_stretch turn_below _

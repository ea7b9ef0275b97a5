-- The library's words for the size of a real and for whether it is finite; the size by the tests against zero, and that a real is finite by those
-- against the infinities.
use Rattle.std.proofs.Common.{◌≡◌, zero, suc, ◌+◌, ◌*◌, ◌<◌, ◌≤◌, Bool, true, false, ◌&&◌, ◌||◌, T, eqb, ℤ, sym, refl, ap, ◌∙◌, true≢false, arith, eqb→eq, ltb-false, ltb-true, eq-eqb, eqb-true}
use Rattle.std.specs.Float.{float_with_sign, float_is_finite}
use mathlib.Core.Bool.{beq, false≢true}
use lib.Ieee.{Float, nan, inf, fin, binary64, up, down, neg, lt, eq, fits, of_bits}
use lib.Ieee.Scale.{finite}
use Rattle.numbers.specs.Constants.{plus_zero}
use Rattle.numbers.specs.Order.{abs_of}
use Rattle.numbers.proofs.Reals.{flat, not_zero}

pub size_is : (a : Float) → float_with_sign false a ≡ abs_of a
unfolding float_with_sign abs_of
size_is nan = refl
size_is (inf s) = refl
size_is (fin s m e) = refl

pub finite_is : (a : Float) → float_is_finite a ≡ finite a
unfolding float_is_finite
finite_is nan = refl
finite_is (inf s) = refl
finite_is (fin s m e) = refl

-- ---- the size, by the tests against zero: below it, at it, and else
pub abs-below : (a : Float) → lt a plus_zero ≡ true → neg a ≡ abs_of a
unfolding lt neg abs_of of_bits
abs-below nan h = absurd (false≢true h)
abs-below (inf true) h = refl
abs-below (inf false) h = absurd (false≢true h)
abs-below (fin true m e) h = refl
abs-below (fin false m e) h = let k : m * up e * 1 < 0 * down e = ltb-true (m * up e * 1) (0 * down e) h in absurd (no k)
  where
    no : m * up e * 1 < 0 * down e → ⊥
    no k = omega arith

left : (a b : Bool) → a && b ≡ true → a ≡ true
left true b h = refl
left false b h = h

pub abs-zero : (a : Float) → T (fits binary64 a) → eq a plus_zero ≡ true → plus_zero ≡ abs_of a
unfolding eq abs_of of_bits fits
abs-zero nan f h = absurd (false≢true h)
abs-zero (inf s) f h = absurd (false≢true h)
abs-zero (fin s zero e) f h = sym (ap (λ (g : ℤ). fin false 0 g) (flat e (eqb→eq (up e * down e) 1 f)))
abs-zero (fin s (suc m) e) f h =
    let k : suc m * up e * 1 ≡ 0 * down e = eqb-true (suc m * up e * 1) (0 * down e) (left (eqb (suc m * up e * 1) (0 * down e)) _ h) in
    let z : suc m * up e ≤ 0 = omega arith in absurd (not_zero m e z)

pub abs-above : (a : Float) → lt a plus_zero ≡ false → eq a plus_zero ≡ false → a ≡ abs_of a
unfolding lt eq abs_of of_bits
abs-above nan h k = refl
abs-above (inf true) h k = absurd (true≢false h)
abs-above (inf false) h k = refl
abs-above (fin false m e) h k = refl
abs-above (fin true m e) h k =
    let z : m * up e * 1 + 0 * down e ≤ 0 = ltb-false 0 (m * up e * 1 + 0 * down e) h in
    let y : m * up e * 1 ≡ 0 * down e = omega arith in
    absurd (true≢false (sym (known y) ∙ k))
  where
    known : m * up e * 1 ≡ 0 * down e → eqb (m * up e * 1) (0 * down e) && (beq true false || eqb (m * up e * 1) 0) ≡ true
    known y = let z : m * up e * 1 ≡ 0 = omega arith in rw (eq-eqb (m * up e * 1) (0 * down e) y, eq-eqb (m * up e * 1) 0 z)

-- ---- finite, by the tests against the infinities: not minus infinity and below plus infinity
pub above-least : (x : Float) → lt (inf true) x ≡ true → lt x (inf false) ≡ finite x
unfolding lt
above-least nan t = refl
above-least (inf true) t = sym t
above-least (inf false) t = refl
above-least (fin s m e) t = refl

-- what is not above minus infinity is no finite number
pub not_above : (x : Float) → lt (inf true) x ≡ false → false ≡ finite x
unfolding lt
not_above nan t = refl
not_above (inf s) t = refl
not_above (fin s m e) t = sym t

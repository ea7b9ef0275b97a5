-- q mod 4 of a whole real q, by its value.
use Rattle.std.proofs.Common.{◌≡◌, ℕ, zero, suc, ◌+◌, ◌-◌, ◌*◌, ◌/◌, ◌%◌, ◌^◌, ◌<◌, ◌≤◌, min, true, false, T, ℤ, pos, negsuc, sym, refl, ap, ◌∙◌, subst, le_trans, le_of_eq, lt_of_le_of_lt, mod-lt, mul_assoc, div-lt_iff_lt-mul, pow-suc, zero-mul, mul-one, not-le_of_lt, le-mul_of_pos_right, div-one, arith, pow_pos, ltb-false, ltb-true}
use native.Mathlib.Nat.{mul-mod_left, div-eq_of_lt}
use mathlib.Core.Bool.{false≢true}
use lib.Ieee.{Float, nan, inf, fin, binary64, up, down, neg, lt, fits, of_bits, to_unsigned}
use lib.Ieee.Fits.{down_pos}
use Rattle.numbers.proofs.Reals.{Zero, Nought, in_range, cut-value, fits-digits, not_zero}
use Rattle.numbers.specs.Trig.{quarter_of}

abbrev pub Big : Float
Big = of_bits binary64 0x43e0_0000_0000_0000

under : (m : ℕ) (e : ℤ) → lt (fin false m e) Big ≡ true → m * up e < 2 ^ 63 * down e
unfolding lt of_bits
under m e t = subst (λ (z : ℕ). z < 2 ^ 63 * down e) (mul-one (m * up e)) (ltb-true (m * up e * 1) (2 ^ 63 * down e) t)

more : (n d : ℕ) → n < 2 ^ 63 * d → n < 2 ^ 64 * d
more n d h = omega arith

capped : (q : ℕ) → q < 2 ^ 63 → min q (2 ^ 64 - 1) ≡ q
capped q h = omega arith

pub quarter_range : (q : Float) → T (lt Zero q) → lt q Big ≡ true → T (lt (fin true 1 (pos 0)) q) × T (lt q (fin false 1 (pos 64)))
unfolding lt of_bits
quarter_range nan p t = absurd p
quarter_range (inf true) p t = absurd p
quarter_range (inf false) p t = absurd (false≢true t)
quarter_range (fin true m e) p t = absurd p
quarter_range (fin false m e) p t = in_range (fin false m e) (m * up e) (down e) (down_pos e) (refl, refl) (more (m * up e) (down e) (under m e t))

pub quarter_is : (q : Float) → T (lt Zero q) → lt q Big ≡ true → (n : ℕ) → n ≡ to_unsigned 64 q → n % 4 ≡ quarter_of q
unfolding lt of_bits quarter_of
quarter_is nan p t n h = absurd p
quarter_is (inf true) p t n h = absurd p
quarter_is (inf false) p t n h = absurd (false≢true t)
quarter_is (fin true m e) p t n h = absurd p
quarter_is (fin false m e) p t n h =
    ap (λ (z : ℕ). z % 4) (h ∙ cut-value (fin false m e) (m * up e) (down e) (down_pos e) (refl, refl) ∙ capped (m * up e / down e) ((div-lt_iff_lt-mul (down_pos e)).1 (under m e t)))

few : (m p : ℕ) → m < 2 ^ 53 → 2 ^ 63 ≤ m * p → p < 4 → ⊥
few m p a b c = not-le_of_lt (lt_of_le_of_lt (native.Mathlib.Nat.mul-le-mul {n₁ = m} {m₁ = p} {n₂ = 2 ^ 53} {m₂ = 4} (native.Mathlib.Nat.le_of_lt a) (native.Mathlib.Nat.le_of_lt c)) (lib.Dec.lit< tt)) b

pub quarter_big : (q : Float) → T (fits binary64 q) → T (lt Zero q) → lt q Big ≡ false → 0 ≡ quarter_of q
unfolding lt of_bits quarter_of
quarter_big nan f p t = absurd p
quarter_big (inf true) f p t = absurd p
quarter_big (inf false) f p t = refl
quarter_big (fin true m e) f p t = absurd p
quarter_big (fin false m (pos zero)) f p t =
    absurd (few m 1 (fits-digits binary64 false m (pos 0) f).0 (subst (λ (z : ℕ). 2 ^ 63 ≤ z) (mul-one (m * 1)) (ltb-false (m * 1 * 1) (2 ^ 63) t)) (lib.Dec.lit< tt))
quarter_big (fin false m (pos (suc zero))) f p t =
    absurd (few m 2 (fits-digits binary64 false m (pos 1) f).0 (subst (λ (z : ℕ). 2 ^ 63 ≤ z) (mul-one (m * 2)) (ltb-false (m * 2 * 1) (2 ^ 63) t)) (lib.Dec.lit< tt))
quarter_big (fin false m (pos (suc (suc k)))) f p t =
    sym (ap (λ (z : ℕ). z % 4) (div-one (m * 2 ^ suc (suc k)) ∙ ap (λ (z : ℕ). m * z) (pow-suc 2 (suc k) ∙ ap (λ (z : ℕ). z * 2) (pow-suc 2 k) ∙ mul_assoc (2 ^ k) 2 2) ∙ sym (mul_assoc m (2 ^ k) 4)) ∙ mul-mod_left (m * 2 ^ k) 4)
quarter_big (fin false m (negsuc k)) f p t =
    let a : 2 ^ 63 * 2 ^ suc k ≤ m * 1 * 1 = ltb-false (m * 1 * 1) (2 ^ 63 * 2 ^ suc k) t in
    let b : 2 ^ 63 ≤ 2 ^ 63 * 2 ^ suc k = le-mul_of_pos_right (2 ^ 63) (pow_pos (suc k)) in
    absurd (few m 1 (fits-digits binary64 false m (negsuc k) f).0 (le_trans b (le_trans a (le_of_eq (mul-one (m * 1))))) (lib.Dec.lit< tt))

pub quarter_lt : (q : Float) → quarter_of q < 4
unfolding quarter_of
quarter_lt nan = lib.Dec.lit< tt
quarter_lt (inf s) = lib.Dec.lit< tt
quarter_lt (fin true m e) = mod-lt (4 - m * up e / down e % 4) (lib.Dec.lit< tt)
quarter_lt (fin false m e) = mod-lt (m * up e / down e) (lib.Dec.lit< tt)

pub quarter_neg : (q : Float) → lt q Nought ≡ true → (4 - quarter_of (neg q)) % 4 ≡ quarter_of q
unfolding quarter_of neg lt of_bits
quarter_neg nan t = absurd (false≢true t)
quarter_neg (inf s) t = refl
quarter_neg (fin true m e) t = refl
quarter_neg (fin false m e) t = absurd (no (ltb-true (m * up e * 1) (0 * down e) t))
  where
    no : m * up e * 1 < 0 * down e → ⊥
    no h = omega arith

none : (e : ℤ) → 0 * up e / down e ≡ 0
none e = ap (λ (z : ℕ). z / down e) (zero-mul (up e)) ∙ div-eq_of_lt (down_pos e)

pub quarter_zero : (q : Float) → lt Nought q ≡ false → lt q Nought ≡ false → 0 ≡ quarter_of q
unfolding quarter_of lt of_bits
quarter_zero nan p t = refl
quarter_zero (inf s) p t = refl
quarter_zero (fin false zero e) p t = sym (ap (λ (z : ℕ). z % 4) (none e))
quarter_zero (fin true zero e) p t = sym (ap (λ (z : ℕ). (4 - z % 4) % 4) (none e))
quarter_zero (fin true (suc m) e) p t = let h : suc m * up e * 1 + 0 * down e ≤ 0 = ltb-false 0 (suc m * up e * 1 + 0 * down e) t in absurd (not_zero m e (omega arith))
quarter_zero (fin false (suc m) e) p t = let h : suc m * up e * 1 ≤ 0 * down e = ltb-false (0 * down e) (suc m * up e * 1) p in absurd (not_zero m e (omega arith))

-- What each function of the module `root` needs.
use Rattle.std.proofs.Common.{◌≡◌, ℕ, zero, suc, ◌+◌, ◌-◌, ◌*◌, ◌/◌, ◌%◌, ◌^◌, ◌<◌, ◌≤◌, true, false, not, T, sym, refl, ap, ◌∙◌, subst, true≢false, le_trans, le_of_eq, lt_of_lt_of_le, lt_of_le_of_lt, le_of_lt, mul-le-mul_right, mul_assoc, mul_comm, div-lt_iff_lt-mul, lt_of_mul-lt-mul_right, mul-lt-mul_of_pos_right, mul-pos, mul_right_comm, mul-div_cancel, sub-one, arith, ltb→lt, pow_pos, pow_mono, pow-add, ltb-false, ltb-true}
use mathlib.Core.Bool.{false≢true}
use lib.Ieee.{Float, nan, inf, fin, binary64, up, down, size, to_bits, of_bits, fits, is_nan, lt, div}
use lib.Ieee.Digits.{size-le}
use lib.Ieee.Exact.{HasValue}
use lib.Ieee.Fits.{down_pos, kept-lt}
use lib.Ieee.Bits.{of_bits-to_bits}
use lib.Ieee.Positive.{first_pos}
use Rattle.numbers.specs.Root.{Rooted, Digit, Padded}
use Rattle.numbers.specs.Sqrt.{root_float, sqrt_of}
use Rattle.numbers.proofs.Reals.{Zero, Nought, nought_by_nought, fits_under, not_zero}
use Rattle.numbers.proofs.root.Whole.{pow_lt_back, square_lt-back, square_next, four-pow, four_pos, four_next}
use Rattle.numbers.proofs.root.Near.{root_down, root_up}
use Rattle.numbers.proofs.root.Pattern.{made, decoded, digits_of, shift_of}

-- ---- `isqrt`: the number with its last digit of base 4 taken off
pub rest_under : (x zeros bits : ℕ) → zeros ≡ 0 → (bits ≡ 0 → ⊥) → x * 4 ^ zeros < 4 ^ bits → x / 4 * 4 ^ 0 < 4 ^ (bits - 1)
rest_under x zeros bits e n h =
    let a : x * 1 < 4 ^ bits = subst (λ (z : ℕ). x * 4 ^ z < 4 ^ bits) e h in
    let b = four_next bits n in
    omega arith

pub zero-under : (x zeros bits : ℕ) → (zeros ≡ 0 → ⊥) → (bits ≡ 0 → ⊥) → x * 4 ^ zeros < 4 ^ bits → x * 4 ^ (zeros - 1) < 4 ^ (bits - 1)
zero-under x zeros bits m n h =
    lt_of_mul-lt-mul_right 4
    (lt_of_le_of_lt (le_of_eq (mul_assoc x (4 ^ (zeros - 1)) 4 ∙ ap (λ (z : ℕ). x * z) (sym (four_next zeros m))))
    (lt_of_lt_of_le h (le_of_eq (four_next bits n))))

pub small_root : (n q r bits : ℕ) → Rooted n q r → n < 4 ^ bits → bits ≤ 53 → q < 2 ^ 60
small_root n q r bits p h b =
    let w = p.whole in
    let under : n < 4 ^ 60 = lt_of_lt_of_le h (le_trans (le_of_eq (four-pow bits ∙ sym (pow-add 2 bits bits))) (pow_mono {i = bits + bits} {j = 120} (omega arith))) in
    square_lt-back q (2 ^ 60) (omega arith)

pub last_digit : (x zeros q r q' r' : ℕ) → zeros ≡ 0 → Rooted (x / 4 * 4 ^ 0) q r → Digit q r (x % 4) q' r' → Rooted (x * 4 ^ zeros) q' r'
last_digit x zeros q r q' r' e p d =
    let a = p.whole in
    let b = d.whole in
    subst (λ (z : ℕ). Rooted (x * 4 ^ z) q' r') (sym e) (record { whole = omega arith; rest = d.rest })

pub zero_digit : (x zeros q r q' r' : ℕ) → (zeros ≡ 0 → ⊥) → Rooted (x * 4 ^ (zeros - 1)) q r → Digit q r 0 q' r' → Rooted (x * 4 ^ zeros) q' r'
zero_digit x zeros q r q' r' n p d =
    let a = p.whole in
    let b = d.whole in
    let e : x * 4 ^ zeros ≡ x * 4 ^ (zeros - 1) * 4 = ap (λ (z : ℕ). x * z) (four_next zeros n) ∙ sym (mul_assoc x (4 ^ (zeros - 1)) 4) in
    record { whole = omega arith; rest = d.rest }

pub no_digit : (n bits : ℕ) → bits ≡ 0 → n < 4 ^ bits → Rooted n 0 0
no_digit n bits e h = let a : n < 4 ^ 0 = subst (λ (z : ℕ). n < 4 ^ z) e h in record { whole = omega arith; rest = omega arith }

-- ---- `padding`: m has r + 1 bits, so r / 2 + 1 digits of base 4
pub padded : (m r : ℕ) → m < 4 ^ 27 → 2 ^ r ≤ m → m < 2 * 2 ^ r → Padded m (52 - r / 2)
padded m r u l h =
    let k : ℕ = r / 2 in
    let four : 4 ^ k ≡ 2 ^ (k + k) = four-pow k ∙ sym (pow-add 2 k k) in
    let low : 4 ^ k ≤ m = le_trans (le_of_eq four) (le_trans (pow_mono (omega arith)) l) in
    let top : 2 * 2 ^ r ≤ 4 ^ k * 4 = le_trans (le_of_eq (mul_comm 2 (2 ^ r) ∙ sym (pow-add 2 r 1))) (le_trans (pow_mono (omega arith)) (le_of_eq (pow-add 2 (k + k) 2 ∙ ap (λ (z : ℕ). z * 4) (sym four)))) in
    let few : k < 27 = (let n : k + k < 54 = pow_lt_back (k + k) 54 (lt_of_le_of_lt (le_trans (le_of_eq (sym four)) low) u) in omega arith) in
    let whole : 4 ^ k * 4 ^ (52 - k) ≡ 4 ^ 52 = sym (pow-add 4 k (52 - k)) ∙ ap (λ (z : ℕ). 4 ^ z) (back k few) in
    record {
      least = le_trans (le_of_eq (sym whole)) (mul-le-mul_right (4 ^ (52 - k)) low);
      under = lt_of_lt_of_le (mul-lt-mul_of_pos_right (lt_of_lt_of_le h top) (four_pos (52 - k))) (le_of_eq (mul_right_comm (4 ^ k) 4 (4 ^ (52 - k)) ∙ ap (λ (z : ℕ). z * 4) whole));
      few = omega arith;
    }
  where
    back : (k : ℕ) → k < 27 → k + (52 - k) ≡ 52
    back k h = omega arith

-- ---- `even`
scaled : (m h k N : ℕ) → k ≤ h + 537 → N ≡ m * 4 ^ k → m * 4 ^ h * 4 ^ 537 ≡ N * 4 ^ (h + 537 - k)
scaled m h k N l e =
    mul_assoc m (4 ^ h) (4 ^ 537)
    ∙ ap (λ (z : ℕ). m * z) (sym (pow-add 4 h 537) ∙ ap (λ (z : ℕ). 4 ^ z) (back k (h + 537) l) ∙ pow-add 4 k (h + 537 - k))
    ∙ sym (mul_assoc m (4 ^ k) (4 ^ (h + 537 - k)))
    ∙ ap (λ (z : ℕ). z * 4 ^ (h + 537 - k)) (sym e)
  where
    back : (k n : ℕ) → k ≤ n → n ≡ k + (n - k)
    back k n h = omega arith

module _ (m h z Q R : ℕ) (p : Rooted (m * 4 ^ z) Q R) (d : Padded m z) (small : h ≤ 1022) where
  pub root_least : 2 ^ 52 ≤ Q
  root_least =
      let w = p.whole in
      let r = p.rest in
      let l = d.least in
      let next : (Q + 1) * (Q + 1) ≡ Q * Q + 2 * Q + 1 = square_next Q in
      let a : 2 ^ 52 < Q + 1 = square_lt-back (2 ^ 52) (Q + 1) (omega arith) in
      omega arith

  pub root_under : Q < 2 ^ 53
  root_under = let w = p.whole in let u = d.under in square_lt-back Q (2 ^ 53) (omega arith)

  whole : m * 4 ^ h * 4 ^ 537 ≡ (Q * Q + R) * 4 ^ (h + 537 - z)
  whole = let f = d.few in scaled m h z (Q * Q + R) (omega arith) p.whole

  pub even_down : R ≤ Q → of_bits binary64 ((h + 537 - z) * 2 ^ 52 + Q) ≡ root_float (m * 4 ^ h * 4 ^ 537)
  even_down l =
      made Q (h + 537 - z) root_least (le_of_lt root_under) (omega arith)
      ∙ sym (root_down (m * 4 ^ h * 4 ^ 537) Q R (h + 537 - z) whole p.rest root_least root_under l)

  pub even_up : Q < R → of_bits binary64 ((h + 537 - z) * 2 ^ 52 + (Q + 1)) ≡ root_float (m * 4 ^ h * 4 ^ 537)
  even_up l =
      let a = root_least in
      let b = root_under in
      made (Q + 1) (h + 537 - z) (omega arith) (omega arith) (omega arith)
      ∙ sym (root_up (m * 4 ^ h * 4 ^ 537) Q R (h + 537 - z) whole p.rest root_least root_under l)

-- ---- `rooted`
halves : (k : ℕ) → 4 ^ k ≡ 2 ^ (k + k)
halves k = four-pow k ∙ sym (pow-add 2 k k)

pub at_even : (m k : ℕ) → k % 2 ≡ 0 → m * 4 ^ (k / 2) * 4 ^ 537 ≡ m * 2 ^ k * 2 ^ 1074
at_even m k h = ap (λ (z : ℕ). m * z * 2 ^ 1074) (halves (k / 2) ∙ ap (λ (z : ℕ). 2 ^ z) (both k h))
  where
    both : (k : ℕ) → k % 2 ≡ 0 → k / 2 + k / 2 ≡ k
    both k h = omega arith

pub at_odd : (m k : ℕ) → (k % 2 ≡ 0 → ⊥) → 2 * m * 4 ^ (k / 2) * 4 ^ 537 ≡ m * 2 ^ k * 2 ^ 1074
at_odd m k h =
    ap (λ (z : ℕ). z * 2 ^ 1074)
    (ap (λ (z : ℕ). z * 4 ^ (k / 2)) (mul_comm 2 m)
    ∙ mul_assoc m 2 (4 ^ (k / 2))
    ∙ ap (λ (z : ℕ). m * z) (ap (λ (z : ℕ). 2 * z) (halves (k / 2)) ∙ sym (pow-add 2 1 (k / 2 + k / 2)) ∙ ap (λ (z : ℕ). 2 ^ z) (both k h)))
  where
    both : (k : ℕ) → (k % 2 ≡ 0 → ⊥) → 1 + (k / 2 + k / 2) ≡ k
    both k h = omega arith

-- ---- `positive`
pub is_number : (x : Float) → T (lt Zero x) → T (not (is_nan x))
unfolding lt is_nan
is_number nan p = absurd p
is_number (inf s) p = tt
is_number (fin s m e) p = tt

pattern_under : (k d : ℕ) → k ≤ 2045 → d < 2 ^ 53 → 0 + k * 2 ^ 52 + d < 2047 * 2 ^ 52
pattern_under k d a b = omega arith

pub bits-under : (x : Float) → T (fits binary64 x) → T (lt Zero x) → T (lt x (inf false)) → to_bits binary64 x < 2047 * 2 ^ 52
unfolding lt to_bits
bits-under nan f p q = absurd p
bits-under (inf true) f p q = absurd p
bits-under (inf false) f p q = absurd q
bits-under (fin true m e) f p q = absurd p
bits-under (fin false m e) f p q =
    let N = m * up e * 2 ^ 1074 / down e in
    let n : N < 2 ^ 2098 =
    (div-lt_iff_lt-mul (down_pos e)).1
    (lt_of_lt_of_le (mul-lt-mul_of_pos_right (fits_under binary64 false m e f) (pow_pos 1074)) (le_of_eq (mul_right_comm (2 ^ 1024) (down e) (2 ^ 1074)))) in
    let s : size N ≤ 2098 = size-le N 2098 n in
    pattern_under (size N - 53) (N / 2 ^ (size N - 53)) (omega arith) (kept-lt 53 N)

value : (x : Float) → T (fits binary64 x) → T (lt Zero x) → T (lt x (inf false))
    → HasValue x false (digits_of (to_bits binary64 x / 2 ^ 52) (to_bits binary64 x % 2 ^ 52) * 2 ^ shift_of (to_bits binary64 x / 2 ^ 52)) (2 ^ 1074)
value x f p q =
    let b = to_bits binary64 x in
    subst (λ (y : Float). HasValue y false (digits_of (b / 2 ^ 52) (b % 2 ^ 52) * 2 ^ shift_of (b / 2 ^ 52)) (2 ^ 1074)) (of_bits-to_bits binary64 x f) (decoded b (bits-under x f p q))

pub value_low : (x : Float) → T (fits binary64 x) → T (lt Zero x) → T (lt x (inf false)) → to_bits binary64 x / 2 ^ 52 ≡ 0 → HasValue x false (to_bits binary64 x % 2 ^ 52 * 2 ^ 0) (2 ^ 1074)
value_low x f p q e = subst (λ (z : ℕ). HasValue x false (digits_of z (to_bits binary64 x % 2 ^ 52) * 2 ^ shift_of z) (2 ^ 1074)) e (value x f p q)

not_low : (x : Float) (z t : ℕ) → (z ≡ 0 → ⊥) → HasValue x false (digits_of z t * 2 ^ shift_of z) (2 ^ 1074) → HasValue x false ((t + 2 ^ 52) * 2 ^ (z - 1)) (2 ^ 1074)
not_low x zero t n v = absurd (n refl)
not_low x (suc z) t n v = subst (λ (k : ℕ). HasValue x false ((t + 2 ^ 52) * 2 ^ k) (2 ^ 1074)) (sym (sub-one (suc z))) v

pub value-high : (x : Float) → T (fits binary64 x) → T (lt Zero x) → T (lt x (inf false)) → (to_bits binary64 x / 2 ^ 52 ≡ 0 → ⊥)
    → HasValue x false ((to_bits binary64 x % 2 ^ 52 + 2 ^ 52) * 2 ^ (to_bits binary64 x / 2 ^ 52 - 1)) (2 ^ 1074)
value-high x f p q e = not_low x (to_bits binary64 x / 2 ^ 52) (to_bits binary64 x % 2 ^ 52) e (value x f p q)

-- a value above zero has digits
pub some_digits : (x : Float) (a : ℕ) → T (lt Zero x) → HasValue x false a (2 ^ 1074) → 0 < a
unfolding lt
some_digits nan a p v = absurd p
some_digits (inf s) a p v = absurd v
some_digits (fin true m e) a p v = absurd p
some_digits (fin false m e) a p v =
    let h : 0 * down e < m * up e * 1 = ltb→lt (0 * down e) (m * up e * 1) p in
    first_pos a (down e) (subst (λ (z : ℕ). 0 < z) v.1 (mul-pos (pos_of (m * up e) (down e) h) (pow_pos 1074)))
  where
    pos_of : (n d : ℕ) → 0 * d < n * 1 → 0 < n
    pos_of n d h = omega arith

pub root_of_value : (x : Float) (a : ℕ) → T (lt Zero x) → HasValue x false a (2 ^ 1074) → root_float (a * 2 ^ 1074) ≡ sqrt_of x
unfolding lt sqrt_of
root_of_value nan a p v = absurd p
root_of_value (inf s) a p v = absurd v
root_of_value (fin true m e) a p v = absurd p
root_of_value (fin false zero e) a p v = absurd (no (ltb→lt (0 * down e) (0 * up e * 1) p))
  where
    no : 0 * down e < 0 * up e * 1 → ⊥
    no h = omega arith
root_of_value (fin false (suc m) e) a p v =
    ap root_float
    (sym
    (ap (λ (z : ℕ). z / down e) (sym (mul_assoc (suc m * up e) (2 ^ 1074) (2 ^ 1074)) ∙ ap (λ (z : ℕ). z * 2 ^ 1074) v.1 ∙ mul_right_comm a (down e) (2 ^ 1074))
    ∙ mul-div_cancel (a * 2 ^ 1074) (down_pos e)))

-- ---- `sqrt`
abbrev Endless : Float
Endless = of_bits binary64 0x7ff0_0000_0000_0000

pub below_endless : (x : Float) → lt x Endless ≡ true → T (lt x (inf false))
unfolding of_bits
below_endless x t = subst T (sym t) tt

pub endless : (x : Float) → T (lt Zero x) → lt x Endless ≡ false → x ≡ sqrt_of x
unfolding lt of_bits sqrt_of
endless nan p t = absurd p
endless (inf true) p t = absurd p
endless (inf false) p t = refl
endless (fin s m e) p t = absurd (true≢false t)

-- below zero the root is the NaN that the code writes, which is 0 / 0
pub nan_under : (x : Float) → lt x Nought ≡ true → of_bits binary64 0x7ff8_0000_0000_0000 ≡ sqrt_of x
unfolding lt of_bits sqrt_of
nan_under nan t = refl
nan_under (inf true) t = refl
nan_under (inf false) t = absurd (false≢true t)
nan_under (fin true zero e) t = let h : 0 < 0 * up e * 1 + 0 * down e = ltb-true 0 (0 * up e * 1 + 0 * down e) t in absurd (no h)
  where
    no : 0 < 0 * up e * 1 + 0 * down e → ⊥
    no h = omega arith
nan_under (fin true (suc m) e) t = refl
nan_under (fin false m e) t = absurd (no (ltb-true (m * up e * 1) (0 * down e) t))
  where
    no : m * up e * 1 < 0 * down e → ⊥
    no h = omega arith

pub under : (x : Float) → lt x Nought ≡ true → div binary64 Nought Nought ≡ sqrt_of x
under x t = nought_by_nought ∙ nan_under x t

pub still : (x : Float) → lt Nought x ≡ false → lt x Nought ≡ false → x ≡ sqrt_of x
unfolding lt of_bits sqrt_of
still nan p t = refl
still (inf true) p t = absurd (true≢false t)
still (inf false) p t = refl
still (fin true zero e) p t = refl
still (fin false zero e) p t = refl
still (fin true (suc m) e) p t = let h : suc m * up e * 1 + 0 * down e ≤ 0 = ltb-false 0 (suc m * up e * 1 + 0 * down e) t in absurd (not_zero m e (omega arith))
still (fin false (suc m) e) p t = let h : suc m * up e * 1 ≤ 0 * down e = ltb-false (0 * down e) (suc m * up e * 1) p in absurd (not_zero m e (omega arith))

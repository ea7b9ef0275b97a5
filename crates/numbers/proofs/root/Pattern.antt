-- Bit patterns of `f64` values and their sizes in units of 2 ^ -1074.
use Rattle.std.proofs.Common.{◌≡◌, ℕ, zero, suc, ◌+◌, ◌-◌, ◌*◌, ◌/◌, ◌%◌, ◌^◌, ◌<◌, ◌≤◌, Bool, true, false, cond, T, eqb, ltb, leb, sym, ap, ◌∙◌, subst, inl, inr, true≢false, le_trans, le_of_eq, lt_of_le_of_lt, lt_irrefl, mul-le-mul_right, mod-eq_of_lt, mul_assoc, mul_comm, div-lt_iff_lt-mul, add_comm, eq-or-lt_of_le, pow-suc, zero-add, mul-div_cancel, arith, lit<, lit≤, pow_pos, pow_mono, pow-add, shl_lt, ne_eqb}
use lib.Ieee.{Float, nan, inf, fin, binary64, down, size, odd, units, to_bits, of_bits, of_fields, fits}
use lib.Ieee.Digits.{size-lt, size-le}
use lib.Ieee.Exact.{HasValue, units_val, odd_sign}
use lib.Ieee.Fits.{down_pos, odd-fits, cond-fits, inf-fits}
use lib.Ieee.Bits.{of_bits-to_bits}
use borrow.Author.Tests.{lt-leb}
use Rattle.numbers.proofs.root.Whole.{pow_lt_back}

-- ---- from a value to its pattern
pub bits_of_value : (y : Float) (N : ℕ) → HasValue y false N (2 ^ 1074) → to_bits binary64 y ≡ (size N - 53) * 2 ^ 52 + N / 2 ^ (size N - 53)
unfolding to_bits
bits_of_value nan N v = absurd v
bits_of_value (inf s) N v = absurd v
bits_of_value (fin true m e) N v = absurd (true≢false v.0)
bits_of_value (fin false m e) N v =
    ap (λ (z : ℕ). 0 + (size z - 53) * 2 ^ 52 + z / 2 ^ (size z - 53)) (ap (λ (z : ℕ). z / down e) v.1 ∙ mul-div_cancel N (down_pos e))
    ∙ ap (λ (z : ℕ). z + N / 2 ^ (size N - 53)) (zero-add ((size N - 53) * 2 ^ 52))

size_exact : (a n : ℕ) → 2 ^ a ≤ n → n < 2 ^ suc a → size n ≡ suc a
size_exact a n lo hi = let x = pow_lt_back a (size n) (lt_of_le_of_lt lo (size-lt n)) in let y = size-le n (suc a) hi in omega arith

fifty_two : (K : ℕ) → suc (52 + K) - 53 ≡ K
fifty_two K = omega arith

pattern_normal : (n K : ℕ) → 2 ^ 52 ≤ n → n < 2 ^ 53 → (size (n * 2 ^ K) - 53) * 2 ^ 52 + n * 2 ^ K / 2 ^ (size (n * 2 ^ K) - 53) ≡ K * 2 ^ 52 + n
pattern_normal n K lo hi =
    let s : size (n * 2 ^ K) ≡ suc (52 + K) =
    size_exact (52 + K) (n * 2 ^ K) (le_trans (le_of_eq (pow-add 2 52 K)) (mul-le-mul_right (2 ^ K) lo)) (subst (λ (z : ℕ). n * 2 ^ K < 2 ^ z) (fifty K) (shl_lt 53 K hi)) in
    ap (λ (z : ℕ). z * 2 ^ 52 + n * 2 ^ K / 2 ^ z) (ap (λ (z : ℕ). z - 53) s ∙ fifty_two K)
    ∙ ap (λ (z : ℕ). K * 2 ^ 52 + z) (mul-div_cancel n (pow_pos K))
  where
    fifty : (K : ℕ) → 53 + K ≡ suc (52 + K)
    fifty K = omega arith

-- the carry: n = 2 ^ 53
carry : (K : ℕ) → 2 ^ 53 * 2 ^ K ≡ 2 ^ 52 * 2 ^ suc K
carry K = mul_assoc (2 ^ 52) 2 (2 ^ K) ∙ ap (λ (z : ℕ). 2 ^ 52 * z) (mul_comm 2 (2 ^ K) ∙ sym (pow-suc 2 K))

carried : (K : ℕ) → suc K * 2 ^ 52 + 2 ^ 52 ≡ K * 2 ^ 52 + 2 ^ 53
carried K = omega arith

pattern_is : (n K : ℕ) → 2 ^ 52 ≤ n → n ≤ 2 ^ 53 → (size (n * 2 ^ K) - 53) * 2 ^ 52 + n * 2 ^ K / 2 ^ (size (n * 2 ^ K) - 53) ≡ K * 2 ^ 52 + n
pattern_is n K lo hi = elim (eq-or-lt_of_le hi) [
  | inl e ↦
      subst (λ (z : ℕ). (size (z * 2 ^ K) - 53) * 2 ^ 52 + z * 2 ^ K / 2 ^ (size (z * 2 ^ K) - 53) ≡ K * 2 ^ 52 + z) (sym e)
      (ap (λ (z : ℕ). (size z - 53) * 2 ^ 52 + z / 2 ^ (size z - 53)) (carry K) ∙ pattern_normal (2 ^ 52) (suc K) (lit≤ tt) (lit< tt) ∙ carried K)
  | inr l ↦ pattern_normal n K lo l
]

-- no overflow
in_range : (n K : ℕ) → n ≤ 2 ^ 53 → K ≤ 2000 → n * 2 ^ K < 2 ^ 2098
in_range n K h k = lt_of_le_of_lt (le_trans (mul-le-mul_right (2 ^ K) h) (le_trans (le_of_eq (sym (pow-add 2 53 K))) (pow_mono {j = 2053} (omega arith)))) (lib.Pow.pow-lt {i = 2053} {j = 2098} (lit< tt))

units-fits : (n K : ℕ) → n ≤ 2 ^ 53 → K ≤ 2000 → T (fits binary64 (units binary64 false n K))
unfolding units
units-fits n K h k =
    cond-fits binary64 (ltb (n * 2 ^ K) (2 ^ 2098)) (odd 54 false n K 1074) (inf false)
    (odd-fits binary64 54 false n K (lt_of_le_of_lt h (lit< tt)) h (in_range n K h k)) (inf-fits binary64 false)

pub made : (n K : ℕ) → 2 ^ 52 ≤ n → n ≤ 2 ^ 53 → K ≤ 2000 → of_bits binary64 (K * 2 ^ 52 + n) ≡ units binary64 false n K
made n K lo hi k =
    ap (of_bits binary64) (sym (bits_of_value (units binary64 false n K) (n * 2 ^ K) (units_val binary64 false n K (in_range n K hi k)) ∙ pattern_is n K lo hi))
    ∙ of_bits-to_bits binary64 (units binary64 false n K) (units-fits n K hi k)

-- ---- from a pattern to its value
-- the digits and the exponent of a pattern, as a whole number of units
abbrev pub digits_of : ℕ → ℕ → ℕ
digits_of zero t = t
digits_of (suc x) t = t + 2 ^ 52

abbrev pub shift_of : ℕ → ℕ
shift_of zero = 0
shift_of (suc x) = x

fields : (x t : ℕ) → x < 2047 → HasValue (of_fields binary64 false x t) false (digits_of x t * 2 ^ shift_of x) (2 ^ 1074)
unfolding of_fields
fields zero t h = odd_sign 53 false t 0 1074
fields (suc x) t h =
    subst (λ (b : Bool). HasValue (cond b (cond (eqb t 0) (inf false) nan) (odd 53 false (2 ^ 52 + t) x 1074)) false ((t + 2 ^ 52) * 2 ^ x) (2 ^ 1074)) (sym (ne_eqb (suc x) 2047 (λ e. lt_irrefl 2047 (subst (λ (z : ℕ). z < 2047) e h))))
    (subst (λ (z : ℕ). HasValue (odd 53 false (2 ^ 52 + t) x 1074) false (z * 2 ^ x) (2 ^ 1074)) (add_comm (2 ^ 52) t) (odd_sign 53 false (2 ^ 52 + t) x 1074))

pub decoded : (b : ℕ) → b < 2047 * 2 ^ 52 → HasValue (of_bits binary64 b) false (digits_of (b / 2 ^ 52) (b % 2 ^ 52) * 2 ^ shift_of (b / 2 ^ 52)) (2 ^ 1074)
unfolding of_bits
decoded b h =
    let s : leb (2 ^ 63) b ≡ false = lt-leb (2 ^ 63) b (omega arith) in
    let m : b % 2 ^ 63 ≡ b = mod-eq_of_lt (omega arith) in
    subst (λ (z : Bool). HasValue (of_fields binary64 z (b % 2 ^ 63 / 2 ^ 52) (b % 2 ^ 52)) false (digits_of (b / 2 ^ 52) (b % 2 ^ 52) * 2 ^ shift_of (b / 2 ^ 52)) (2 ^ 1074)) (sym s)
    (subst (λ (z : ℕ). HasValue (of_fields binary64 false (z / 2 ^ 52) (b % 2 ^ 52)) false (digits_of (b / 2 ^ 52) (b % 2 ^ 52) * 2 ^ shift_of (b / 2 ^ 52)) (2 ^ 1074)) (sym m)
    (fields (b / 2 ^ 52) (b % 2 ^ 52) ((div-lt_iff_lt-mul (pow_pos 52)).1 h)))

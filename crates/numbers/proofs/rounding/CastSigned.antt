-- A real as an i32: in range, at either end, and a NaN.
use Rattle.std.proofs.Common.{◌≡◌, ℕ, ◌+◌, ◌-◌, ◌*◌, ◌/◌, ◌^◌, ◌<◌, ◌≤◌, min, Bool, true, false, ◌||◌, T, pos, negsuc, neg_ℤ, sym, refl, ap, true≢false, div-lt_iff_lt-mul, le-div_iff_mul-le, arith, lt→ltb, w32, SFits, ltb-false, ltb-true}
use mathlib.Core.Bool.{false≢true}
use lib.Ieee.{Float, nan, inf, fin, binary64, of_bits, up, down, neg, lt, le, eq, to_signed}
use lib.Ieee.Fits.{down_pos}
use lib.Ieee.Casts.{to_signed_in}

-- 2 ^ 31, and 2 ^ 31 + 1 below zero
abbrev pub Past : Float
Past = of_bits binary64 0x41e0_0000_0000_0000

abbrev pub Under : Float
Under = neg (of_bits binary64 0x41e0_0000_0020_0000)

abbrev Long : Bool → Float
Long s = fin s 1 (pos 63)

le_of_lt : (x y : Float) → T (lt x y) → T (le x y)
unfolding le
le_of_lt x y h = or_left (lt x y) (eq x y) h
  where
    or_left : (a b : Bool) → T a → T (a || b)
    or_left true b t = tt
    or_left false b t = elim t [ ]

-- within range of an i64
above_long : (x : Float) → lt x Past ≡ true → lt Under x ≡ true → T (lt (Long true) x)
unfolding lt neg of_bits
above_long nan h k = absurd (false≢true h)
above_long (inf true) h k = absurd (false≢true k)
above_long (inf false) h k = absurd (false≢true h)
above_long (fin false m e) h k = lt→ltb 0 (2 ^ 63 * down e + m * up e * 1) (omega (arith, down_pos e))
above_long (fin true m e) h k = lt→ltb (m * up e * 1) (2 ^ 63 * down e) (wider (m * up e * 1) (down e) (ltb-true (m * up e * 1) (2147483649 * down e) k))
  where
    wider : (a d : ℕ) → a < 2147483649 * d → a < 2 ^ 63 * d
    wider a d h = omega arith

below_long : (x : Float) → lt x Past ≡ true → T (lt x (Long false))
unfolding lt of_bits
below_long nan h = absurd (false≢true h)
below_long (inf true) h = tt
below_long (inf false) h = absurd (false≢true h)
below_long (fin false m e) h = lt→ltb (m * up e * 1) (2 ^ 63 * down e) (wider (m * up e * 1) (down e) (ltb-true (m * up e * 1) (2 ^ 31 * down e) h))
  where
    wider : (a d : ℕ) → a < 2 ^ 31 * d → a < 2 ^ 63 * d
    wider a d h = omega arith
below_long (fin true m e) h = lt→ltb 0 (m * up e * 1 + 2 ^ 63 * down e) (omega (arith, down_pos e))

pub in_long : (x : Float) → lt x Past ≡ true → lt Under x ≡ true → T (le (Long true) x) × T (lt x (Long false))
in_long x h k = (le_of_lt (Long true) x (above_long x h k), below_long x h)

cut-under : (a d K : ℕ) → 0 < d → a * 1 < K * d → a / d < K
cut-under a d K D h = (div-lt_iff_lt-mul D).1 (omega arith)

cut_over : (a d K : ℕ) → 0 < d → K * d ≤ a * 1 → K ≤ a / d
cut_over a d K D h = (le-div_iff_mul-le D).1 (omega arith)

-- an i64 there is the i32
pub same-cut : (x : Float) → lt x Past ≡ true → lt Under x ≡ true → to_signed 63 x ≡ to_signed 31 x
unfolding lt neg of_bits to_signed
same-cut nan h k = absurd (false≢true h)
same-cut (inf true) h k = absurd (false≢true k)
same-cut (inf false) h k = absurd (false≢true h)
same-cut (fin false m e) h k = ap pos (both (m * up e / down e) (cut-under (m * up e) (down e) (2 ^ 31) (down_pos e) (ltb-true (m * up e * 1) (2 ^ 31 * down e) h)))
  where
    both : (q : ℕ) → q < 2 ^ 31 → min q (2 ^ 63 - 1) ≡ min q (2 ^ 31 - 1)
    both q h = omega arith
same-cut (fin true m e) h k = ap (λ (q : ℕ). neg_ℤ (pos q)) (both (m * up e / down e) (cut-under (m * up e) (down e) 2147483649 (down_pos e) (ltb-true (m * up e * 1) (2147483649 * down e) k)))
  where
    both : (q : ℕ) → q < 2147483649 → min q (2 ^ 63) ≡ min q (2 ^ 31)
    both q h = omega arith

-- the low end
pub low_end : (x : Float) → lt x Past ≡ true → lt Under x ≡ false → negsuc 2147483647 ≡ to_signed 31 x
unfolding lt neg of_bits to_signed
low_end nan h k = absurd (false≢true h)
low_end (inf true) h k = refl
low_end (inf false) h k = absurd (false≢true h)
low_end (fin false m e) h k = absurd (positive (down e) (m * up e * 1) (down_pos e) (ltb-false 0 (2147483649 * down e + m * up e * 1) k))
  where
    positive : (d a : ℕ) → 0 < d → 2147483649 * d + a ≤ 0 → ⊥
    positive d a D h = omega arith
low_end (fin true m e) h k = sym (ap (λ (q : ℕ). neg_ℤ (pos q)) (capped (m * up e / down e) (cut_over (m * up e) (down e) 2147483649 (down_pos e) (ltb-false (m * up e * 1) (2147483649 * down e) k))))
  where
    capped : (q : ℕ) → 2147483649 ≤ q → min q (2 ^ 31) ≡ 2147483648
    capped q h = omega arith

-- the high end
pub high_end : (x : Float) → lt x Past ≡ false → lt (of_bits binary64 0) x ≡ true → pos 2147483647 ≡ to_signed 31 x
unfolding lt of_bits to_signed
high_end nan h k = absurd (false≢true k)
high_end (inf true) h k = absurd (false≢true k)
high_end (inf false) h k = refl
high_end (fin true m e) h k = absurd (false≢true k)
high_end (fin false m e) h k = sym (ap pos (capped (m * up e / down e) (cut_over (m * up e) (down e) (2 ^ 31) (down_pos e) (ltb-false (m * up e * 1) (2 ^ 31 * down e) h))))
  where
    capped : (q : ℕ) → 2 ^ 31 ≤ q → min q (2 ^ 31 - 1) ≡ 2147483647
    capped q h = omega arith

-- neither below 2 ^ 31 nor above zero: a NaN
pub no_number : (x : Float) → lt x Past ≡ false → lt (of_bits binary64 0) x ≡ false → pos 0 ≡ to_signed 31 x
unfolding lt of_bits to_signed
no_number nan h k = refl
no_number (inf true) h k = absurd (true≢false h)
no_number (inf false) h k = absurd (true≢false k)
no_number (fin true m e) h k = absurd (positive (m * up e * 1) (down e) (down_pos e) (ltb-false 0 (m * up e * 1 + 2 ^ 31 * down e) h))
  where
    positive : (a d : ℕ) → 0 < d → a + 2 ^ 31 * d ≤ 0 → ⊥
    positive a d D h = omega arith
no_number (fin false m e) h k = absurd (neither (m * up e * 1) (down e) (down_pos e) (ltb-false (m * up e * 1) (2 ^ 31 * down e) h) (ltb-false (0 * down e) (m * up e * 1) k))
  where
    neither : (a d : ℕ) → 0 < d → 2 ^ 31 * d ≤ a → a ≤ 0 * d → ⊥
    neither a d D h k = omega arith

-- every real is cut to an i32
pub cut_fits : (x : Float) → SFits w32 (to_signed 31 x)
cut_fits x = record { sfits = to_signed_in 31 x }

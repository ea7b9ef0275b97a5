-- A real as an unsigned integer: in range, above it, and below it.
use Rattle.std.proofs.Common.{◌≡◌, ℕ, ◌+◌, ◌-◌, ◌*◌, ◌/◌, ◌^◌, ◌<◌, ◌≤◌, min, true, false, T, pos, sym, refl, subst, true≢false, le_trans, le_of_eq, le-div_iff_mul-le, mul-one, arith, ltb-false}
use mathlib.Core.Bool.{false≢true}
use lib.Ieee.{Float, nan, inf, fin, binary64, up, down, neg, lt, of_bits, to_unsigned}
use lib.Ieee.Fits.{down_pos}
use Rattle.numbers.specs.Constants.{one}

-- 2 ^ 64
abbrev Top : Float
Top = of_bits binary64 0x43f0_0000_0000_0000

-- above -1 and below 2 ^ 64: as far as such an integer reaches
pub cast_in : (x : Float) → lt (neg one) x ≡ true → lt x Top ≡ true → T (lt (fin true 1 (pos 0)) x) × T (lt x (fin false 1 (pos 64)))
unfolding neg of_bits
cast_in x h k = (subst T (sym h) tt, subst T (sym k) tt)

-- not below 2 ^ 64: the largest
pub cast_above : (x : Float) → lt (neg one) x ≡ true → lt x Top ≡ false → 2 ^ 64 - 1 ≡ to_unsigned 64 x
unfolding neg of_bits lt to_unsigned
cast_above nan h k = absurd (false≢true h)
cast_above (inf true) h k = absurd (false≢true h)
cast_above (inf false) h k = refl
cast_above (fin true m e) h k = absurd (no (m * up e * 1) (down e) (down_pos e) (ltb-false 0 (m * up e * 1 + 1 * 2 ^ 64 * down e) k))
  where
    no : (a d : ℕ) → 0 < d → a + 1 * 2 ^ 64 * d ≤ 0 → ⊥
    no a d h k = omega arith
cast_above (fin false m e) h k =
    let past : 1 * 2 ^ 64 * down e ≤ m * up e * 1 = ltb-false (m * up e * 1) (1 * 2 ^ 64 * down e) k in
    capped (m * up e / down e) ((le-div_iff_mul-le (down_pos e)).1 (le_trans past (le_of_eq (mul-one (m * up e)))))
  where
    capped : (q : ℕ) → 2 ^ 64 ≤ q → 2 ^ 64 - 1 ≡ min q (2 ^ 64 - 1)
    capped q h = omega arith

-- not above -1, or a NaN: 0
pub cast_below : (x : Float) → lt (neg one) x ≡ false → 0 ≡ to_unsigned 64 x
unfolding neg of_bits lt to_unsigned
cast_below nan h = refl
cast_below (inf true) h = refl
cast_below (inf false) h = absurd (true≢false h)
cast_below (fin true m e) h = refl
cast_below (fin false m e) h = absurd (no (m * up e * 1) (down e) (down_pos e) (ltb-false 0 (1 * down e + m * up e * 1) h))
  where
    no : (a d : ℕ) → 0 < d → 1 * d + a ≤ 0 → ⊥
    no a d h k = omega arith

-- Which bits are a real's: all but those above an infinity's, the sign left out.
use Rattle.std.proofs.Common.{Some, None, ◌≡◌, ℕ, ◌*◌, ◌%◌, ◌^◌, ◌<◌, ◌≤◌, Bool, true, false, not, T, sym, refl, ◌∙◌, subst, true≢false, le-ltb, lt-ltb}
use mathlib.Core.Bool.{false≢true}
use lib.Ieee.{Float, nan, inf, fin, binary64, of_bits, nan_bits, is_nan, ne}
use lib.Ieee.Bits.{nan_bits_is, nan_bits_above}
use Rattle.numbers.specs.Bits.{value_of, real_of}

abbrev infinity_bits : ℕ
infinity_bits = 2047 * 2 ^ 52

real-bits : (b : ℕ) → b % 2 ^ 63 ≤ infinity_bits → nan_bits binary64 b ≡ false
real-bits b h = nan_bits_above binary64 b ∙ le-ltb infinity_bits (b % 2 ^ 63) h

pub not_nan-bits : (b : ℕ) → b % 2 ^ 63 ≤ infinity_bits → T (not (nan_bits binary64 b))
not_nan-bits b h = subst (λ (z : Bool). T (not z)) (sym (real-bits b h)) tt

value_of_lem : (x : Float) → is_nan x ≡ false → Some x ≡ value_of x
unfolding is_nan
value_of_lem nan h = absurd (true≢false h)
value_of_lem (inf s) h = refl
value_of_lem (fin s m e) h = refl

nan_of : (x : Float) → is_nan x ≡ true → None ≡ value_of x
unfolding is_nan
nan_of nan h = refl
nan_of (inf s) h = absurd (false≢true h)
nan_of (fin s m e) h = absurd (false≢true h)

pub real_is : (b : ℕ) → b % 2 ^ 63 ≤ infinity_bits → Some (of_bits binary64 b) ≡ real_of b
real_is b h = value_of_lem (of_bits binary64 b) (sym (nan_bits_is binary64 b) ∙ real-bits b h)

pub nan_is : (b : ℕ) → infinity_bits < b % 2 ^ 63 → None ≡ real_of b
nan_is b h = nan_of (of_bits binary64 b) (sym (nan_bits_is binary64 b) ∙ nan_bits_above binary64 b ∙ lt-ltb infinity_bits (b % 2 ^ 63) h)

-- what does not differ from itself is no NaN
no_nan : (x : Float) → ne x x ≡ false → T (not (is_nan x))
unfolding ne is_nan
no_nan nan e = subst T e tt
no_nan (inf s) e = tt
no_nan (fin s m e') e = tt

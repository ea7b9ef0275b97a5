-- Counts in units of 2 ^ -1074, and the error of one rounding, computed.
use Rattle.std.specs.Prelude.{◌≡◌, ◌+◌, ◌*◌, ◌^◌, false, pos, negsuc, refl}
use Rattle.std.specs.Float.{binary64}
use Rattle.std.specs.Float.Ieee.{of_bits, round, neg}
use Rattle.numbers.specs.Constants.{plus_zero, one}
use Rattle.numbers.specs.Units.{scale, units, distance}

-- the least real is one unit, and 1 is 2 ^ 1074 of them
least-real : units (of_bits binary64 1) ≡ pos 1
unfolding units of_bits
least-real = refl

less_than_zero : units (neg (of_bits binary64 1)) ≡ negsuc 0
unfolding units neg of_bits
less_than_zero = refl

one_in_units : units one ≡ pos (2 ^ 1074)
unfolding units of_bits
one_in_units = refl

-- the largest finite real: 2 ^ 53 - 1, with 971 zeros behind it
largest_real : units (of_bits binary64 0x7fef_ffff_ffff_ffff) ≡ pos (9007199254740991 * 2 ^ 971 * scale)
unfolding units of_bits
largest_real = refl

-- zeros of either sign are one number
zeros_meet : distance plus_zero (neg plus_zero) ≡ 0
unfolding units neg of_bits
zeros_meet = refl

-- 1 + 2 ^ -53 is a tie between 1 and the next real, below 2 ^ 1: rounded to 1, it is off by 2 ^ -53, all that `RoundingError` allows
a_tie : units (round binary64 false (2 ^ 53 + 1) (2 ^ 53)) ≡ pos scale
unfolding units round
a_tie = refl

tie_is_off : (2 ^ 53 + 1) * scale ≡ 2 ^ 53 * scale + 2 ^ (1 + 1020) * 2 ^ 53
tie_is_off = refl

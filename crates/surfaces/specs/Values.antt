-- 01, "Values to hold": `merge_even` of 0, 1, 2 steps: 0, 0.5, 1; of 3, 3, 4 steps: 3. And the two cases of 02, N2.
use Rattle.std.specs.Prelude.{◌≡◌, [], ◌∷◌, length, slice_index_or, refl, Float}
use Rattle.std.specs.Float.{nan, binary64}
use Rattle.std.specs.Float.Ieee.{of_bits, of_int, add, sub, mul, div, le, eq, ne}
use Rattle.numbers.specs.Constants.{plus_zero, half, one, TAU}
use Rattle.numbers.specs.Order.{abs_of}
use Rattle.surfaces.specs.Rungs.{division, divisions_from, slack_of, near, kept_after, kept_divisions, ended_on, rungs}

-- 3.0
abbrev pub three : Float
three = of_bits binary64 0x4008_0000_0000_0000

pub halves : rungs plus_zero one 2 ≡ plus_zero ∷ half ∷ one ∷ []
unfolding rungs ended_on kept_divisions kept_after near slack_of divisions_from division abs_of add sub mul div le eq ne of_bits of_int
halves = refl

-- 02, N2: of no steps, the upper end after the lone lower one
pub lone_lower : rungs plus_zero three 0 ≡ plus_zero ∷ three ∷ []
unfolding rungs ended_on kept_divisions kept_after near slack_of divisions_from division abs_of add sub mul div le eq ne of_bits of_int
lone_lower = refl

-- 02, N2: of 11 steps round a turn the top division falls short of TAU by one in the last place; the last rung is TAU, in its place and not behind it
pub eleven_short : division plus_zero TAU 11 11 ≡ of_bits binary64 0x4019_21fb_5444_2d17
unfolding division add sub mul div of_bits of_int
eleven_short = refl

pub eleven_end : slice_index_or (rungs plus_zero TAU 11) 11 nan ≡ TAU
unfolding rungs ended_on kept_divisions kept_after near slack_of divisions_from division abs_of add sub mul div le eq ne of_bits of_int
eleven_end = refl

pub eleven_many : length (rungs plus_zero TAU 11) ≡ 12
unfolding rungs ended_on kept_divisions kept_after near slack_of divisions_from division abs_of add sub mul div le eq ne of_bits of_int
eleven_many = refl

pub no_width : rungs three three 4 ≡ three ∷ []
unfolding rungs ended_on kept_divisions kept_after near slack_of divisions_from division abs_of add sub mul div le eq ne of_bits of_int
no_width = refl

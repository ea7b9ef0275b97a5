-- The reals that the definitions name, by their bits.
use Rattle.std.specs.Prelude.{from_bits, Float}
use Rattle.std.specs.Float.{binary64}

abbrev pub plus_zero : Float
plus_zero = from_bits binary64 0

abbrev pub half : Float
half = from_bits binary64 0x3fe0_0000_0000_0000

abbrev pub one : Float
one = from_bits binary64 0x3ff0_0000_0000_0000

-- the tolerances of the papers and of the Rust: each is the double nearest to the number that its name says
abbrev pub 10^-3 : Float
10^-3 = from_bits binary64 0x3f50_624d_d2f1_a9fc

abbrev pub 10^-6 : Float
10^-6 = from_bits binary64 0x3eb0_c6f7_a0b5_ed8d

abbrev pub 10^-9 : Float
10^-9 = from_bits binary64 0x3e11_2e0b_e826_d695

abbrev pub 10^-12 : Float
10^-12 = from_bits binary64 0x3d71_9799_812d_ea11

abbrev pub thousand : Float
thousand = from_bits binary64 0x408f_4000_0000_0000

-- 01, item 1: H is FRAC_PI_2
abbrev pub H : Float
H = from_bits binary64 0x3ff9_21fb_5444_2d18

-- 01, item 2: PI is twice H
abbrev pub PI : Float
PI = from_bits binary64 0x4009_21fb_5444_2d18

-- twice PI, the period of an angle
abbrev pub TAU : Float
TAU = from_bits binary64 0x4019_21fb_5444_2d18

-- 2 ^ -511, the root of the least normal real
abbrev pub shortest : Float
shortest = from_bits binary64 0x2000_0000_0000_0000

-- The bounds; 01, "Values to hold": the triangle on a plane, its result, and refusals of records that are like it. The prover computes each of them.
use Rattle.std.specs.Prelude.{◌≡◌, refl, Bool, true, false, not, ◌&&◌, List, [], ◌∷◌, ◌++◌, ℕ, ◌+◌, ◌-◌, length, set, take, Float}
use Rattle.std.specs.Float.{binary64}
use Rattle.std.specs.Float.Ieee.{round, of_bits, to_bits, odd, of_fields, le, lt, eq, neg}
use Rattle.records.specs.Bytes.{number, number_at, real_at, uv_at, xyz_at, row_at, bytes, real, uv, xyz, row}
use Rattle.lists.specs.Elements.{sum}
use Rattle.records.specs.Face.{start}
use Rattle.records.specs.Limits.{version1, 10^9, 10^6, 10^3, 64·0, 1·5, 0·0, plane, cylinder, cone, sphere, torus, holds, head_range, radius, second, uv_range, u_range, v_range, range}
use Rattle.numbers.specs.Constants.{10^-3, 10^-6}
use Rattle.records.specs.Refusals.{Verdict, passes, refuses, Condition, conditions, verdict, first_from, too_few_lent, wrong_byte, wrong_header, too_many_loops, ends_in_counts, too_few_points, too_many_points, wrong_length, bad_real, first_bad_real}
use Rattle.records.specs.Result.{Result, encode, decode, counts_in, corners_in}
use Rattle.records.specs.Call.{judge, output}

-- ---- the bounds of `Limits`: each is the double nearest to its number, here a quotient of whole numbers

pub record Bounds : Type 0 where
  pub is_10^9 : round binary64 false 1000000000 1 ≡ 10^9
  pub is_10^6 : round binary64 false 1000000 1 ≡ 10^6
  pub is_10^3 : round binary64 false 1000 1 ≡ 10^3
  pub is_64·0 : round binary64 false 64 1 ≡ 64·0
  pub is_1·5 : round binary64 false 3 2 ≡ 1·5
  pub is_10^-3 : round binary64 false 1 1000 ≡ 10^-3
  pub is_10^-6 : round binary64 false 1 1000000 ≡ 10^-6
  pub is_0·0 : round binary64 false 0 1 ≡ 0·0

pub bounds : Bounds
unfolding round of_bits of_fields odd
bounds = record {
  is_10^9 = refl;
  is_10^6 = refl;
  is_10^3 = refl;
  is_64·0 = refl;
  is_1·5 = refl;
  is_10^-3 = refl;
  is_10^-6 = refl;
  is_0·0 = refl;
}

-- ---- the triangle

abbrev 1·0 : Float
1·0 = of_bits binary64 0x3ff0_0000_0000_0000

abbrev 3·0 : Float
3·0 = of_bits binary64 0x4008_0000_0000_0000

abbrev 4·0 : Float
4·0 = of_bits binary64 0x4010_0000_0000_0000

abbrev 6·0 : Float
6·0 = of_bits binary64 0x4018_0000_0000_0000

-- "Corners (0,0), (4,0), (0,3)", "that triangle on a plane, positions (0,0,0), (4,0,0), (0,3,0)": version 1, plane, one loop, same sense, one segment
abbrev pub triangle : List ℕ
triangle =
    (1 ∷ 0 ∷ 1 ∷ 1 ∷ 1 ∷ 3 ∷ 0 ∷ [])
    ++ row real (
    0·0 ∷ 0·0 ∷ 0·0 ∷ 0·0 ∷ 0·0 ∷ 1·0 ∷ 1·0 ∷ 0·0 ∷ 0·0 ∷  -- origin, axis, reference direction
    0·0 ∷ 0·0 ∷ 10^-6 ∷ 10^-3 ∷  -- radius, second size, sag, angle
    0·0 ∷ 0·0 ∷ 4·0 ∷ 0·0 ∷ 0·0 ∷ 3·0 ∷  -- (u, v)
    0·0 ∷ 0·0 ∷ 0·0 ∷ 4·0 ∷ 0·0 ∷ 0·0 ∷ 0·0 ∷ 3·0 ∷ 0·0 ∷ [])  -- (x, y, z)

abbrev says : ℕ → List ℕ → Verdict
says lent s = verdict (conditions version1 lent) s

-- the header of a plane with two loops of 300 points, and no more
abbrev twice300 : List ℕ
twice300 = 1 ∷ 0 ∷ 2 ∷ 1 ∷ 1 ∷ 44 ∷ 1 ∷ 44 ∷ 1 ∷ []

pub record Refused : Type 0 where
  pub triangle_long : length triangle ≡ 231
  pub triangle_passes : says 61614 triangle ≡ passes
  pub fewer_lent : says 61613 triangle ≡ refuses 1 61614
  pub empty : says 61614 [] ≡ refuses 2 0
  pub four_bytes : says 61614 (take 4 triangle) ≡ refuses 2 4
  pub version_2 : says 61614 (set triangle 0 2) ≡ refuses 2 0
  pub kind_5 : says 61614 (set triangle 1 5) ≡ refuses 2 1
  pub sense_2 : says 61614 (set triangle 3 2) ≡ refuses 2 3
  pub segments_0 : says 61614 (set triangle 4 0) ≡ refuses 2 4
  pub segments_65 : says 61614 (set triangle 4 65) ≡ refuses 2 4
  -- "the first wrong byte"
  pub two_wrong_bytes : says 61614 (set (set triangle 3 2) 4 0) ≡ refuses 2 3
  pub loops_17 : says 61614 (set triangle 2 17) ≡ refuses 3 17
  -- 16 loops pass: then the record ends inside its counts
  pub loops_16 : says 61614 (set (take 5 triangle) 2 16) ≡ refuses 6 37
  pub in_counts : says 61614 (take 6 triangle) ≡ refuses 6 7
  pub two_points : says 61614 (set triangle 5 2) ≡ refuses 4 0
  -- "512 points pass, 513 refuse": with 512 the record is too short, 5 + 2 + 8 (13 + 5 * 512) bytes being needed
  pub points_512 : says 61614 (set (set triangle 5 0) 6 2) ≡ refuses 6 20591
  pub points_513 : says 61614 (set (set triangle 5 1) 6 2) ≡ refuses 5 0
  pub one_short : says 61614 (take 230 triangle) ≡ refuses 6 231
  pub one_long : says 61614 (triangle ++ (0 ∷ [])) ≡ refuses 6 231
  -- real 3 a NaN, and minus infinity; a plane of radius 2; the last coordinate over 10^9
  pub no_number : says 61614 (set (set triangle 38 127) 37 248) ≡ refuses 7 3
  pub infinite : says 61614 (set (set triangle 38 255) 37 240) ≡ refuses 7 3
  pub plane_radius : says 61614 (set triangle 86 64) ≡ refuses 7 9
  pub far_out : says 61614 (set triangle 230 66) ≡ refuses 7 27
  -- "first real": a plane of radius 2 whose axis is too long
  pub two_bad_reals : says 61614 (set (set triangle 86 64) 38 127) ≡ refuses 7 3
  -- a plane of radius -0.0: "Limits are included", and compared as numbers
  pub minus_zero : says 61614 (set triangle 86 128) ≡ passes
  -- two loops of 300 points, the second of which passes 512
  pub running_total : says 61614 twice300 ≡ refuses 5 1
  -- "Checks run in that order, except that the two halves of 6 stand before 4 and after 5.": of two that hold, the earlier
  pub 1_before_2 : says 61613 [] ≡ refuses 1 61614
  pub 2_before_3 : says 61614 (set (set triangle 0 2) 2 17) ≡ refuses 2 0
  pub 3_before_6 : says 61614 (set (take 5 triangle) 2 17) ≡ refuses 3 17
  pub 6_before_4 : says 61614 (take 5 triangle) ≡ refuses 6 7
  pub 4_before_5 : says 61614 (set (set (set twice300 6 3) 7 2) 8 0) ≡ refuses 4 1
  pub 6_before_7 : says 61614 (set (set triangle 38 127) 37 248 ++ (0 ∷ [])) ≡ refuses 6 231

pub refused_values : Refused
unfolding verdict too_few_lent wrong_byte wrong_header too_many_loops ends_in_counts too_few_points too_many_points wrong_length bad_real first_bad_real first_from number number_at real_at start bytes real row holds head_range radius second uv_range u_range v_range range of_bits of_fields odd to_bits le lt eq neg
refused_values = record {
  triangle_long = refl;
  triangle_passes = refl;
  fewer_lent = refl;
  empty = refl;
  four_bytes = refl;
  version_2 = refl;
  kind_5 = refl;
  sense_2 = refl;
  segments_0 = refl;
  segments_65 = refl;
  two_wrong_bytes = refl;
  loops_17 = refl;
  loops_16 = refl;
  in_counts = refl;
  two_points = refl;
  points_512 = refl;
  points_513 = refl;
  one_short = refl;
  one_long = refl;
  no_number = refl;
  infinite = refl;
  plane_radius = refl;
  far_out = refl;
  two_bad_reals = refl;
  minus_zero = refl;
  running_total = refl;
  1_before_2 = refl;
  2_before_3 = refl;
  3_before_6 = refl;
  6_before_4 = refl;
  4_before_5 = refl;
  6_before_7 = refl;
}

-- ---- the ranges of 7: each limit passes, and the real next to it does not

abbrev above : Float → Float
above b = of_bits binary64 (to_bits binary64 b + 1)

abbrev under : Float → Float
under b = of_bits binary64 (to_bits binary64 b - 1)

-- of a face with three points: u and v of its first point are the reals 13 and 14, its first coordinate is the real 19
abbrev passing : ℕ → ℕ → Float → Bool
passing kind i x = holds (range kind 3 i) x

abbrev most : ℕ → ℕ → Float → Bool
most kind i b = passing kind i b && not (passing kind i (above b))

abbrev least : ℕ → ℕ → Float → Bool
least kind i b = passing kind i b && not (passing kind i (under b))

-- no real below 0 but -0
abbrev least_zero : ℕ → ℕ → Bool
least_zero kind i = passing kind i (neg 0·0) && not (passing kind i (neg (above 0·0)))

abbrev size : ℕ → ℕ → Float → Bool
size kind i b = most kind i b && (passing kind i (neg b) && not (passing kind i (neg (above b))))

pub record Ranges : Type 0 where
  pub origin : size cylinder 0 10^9 ≡ true
  pub reference : size cylinder 8 10^9 ≡ true
  pub radius_least : (least cylinder 9 10^-6 && (least sphere 9 10^-6 && least torus 9 10^-6)) ≡ true
  pub radius_most : (most cylinder 9 10^6 && (most sphere 9 10^6 && most torus 9 10^6)) ≡ true
  pub radius_of_cone : (least_zero cone 9 && most cone 9 10^6) ≡ true
  pub radius_of_plane : (least_zero plane 9 && most plane 9 0·0) ≡ true
  pub half_angle : size cone 10 1·5 ≡ true
  pub minor_radius : (least torus 10 10^-6 && most torus 10 10^6) ≡ true
  pub no_second_size : (least_zero plane 10 && (most plane 10 0·0 && (most cylinder 10 0·0 && most sphere 10 0·0))) ≡ true
  pub sag : (least plane 11 10^-6 && most plane 11 10^3) ≡ true
  pub angle : (least plane 12 10^-3 && most plane 12 1·5) ≡ true
  pub u_of_plane : size plane 13 10^6 ≡ true
  pub u_of_others : (size cylinder 13 64·0 && (size cone 13 64·0 && (size sphere 13 64·0 && size torus 13 64·0))) ≡ true
  pub v_of_three : (size plane 14 10^6 && (size cylinder 14 10^6 && size cone 14 10^6)) ≡ true
  pub v_of_others : (size sphere 14 64·0 && size torus 14 64·0) ≡ true
  pub position : size sphere 19 10^9 ≡ true

pub ranges : Ranges
unfolding holds head_range radius second uv_range u_range v_range range of_bits of_fields odd to_bits le lt eq neg
ranges = record {
  origin = refl;
  reference = refl;
  radius_least = refl;
  radius_most = refl;
  radius_of_cone = refl;
  radius_of_plane = refl;
  half_angle = refl;
  minor_radius = refl;
  no_second_size = refl;
  sag = refl;
  angle = refl;
  u_of_plane = refl;
  u_of_others = refl;
  v_of_three = refl;
  v_of_others = refl;
  position = refl;
}

-- ---- its result

abbrev triangle_result : Result
triangle_result = record {
  path = 0;
  counts = 3 ∷ [];
  areas = 6·0 ∷ [];
  parameters = record { u = 0·0; v = 0·0 } ∷ record { u = 4·0; v = 0·0 } ∷ record { u = 0·0; v = 3·0 } ∷ [];
  positions = record { x = 0·0; y = 0·0; z = 0·0 } ∷ record { x = 4·0; y = 0·0; z = 0·0 } ∷ record { x = 0·0; y = 3·0; z = 0·0 } ∷ [];
}

-- "134 out: `01 00 00 00 03 00`, 6.0, the three pairs, the three positions"
abbrev pub written : List ℕ
written =
    1 ∷ 0 ∷ 0 ∷ 0 ∷ 3 ∷ 0 ∷
    0 ∷ 0 ∷ 0 ∷ 0 ∷ 0 ∷ 0 ∷ 24 ∷ 64 ∷  -- 6
    0 ∷ 0 ∷ 0 ∷ 0 ∷ 0 ∷ 0 ∷ 0 ∷ 0 ∷  -- 0
    0 ∷ 0 ∷ 0 ∷ 0 ∷ 0 ∷ 0 ∷ 0 ∷ 0 ∷  -- 0
    0 ∷ 0 ∷ 0 ∷ 0 ∷ 0 ∷ 0 ∷ 16 ∷ 64 ∷  -- 4
    0 ∷ 0 ∷ 0 ∷ 0 ∷ 0 ∷ 0 ∷ 0 ∷ 0 ∷  -- 0
    0 ∷ 0 ∷ 0 ∷ 0 ∷ 0 ∷ 0 ∷ 0 ∷ 0 ∷  -- 0
    0 ∷ 0 ∷ 0 ∷ 0 ∷ 0 ∷ 0 ∷ 8 ∷ 64 ∷  -- 3
    0 ∷ 0 ∷ 0 ∷ 0 ∷ 0 ∷ 0 ∷ 0 ∷ 0 ∷  -- 0
    0 ∷ 0 ∷ 0 ∷ 0 ∷ 0 ∷ 0 ∷ 0 ∷ 0 ∷  -- 0
    0 ∷ 0 ∷ 0 ∷ 0 ∷ 0 ∷ 0 ∷ 0 ∷ 0 ∷  -- 0
    0 ∷ 0 ∷ 0 ∷ 0 ∷ 0 ∷ 0 ∷ 16 ∷ 64 ∷  -- 4
    0 ∷ 0 ∷ 0 ∷ 0 ∷ 0 ∷ 0 ∷ 0 ∷ 0 ∷  -- 0
    0 ∷ 0 ∷ 0 ∷ 0 ∷ 0 ∷ 0 ∷ 0 ∷ 0 ∷  -- 0
    0 ∷ 0 ∷ 0 ∷ 0 ∷ 0 ∷ 0 ∷ 0 ∷ 0 ∷  -- 0
    0 ∷ 0 ∷ 0 ∷ 0 ∷ 0 ∷ 0 ∷ 8 ∷ 64 ∷  -- 3
    0 ∷ 0 ∷ 0 ∷ 0 ∷ 0 ∷ 0 ∷ 0 ∷ 0 ∷ []  -- 0

pub record Records : Type 0 where
  pub triangle_written : encode triangle_result ≡ written
  pub triangle_read : decode written ≡ triangle_result
  pub written_long : length written ≡ 134
  -- 01, "The result record": "Empty input gives `00 02 00 00 00 00`."
  pub empty_output : (later : List Condition) (result : List ℕ → List ℕ) → output (judge version1 later result 61614 []) ≡ 0 ∷ 2 ∷ 0 ∷ 0 ∷ 0 ∷ 0 ∷ []

pub record-values : Records
unfolding encode decode counts_in corners_in row row_at sum number number_at bytes real real_at uv uv_at xyz xyz_at of_bits of_fields odd to_bits judge verdict too_few_lent wrong_header
record-values = record { triangle_written = refl; triangle_read = refl; written_long = refl; empty_output = λ later result. refl }

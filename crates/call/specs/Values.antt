-- Values of the whole call, computed: 01, "Values to hold", the triangle and the longest strip; a small band, with and without a hole; a closed face
-- with a hole; a whole sphere; a record for each of the refusals 8 to 12.
use Rattle.std.specs.Prelude.{◌≡◌, refl, true, List, [], ◌∷◌, ◌++◌, ℕ, pos, get_or, set, Float}
use Rattle.std.specs.Float.{binary64}
use Rattle.std.specs.Float.Ieee.{of_bits, to_bits, odd, of_fields, le, lt, eq, ne, neg, add, sub, mul, div, of_int, to_signed, to_unsigned}
use Rattle.numbers.specs.Constants.{one, H, PI, TAU, 10^-3}
use Rattle.numbers.specs.Order.{abs_of}
use Rattle.numbers.specs.Position.{same}
use Rattle.numbers.specs.Round.{round_away, floor_of, ceil_of}
use Rattle.numbers.specs.Rounded.{◌⊖◌, count as whole}
use Rattle.numbers.specs.Trig.{sincos_of}
use Rattle.numbers.specs.Frames.{frame_of, polar_of}
use Rattle.numbers.specs.Sqrt.{sqrt_of}
use Rattle.numbers.specs.Vectors.{length_of, direction_of, normalized_or, least_axis, perpendicular_of}
use Rattle.numbers.specs.declared.math.Vec3.{Vec3}
use Rattle.lists.specs.Pieces.{pieces}
use Rattle.surfaces.specs.Domains.{u_period, v_period, domain_of}
use Rattle.surfaces.specs.Points.{raised_of, sphere_of, point_of}
use Rattle.surfaces.specs.Rungs.{division, divisions_from, slack_of as rung_slack, near, kept_after, kept_divisions, ended_on, rungs, inner}
use Rattle.surfaces.specs.Segments.{sag_angle, angle_step_of, segments_of}
use Rattle.surfaces.specs.Steps.{v_steps_of, direction_steps_of}
use Rattle.loops.specs.Area.{area_of, cross_sum, cross_at}
use Rattle.loops.specs.Mean.{mean_of, sum_of}
use Rattle.loops.specs.Repeats.{drop_merging, drop_successive, drop_trailing, kept_from, cut_back}
use Rattle.loops.specs.Rings.{ends_meet, begun, closed as ring_closed, turned}
use Rattle.loops.specs.Span.{least_of, greatest_of, middle_of}
use Rattle.loops.specs.Steps.{net, net_of, count, steps_round, steps_along}
use Rattle.loops.specs.Wrap.{wrap_every, turns_counted}
use Rattle.closed_region.specs.Outer.{outer_of, slack_of, encloses, every, passing, encloses_other, encloses_others, enclosing_one, last_largest, holes_of}
use Rattle.closed_region.specs.Rephase.{shift_of, moved, rephased}
use Rattle.rings.specs.Choices.{least_u, greatest_u, strip_shift, straddles, nearest, first_least, first_from as start_from, serve, begins_backward, stands_at_the_cut}
use Rattle.rings.specs.Starts.{serves, first_serving, start as start_of, align_cuts, slide_to_cut}
use Rattle.tables.specs.Moves.{unless_zero}
use Rattle.rings.specs.Turns.{turned_unless, turned_onto, align_at}
use Rattle.full_domain.specs.Boundary.{steps_of, rungs_of, sides, sides_of, whole_corners, wrap_of, position_of}
use Rattle.bands.specs.Band.{first_is_lower, lift, joined, lower_first, lower_ring, upper_ring, strip_of, outer, holes}
use Rattle.bands.specs.Given.{given_of}
use Rattle.lists.specs.Elements.{only, sum}
use Rattle.bands.specs.Rings.{rising, shifted, laid, onto, on_strip, any_straddles, across_seam, has_strip, reseam, trial, started}
use Rattle.bands.specs.Strip.{ladder, heights, strip}
use Rattle.records.specs.Bytes.{number, number_at, real_at, uv_at, xyz_at, row_at, bytes, real, uv, xyz, row}
use Rattle.records.specs.Call as Call
use Rattle.records.specs.Call.{refused, closed, code, value}
use Rattle.records.specs.Face.{start, counts, parameters, positions, corners_in}
use Rattle.records.specs.Limits.{0·0, 1·5, 10^6, holds, head_range, radius, second, uv_range, u_range, v_range, range}
use Rattle.records.specs.Refusals.{passes, verdict, first_from, too_few_lent, wrong_byte, wrong_header, too_many_loops, ends_in_counts, too_few_points, too_many_points, wrong_length, bad_real, first_bad_real}
use Rattle.records.specs.Result.{encode, decode, counts_in, corners_in as corners_back, result_of, corners_of as together, loop_positions_of}
use Rattle.records.specs.Values.{triangle, written}
use Rattle.tables.specs.Corners.{corners_from}
use Rattle.call.specs.Face.{frame_in, surface_of, surface_in, options_in, sense_in, loops_in, measured_in, wrapping, setting_in, given_in}
use Rattle.call.specs.Later.{wraps_at, open_at, wrapping_of, open_among, one_among, many_among, open_kind, open_ring, one_ring, many_rings, open_surface, strip_points, long_strip}
use Rattle.call.specs.Paths.{outer_number, outer_loop, rephased_hole, closed_loops, loops_from, wrapped_loops, whole_loop, path_in, result_loops, result_in}
use Rattle.call.specs.Judge.{all_conditions, judge}
use Rattle.call.specs.Demands.{outer_positions}

-- ---- parts of records

abbrev pub -1·0 : Float
-1·0 = of_bits binary64 0xbff0_0000_0000_0000

abbrev 0·5085 : Float
0·5085 = of_bits binary64 0x3fe0_45a1_cac0_8312

-- the 13 reals of a cylinder or sphere: origin 0, axis z, reference direction x, radius 1, sag 1, and the angle
abbrev pub head : Float → List Float
head angle = 0·0 ∷ 0·0 ∷ 0·0 ∷ 0·0 ∷ 0·0 ∷ one ∷ one ∷ 0·0 ∷ 0·0 ∷ one ∷ 0·0 ∷ one ∷ angle ∷ []

-- a ring at a height: three points of a turn of u, and the first again; with u rising and with u falling
abbrev pub rising_uv : Float → List Float
rising_uv v = 0·0 ∷ v ∷ H ∷ v ∷ PI ∷ v ∷ TAU ∷ v ∷ []

abbrev pub rising_xyz : Float → List Float
rising_xyz z = one ∷ 0·0 ∷ z ∷ 0·0 ∷ one ∷ z ∷ -1·0 ∷ 0·0 ∷ z ∷ one ∷ 0·0 ∷ z ∷ []

abbrev pub falling_uv : Float → List Float
falling_uv v = TAU ∷ v ∷ PI ∷ v ∷ H ∷ v ∷ 0·0 ∷ v ∷ []

abbrev pub falling_xyz : Float → List Float
falling_xyz z = one ∷ 0·0 ∷ z ∷ -1·0 ∷ 0·0 ∷ z ∷ 0·0 ∷ one ∷ z ∷ one ∷ 0·0 ∷ z ∷ []

-- a ring of two points of a turn, and the first again
abbrev pub short_uv : Float → List Float
short_uv v = 0·0 ∷ v ∷ PI ∷ v ∷ TAU ∷ v ∷ []

abbrev pub short_xyz : Float → List Float
short_xyz z = one ∷ 0·0 ∷ z ∷ -1·0 ∷ 0·0 ∷ z ∷ one ∷ 0·0 ∷ z ∷ []

abbrev origin : Vec3
origin = record { x = 0·0; y = 0·0; z = 0·0 }

-- ---- records

-- a band: a cylinder between v 0 and v 1, one segment; the upper loop runs backward
abbrev pub band : List ℕ
band = (1 ∷ 1 ∷ 2 ∷ 1 ∷ 1 ∷ 4 ∷ 0 ∷ 4 ∷ 0 ∷ []) ++ row real (head 1·5 ++ (rising_uv 0·0 ++ (falling_uv one ++ (rising_xyz 0·0 ++ falling_xyz one))))

-- its result: a wrapped face without holes, of eight corners and of area TAU
abbrev pub band_written : List ℕ
band_written = (1 ∷ 1 ∷ 0 ∷ 0 ∷ 8 ∷ 0 ∷ []) ++ row real (TAU ∷ rising_uv 0·0 ++ (falling_uv one ++ (rising_xyz 0·0 ++ falling_xyz one)))

-- a hole that lies a turn too far, and brought back
abbrev hole_uv : List Float
hole_uv = whole 7 ∷ 0·5085 ∷ whole 7 ∷ 0·0 ∷ whole 8 ∷ 0·0 ∷ []

abbrev hole_back : List Float
hole_back = (whole 7 ⊖ TAU) ∷ 0·5085 ∷ (whole 7 ⊖ TAU) ∷ 0·0 ∷ (whole 8 ⊖ TAU) ∷ 0·0 ∷ []

abbrev pub hole_xyz : List Float
hole_xyz = one ∷ one ∷ 0·0 ∷ one ∷ one ∷ one ∷ 0·0 ∷ 0·0 ∷ one ∷ []

-- the same band with that hole, and with its rings the other way and in the other order
abbrev bored : List ℕ
bored =
    (1 ∷ 1 ∷ 3 ∷ 1 ∷ 1 ∷ 4 ∷ 0 ∷ 3 ∷ 0 ∷ 4 ∷ 0 ∷ [])
    ++ row real (head 1·5 ++ (rising_uv one ++ (hole_uv ++ (falling_uv 0·0 ++ (rising_xyz one ++ (hole_xyz ++ falling_xyz 0·0))))))

-- the area of the hole is that of u 7, 7, 8; worked out anew its last digit would be 2
abbrev bored_written : List ℕ
bored_written =
    (1 ∷ 1 ∷ 1 ∷ 0 ∷ 8 ∷ 0 ∷ 3 ∷ 0 ∷ [])
    ++ row real (TAU ∷ of_bits binary64 0x3fd0_45a1_cac0_8310 ∷ rising_uv 0·0 ++ (falling_uv one ++ (hole_back ++ (rising_xyz 0·0 ++ (falling_xyz one ++ hole_xyz)))))

-- a cylinder's patch from u 0 to 3 and v 0 to 1 with the same hole, which stands first in the file
abbrev patch_uv : List Float
patch_uv = 0·0 ∷ 0·0 ∷ whole 3 ∷ 0·0 ∷ whole 3 ∷ one ∷ 0·0 ∷ one ∷ []

abbrev patch_xyz : List Float
patch_xyz = one ∷ 0·0 ∷ 0·0 ∷ -1·0 ∷ 0·0 ∷ 0·0 ∷ -1·0 ∷ 0·0 ∷ one ∷ one ∷ 0·0 ∷ one ∷ []

abbrev patch : List ℕ
patch = (1 ∷ 1 ∷ 2 ∷ 1 ∷ 1 ∷ 3 ∷ 0 ∷ 4 ∷ 0 ∷ []) ++ row real (head 1·5 ++ (hole_uv ++ (patch_uv ++ (hole_xyz ++ patch_xyz))))

-- the outer loop stands first, and the area of the moved hole is worked out anew
abbrev patch_written : List ℕ
patch_written =
    (1 ∷ 0 ∷ 1 ∷ 0 ∷ 4 ∷ 0 ∷ 3 ∷ 0 ∷ [])
    ++ row real (whole 3 ∷ of_bits binary64 0x3fd0_45a1_cac0_8312 ∷ patch_uv ++ (hole_back ++ (patch_xyz ++ hole_xyz)))

-- the triangle with its second corner at u 10^6, the limit of a plane, in the bytes 127 to 134; parameters can be that large
abbrev wide : List ℕ
wide = set (set (set (set triangle 131 128) 132 132) 133 46) 134 65

abbrev wide_written : List ℕ
wide_written =
    (1 ∷ 0 ∷ 0 ∷ 0 ∷ 3 ∷ 0 ∷ [])
    ++ row real (whole 1500000 ∷ 0·0 ∷ 0·0 ∷ 10^6 ∷ 0·0 ∷ 0·0 ∷ whole 3 ∷ 0·0 ∷ 0·0 ∷ 0·0 ∷ whole 4 ∷ 0·0 ∷ 0·0 ∷ 0·0 ∷ whole 3 ∷ 0·0 ∷ [])

-- three rings in one place
abbrev three_rings : List ℕ
three_rings =
    (1 ∷ 1 ∷ 3 ∷ 1 ∷ 1 ∷ 3 ∷ 0 ∷ 3 ∷ 0 ∷ 3 ∷ 0 ∷ [])
    ++ row real (head 1·5 ++ (short_uv 0·0 ++ (short_uv 0·0 ++ (short_uv 0·0 ++ (short_xyz 0·0 ++ (short_xyz 0·0 ++ short_xyz 0·0))))))

-- a cylinder and a sphere without loops
abbrev bare_cylinder : List ℕ
bare_cylinder = (1 ∷ 1 ∷ 0 ∷ 1 ∷ 1 ∷ []) ++ row real (head 1·5)

abbrev bare_sphere : List ℕ
bare_sphere = set bare_cylinder 1 3

-- two rings on a sphere, at v 0 and 0.5085, at most 0.001 a step: 508 inner rungs, and 6 or 7 points in the rings
abbrev strip1024 : List ℕ
strip1024 = (1 ∷ 3 ∷ 2 ∷ 1 ∷ 1 ∷ 3 ∷ 0 ∷ 3 ∷ 0 ∷ []) ++ row real (head 10^-3 ++ (short_uv 0·0 ++ (short_uv 0·5085 ++ (short_xyz 0·0 ++ short_xyz one))))

abbrev strip1025 : List ℕ
strip1025 = (1 ∷ 3 ∷ 2 ∷ 1 ∷ 1 ∷ 4 ∷ 0 ∷ 3 ∷ 0 ∷ []) ++ row real (head 10^-3 ++ (rising_uv 0·0 ++ (short_uv 0·5085 ++ (rising_xyz 0·0 ++ short_xyz one))))

-- ---- what is answered

pub record Answers : Type 0 where
  -- "231 bytes in; 134 out"
  pub triangle_closed : judge 61614 triangle ≡ closed written
  pub wide_closed : judge 61614 wide ≡ closed wide_written
  pub band_closed : judge 61614 band ≡ closed band_written
  pub patch_closed : judge 61614 patch ≡ closed patch_written
  pub bored_closed : judge 61614 bored ≡ closed bored_written
  -- The last position of loop 0 stands in the bytes 313 to 336, that of loop 1 in 409 to 432. With a y of -0.0 the last is still the first, as numbers; with
  -- an x of -1.0 it is not.
  pub zero_as_number : judge 61614 (set band 328 128) ≡ closed band_written
  pub loop_0_open : judge 61614 (set band 320 191) ≡ refused 8 0
  pub loop_1_open : judge 61614 (set band 416 191) ≡ refused 8 1
  -- "first wrapping loop"
  pub both_open : judge 61614 (set (set band 320 191) 416 191) ≡ refused 8 0
  -- the last u of a loop stands in the bytes 161 to 168 and 225 to 232: made near 0, and 2.0, so that the other loop alone wraps
  pub loop_1_alone : judge 61614 (set band 168 0) ≡ refused 9 1
  pub loop_0_alone : judge 61614 (set band 232 64) ≡ refused 9 0
  -- "Checks run in that order": of two that hold, the earlier. Byte 16 makes the first real of the band too large; the last position of loop 0 of the
  -- other two records stands in the bytes 307 and 297 on.
  pub 7_before_8 : judge 61614 (set (set band 320 191) 16 127) ≡ refused 7 0
  pub 8_before_9 : judge 61614 (set (set band 232 64) 320 191) ≡ refused 8 0
  pub 8_before_10 : judge 61614 (set three_rings 314 191) ≡ refused 8 0
  pub 8_before_12 : judge 61614 (set strip1025 304 191) ≡ refused 8 0
  pub three_wrap : judge 61614 three_rings ≡ refused 10 3
  -- a plane has the radius 0, which stands in the bytes 77 to 84
  pub plane_bare : judge 61614 (set (set (set bare_cylinder 1 0) 84 0) 83 0) ≡ refused 11 0
  pub cylinder_bare : judge 61614 bare_cylinder ≡ refused 11 0
  pub cone_bare : judge 61614 (set bare_cylinder 1 2) ≡ refused 11 0
  -- five steps round the sphere and three up it: 16 corners, 4 + 10 + 40 * 16 bytes
  pub sphere_closed : code (judge 61614 bare_sphere) ≡ 0
  pub sphere_long : value (judge 61614 bare_sphere) ≡ 654
  -- a torus has a minor radius too, here 1, in the bytes 85 to 92
  pub torus_closed : code (judge 61614 (set (set (set bare_cylinder 1 4) 92 63) 91 240)) ≡ 0
  -- "1,024 strip points pass, 1,025 refuse"
  pub strip_passes : verdict (all_conditions 61614) strip1024 ≡ passes
  pub strip_refused : judge 61614 strip1025 ≡ refused 12 1025

pub answers : Answers
unfolding Call.judge verdict too_few_lent wrong_byte wrong_header too_many_loops ends_in_counts too_few_points too_many_points wrong_length bad_real first_bad_real first_from number number_at real_at start bytes real row holds head_range radius second uv_range u_range v_range range of_bits of_fields odd to_bits le lt eq neg surface_of surface_in corners_from corners_in loops_in measured_in wrapping wraps_at open_at wrapping_of open_among one_among many_among open_kind open_ring one_ring many_rings open_surface long_strip outer_number outer_loop closed_loops path_in result_loops result_in encode result_of together uv xyz uv_at xyz_at row_at sum counts parameters positions pieces only u_period v_period outer_of slack_of encloses every passing encloses_other encloses_others enclosing_one last_largest holes_of rephased_hole rephased moved shift_of area_of cross_sum cross_at least_of greatest_of middle_of abs_of add sub mul div of_int wrap_every turns_counted to_signed round_away ends_meet same strip_points setting_in given_in options_in sense_in given_of strip_of strip heights ladder lower_ring upper_ring lower_first first_is_lower lift joined laid rising shifted least_u greatest_u reseam has_strip across_seam on_strip any_straddles started start_of first_serving start_from serves serve begins_backward stands_at_the_cut trial turned_unless align_cuts align_at turned_onto nearest first_least slide_to_cut unless_zero turned begun ring_closed mean_of sum_of onto strip_shift straddles floor_of ne inner rungs ended_on kept_divisions kept_after near rung_slack divisions_from division v_steps_of outer holes drop_merging drop_successive drop_trailing kept_from cut_back loops_from wrapped_loops segments_of angle_step_of sag_angle ceil_of to_unsigned whole_loop whole_corners sides_of sides rungs_of steps_of direction_steps_of domain_of sincos_of
answers = record {
  triangle_closed = refl;
  wide_closed = refl;
  band_closed = refl;
  patch_closed = refl;
  bored_closed = refl;
  zero_as_number = refl;
  loop_0_open = refl;
  loop_1_open = refl;
  both_open = refl;
  loop_1_alone = refl;
  loop_0_alone = refl;
  7_before_8 = refl;
  8_before_9 = refl;
  8_before_10 = refl;
  8_before_12 = refl;
  three_wrap = refl;
  plane_bare = refl;
  cylinder_bare = refl;
  cone_bare = refl;
  sphere_closed = refl;
  sphere_long = refl;
  torus_closed = refl;
  strip_passes = refl;
  strip_refused = refl;
}

-- Round the band, as it is read from those bytes, one step more leads from the first position of the lower ring to its second than back.
pub band-steps : net same (record { x = one; y = 0·0; z = 0·0 }) (record { x = 0·0; y = one; z = 0·0 }) (outer_positions band_written) ≡ pos 1
unfolding net net_of count steps_round steps_along same loop_positions_of pieces decode counts_in corners_back row row_at sum number number_at bytes real real_at uv_at xyz_at of_bits of_fields odd to_bits eq
band-steps = refl

-- the sphere's first corner is the pole below, to which the axis of the record points away
pub sphere-pole : same (get_or (result_in bare_sphere).positions 0 origin) (record { x = 0·0; y = 0·0; z = -1·0 }) ≡ true
unfolding result_in result_of result_loops together whole_loop whole_corners sides_of sides rungs_of steps_of direction_steps_of segments_of angle_step_of sag_angle rungs ended_on kept_divisions kept_after near rung_slack divisions_from division domain_of u_period v_period position_of wrap_of point_of sphere_of raised_of polar_of frame_in frame_of surface_in surface_of options_in normalized_or direction_of length_of sqrt_of perpendicular_of least_axis sincos_of real_at number number_at bytes real row same abs_of ceil_of to_unsigned add sub mul div neg lt le eq of_bits of_fields odd to_bits of_int ne
sphere-pole = refl

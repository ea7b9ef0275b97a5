-- Bands from bytes to bytes, computed by the prover: walls that have inner rungs, a bore across the seam, and the rings of a torus exchanged and lifted. They are
-- no part of the values of `call` because each edit of that crate has them all computed again.
use Rattle.std.specs.Prelude.{ℕ, ◌≡◌, refl, List, [], ◌∷◌, ◌++◌, ℤ, pos, negsuc, set, get_or, Float}
use Rattle.std.specs.Float.{binary64}
use Rattle.std.specs.Float.Ieee.{of_bits, to_bits, odd, of_fields, le, lt, eq, ne, neg, add, sub, mul, div, of_int, to_signed, to_unsigned}
use Rattle.numbers.specs.Constants.{one, H, PI, TAU}
use Rattle.numbers.specs.Order.{abs_of}
use Rattle.numbers.specs.Position.{same}
use Rattle.numbers.specs.declared.math.Vec3.{Vec3}
use Rattle.numbers.specs.Round.{round_away, floor_of, ceil_of}
use Rattle.numbers.specs.Rounded.{◌⊕◌, ◌⊖◌, ◌⊗◌, ◌⊘◌, count as whole}
use Rattle.numbers.specs.Trig.{sincos_of}
use Rattle.numbers.specs.Frames.{frame_of, polar_of}
use Rattle.numbers.specs.Sqrt.{sqrt_of}
use Rattle.numbers.specs.Vectors.{length_of, direction_of, normalized_or, least_axis, perpendicular_of}
use Rattle.lists.specs.Pieces.{pieces}
use Rattle.surfaces.specs.Domains.{u_period, v_period}
use Rattle.surfaces.specs.Points.{raised_of, torus_of, point_of}
use Rattle.surfaces.specs.Rungs.{division, divisions_from, slack_of as rung_slack, near, kept_after, kept_divisions, ended_on, rungs, inner}
use Rattle.surfaces.specs.Segments.{sag_angle, angle_step_of, segments_of}
use Rattle.surfaces.specs.Steps.{v_steps_of}
use Rattle.loops.specs.Area.{area_of, cross_sum, cross_at}
use Rattle.loops.specs.Mean.{mean_of, sum_of}
use Rattle.loops.specs.Repeats.{drop_merging, drop_successive, drop_trailing, kept_from, cut_back}
use Rattle.loops.specs.Rings.{ends_meet, begun, closed as ring_closed, turned}
use Rattle.loops.specs.Span.{least_of, greatest_of}
use Rattle.loops.specs.Steps.{net, net_of, count, steps_round, steps_along}
use Rattle.loops.specs.Wrap.{wrap_every, turns_counted}
use Rattle.rings.specs.Choices.{least_u, greatest_u, first_past, first_open_past, strip_shift, straddles, nearest, first_least, first_from as start_from, serve, begins_backward, stands_at_the_cut}
use Rattle.rings.specs.Starts.{serves, first_serving, start as start_of, align_cuts, slide_to_cut}
use Rattle.tables.specs.Moves.{unless_zero}
use Rattle.rings.specs.Turns.{turned_unless, turned_onto, align_at}
use Rattle.seam.specs.Gap.{insert, sorted, passed, gap_along, widest_gap, usable}
use Rattle.bands.specs.Band.{first_is_lower, lift, joined, lower_first, lower_ring, upper_ring, strip_of, outer, holes}
use Rattle.bands.specs.Given.{given_of}
use Rattle.lists.specs.Elements.{only, sum}
use Rattle.bands.specs.Rings.{rising, shifted, laid, onto, on_strip, any_straddles, across_seam, gap_of, recut, cut_anew, has_strip, has_gap, reseam, trial, started}
use Rattle.bands.specs.Strip.{ladder, heights, strip}
use Rattle.records.specs.Bytes.{number, number_at, real_at, uv_at, xyz_at, row_at, bytes, real, uv, xyz, row}
use Rattle.records.specs.Call as Call
use Rattle.records.specs.Call.{closed}
use Rattle.records.specs.Face.{start, counts, parameters, positions, loop_positions, corners_in}
use Rattle.records.specs.Limits.{0·0, 1·5, holds, head_range, radius, second, uv_range, u_range, v_range, range}
use Rattle.records.specs.Refusals.{verdict, first_from, too_few_lent, wrong_byte, wrong_header, too_many_loops, ends_in_counts, too_few_points, too_many_points, wrong_length, bad_real, first_bad_real}
use Rattle.records.specs.Result.{encode, decode, counts_in, corners_in as corners_back, loop_positions_of, result_of, corners_of as together}
use Rattle.tables.specs.Corners.{corners_from}
use Rattle.call.specs.Face.{frame_in, surface_of, surface_in, options_in, sense_in, loops_in, measured_in, wrapping, setting_in, given_in}
use Rattle.call.specs.Later.{wraps_at, open_at, wrapping_of, open_among, one_among, many_among, open_kind, open_ring, one_ring, many_rings, open_surface, strip_points, long_strip}
use Rattle.call.specs.Paths.{loops_from, wrapped_loops, path_in, result_loops, result_in}
use Rattle.call.specs.Judge.{judge}
use Rattle.call.specs.Demands.{outer_positions}
use Rattle.call.specs.Values.{head, -1·0, band, rising_uv, rising_xyz, falling_uv, falling_xyz, short_uv, short_xyz, hole_xyz}

-- ---- a cylinder between v 0 and v 1 with at least three segments: two inner rungs, and a wall point (1, 0, v) at each

abbrev ⅓ : Float
⅓ = of_bits binary64 0x3fd5_5555_5555_5555

abbrev ⅔ : Float
⅔ = of_bits binary64 0x3fe5_5555_5555_5555

abbrev walled : List ℕ
walled = set band 4 3

-- the lower ring, the wall upward at u TAU, the upper ring backward, the wall downward at u 0
abbrev walled_written : List ℕ
walled_written =
    (1 ∷ 1 ∷ 0 ∷ 0 ∷ 12 ∷ 0 ∷ [])
    ++ row real (TAU ∷ rising_uv 0·0 ++ (TAU ∷ ⅓ ∷ TAU ∷ ⅔ ∷ falling_uv one ++ (0·0 ∷ ⅔ ∷ 0·0 ∷ ⅓ ∷
    rising_xyz 0·0 ++ (one ∷ 0·0 ∷ ⅓ ∷ one ∷ 0·0 ∷ ⅔ ∷ falling_xyz one ++ (one ∷ 0·0 ∷ ⅔ ∷ one ∷ 0·0 ∷ ⅓ ∷ [])))))

-- ---- 02, N4: a cross-drilled bush, the band of `call` with a bore across the place where both rings begin

-- The bore is from u -1 to 1. Brought onto the strip it is from 5.28 to 7.28, so that `reseam` finds the gap from 0 to 5.28 and cuts at 2.64: the first open points
-- past that are those at PI.
abbrev bush : List ℕ
bush =
    (1 ∷ 1 ∷ 3 ∷ 1 ∷ 1 ∷ 4 ∷ 0 ∷ 4 ∷ 0 ∷ 3 ∷ 0 ∷ [])
    ++ row real (head 1·5 ++ (rising_uv 0·0 ++ (falling_uv one ++ (-1·0 ∷ 0·0 ∷ one ∷ 0·0 ∷ one ∷ one ∷ rising_xyz 0·0 ++ (falling_xyz one ++ hole_xyz)))))

-- the rings' positions from there on, with u rising and with u falling
abbrev turned_xyz : Float → List Float
turned_xyz z = -1·0 ∷ 0·0 ∷ z ∷ one ∷ 0·0 ∷ z ∷ 0·0 ∷ one ∷ z ∷ -1·0 ∷ 0·0 ∷ z ∷ []

abbrev turned_back_xyz : Float → List Float
turned_back_xyz z = -1·0 ∷ 0·0 ∷ z ∷ 0·0 ∷ one ∷ z ∷ one ∷ 0·0 ∷ z ∷ -1·0 ∷ 0·0 ∷ z ∷ []

-- Both rings cut anew: eight corners and an area of TAU, as without the bore. With the rings' repeated last points turned inside, the lower one's corner at H is lost.
abbrev bush_written : List ℕ
bush_written =
    let H' = H ⊕ TAU in
    let PI' = PI ⊕ TAU in
    let bore = (-1·0 ⊕ TAU) ∷ 0·0 ∷ (one ⊕ TAU) ∷ 0·0 ∷ (one ⊕ TAU) ∷ one ∷ [] in
    (1 ∷ 1 ∷ 1 ∷ 0 ∷ 8 ∷ 0 ∷ 3 ∷ 0 ∷ [])
    ++ row real (TAU ∷ one ∷ PI ∷ 0·0 ∷ TAU ∷ 0·0 ∷ H' ∷ 0·0 ∷ PI' ∷ 0·0 ∷ PI' ∷ one ∷ H' ∷ one ∷ TAU ∷ one ∷ PI ∷ one ∷ bore
    ++ (turned_xyz 0·0 ++ (turned_back_xyz one ++ hole_xyz)))

-- the step counts round a list of positions, of each step of the lower ring and of the upper one, u rising
abbrev place : Float → Float → Float → Vec3
place x y z = record { x = x; y = y; z = z }

abbrev ring_counts : Float → List Vec3 → List ℤ
ring_counts z xs =
    let a = place one 0·0 z in
    let b = place 0·0 one z in
    let c = place -1·0 0·0 z in
    net same a b xs ∷ net same b c xs ∷ net same c a xs ∷ []

abbrev bush_counts : List Vec3 → List ℤ
bush_counts xs = ring_counts 0·0 xs ++ ring_counts one xs

-- ---- a torus with the radii 2 and 1

abbrev back_uv : Float → List Float
back_uv v = TAU ∷ v ∷ PI ∷ v ∷ 0·0 ∷ v ∷ []

-- the v of inner rungs: 3 + PI, 1 + 4/3 and 1 + 8/3
abbrev v₀ : Float
v₀ = of_bits binary64 0x4018_90fd_aa22_168c

abbrev v₁ : Float
v₁ = of_bits binary64 0x4002_aaaa_aaaa_aaaa

abbrev v₂ : Float
v₂ = of_bits binary64 0x400d_5555_5555_5555

-- the points of the torus there, at u 0
abbrev on_torus : Float → List Float
on_torus v = (whole 2 ⊕ (sincos_of v).cos) ∷ 0·0 ∷ (sincos_of v).sin ∷ []

abbrev P₀ : List Float
P₀ = of_bits binary64 0x4007_eb81_2fa1_7975 ∷ 0·0 ∷ of_bits binary64 0xbfc2_1038_6db6_d557 ∷ []

abbrev P₁ : List Float
P₁ = of_bits binary64 0x3ff4_f2a7_97c5_4179 ∷ 0·0 ∷ of_bits binary64 0x3fe7_2385_00c8_7e64 ∷ []

abbrev P₂ : List Float
P₂ = of_bits binary64 0x3ff2_27c8_fbbe_e05f ∷ 0·0 ∷ of_bits binary64 0xbfe0_0a76_2a3d_83d8 ∷ []

-- a face of two loops, given by their parameters; their positions have z 0 and z 1
abbrev torus : ℕ → List Float → List Float → List ℕ
torus sense uv0 uv1 =
    (1 ∷ 4 ∷ 2 ∷ sense ∷ 1 ∷ 3 ∷ 0 ∷ 3 ∷ 0 ∷ [])
    ++ row real (0·0 ∷ 0·0 ∷ 0·0 ∷ 0·0 ∷ 0·0 ∷ one ∷ one ∷ 0·0 ∷ 0·0 ∷ whole 2 ∷ one ∷ one ∷ 1·5 ∷ uv0 ++ (uv1 ++ (short_xyz 0·0 ++ short_xyz one)))

-- The ring at 5 rises and goes with the face, so it is the lower one, and the ring at 1 is lifted to 1 + TAU: one inner rung, at the middle.
abbrev lifted : List ℕ
lifted = torus 1 (back_uv one) (short_uv (whole 5))

abbrev lifted_written : List ℕ
lifted_written =
    let area = (one ⊕ TAU ⊖ whole 5) ⊗ TAU in
    (1 ∷ 1 ∷ 0 ∷ 0 ∷ 8 ∷ 0 ∷ [])
    ++ row real (area ∷ short_uv (whole 5) ++ (TAU ∷ v₀ ∷ back_uv (one ⊕ TAU) ++ (0·0 ∷ v₀ ∷
    short_xyz one ++ (P₀ ++ (short_xyz 0·0 ++ P₀)))))

-- the same rings on a face against the surface's sense: the falling ring at 1 is the lower one, and there are two inner rungs up to 5
abbrev against : List ℕ
against = torus 0 (back_uv one) (short_uv (whole 5))

abbrev against_written : List ℕ
against_written =
    let area = whole 4 ⊗ TAU in
    (1 ∷ 1 ∷ 0 ∷ 0 ∷ 10 ∷ 0 ∷ [])
    ++ row real (area ∷ short_uv one ++ (TAU ∷ v₁ ∷ TAU ∷ v₂ ∷ back_uv (whole 5) ++ (0·0 ∷ v₂ ∷ 0·0 ∷ v₁ ∷
    short_xyz 0·0 ++ (P₁ ++ (P₂ ++ (short_xyz one ++ (P₂ ++ P₁)))))))

-- Of equal means the first ring, loop 1, would be the lower one; loop 0 goes with the face and is exchanged with it, and nothing is lifted.
abbrev exchanged : List ℕ
exchanged = torus 1 (short_uv one) (back_uv one)

abbrev exchanged_written : List ℕ
exchanged_written =
    (1 ∷ 1 ∷ 0 ∷ 0 ∷ 6 ∷ 0 ∷ []) ++ row real (0·0 ∷ short_uv one ++ (back_uv one ++ (short_xyz 0·0 ++ short_xyz one)))

-- ---- what is answered

pub record Faces : Type 0 where
  -- what the bits above say
  pub third : one ⊘ whole 3 ≡ ⅓
  pub two_thirds : whole 2 ⊘ whole 3 ≡ ⅔
  pub rung₀ : whole 3 ⊕ PI ≡ v₀
  pub rung₁ : one ⊕ whole 4 ⊘ whole 3 ≡ v₁
  pub rung₂ : one ⊕ whole 8 ⊘ whole 3 ≡ v₂
  pub point₀ : on_torus v₀ ≡ P₀
  pub point₁ : on_torus v₁ ≡ P₁
  pub point₂ : on_torus v₂ ≡ P₂
  pub walled_closed : judge 61614 walled ≡ closed walled_written
  pub bush_closed : judge 61614 bush ≡ closed bush_written
  -- The step counts round the bush, as it is read from those bytes, are those of its two rings together, each in file order, in which the upper one falls.
  pub bush_counts_lem : bush_counts (outer_positions bush_written) ≡ pos 1 ∷ pos 1 ∷ pos 1 ∷ negsuc 0 ∷ negsuc 0 ∷ negsuc 0 ∷ []
  pub bush_lower : bush_counts (get_or (loop_positions bush) 0 []) ≡ pos 1 ∷ pos 1 ∷ pos 1 ∷ pos 0 ∷ pos 0 ∷ pos 0 ∷ []
  pub bush_upper : bush_counts (get_or (loop_positions bush) 1 []) ≡ pos 0 ∷ pos 0 ∷ pos 0 ∷ negsuc 0 ∷ negsuc 0 ∷ negsuc 0 ∷ []
  pub lifted_closed : judge 61614 lifted ≡ closed lifted_written
  pub against_closed : judge 61614 against ≡ closed against_written
  pub exchanged_closed : judge 61614 exchanged ≡ closed exchanged_written

pub faces : Faces
unfolding Call.judge verdict too_few_lent wrong_byte wrong_header too_many_loops ends_in_counts too_few_points too_many_points wrong_length bad_real first_bad_real first_from number number_at real_at start bytes real row holds head_range radius second uv_range u_range v_range range of_bits of_fields odd to_bits le lt eq ne neg add sub mul div of_int to_signed to_unsigned abs_of round_away floor_of ceil_of sincos_of sqrt_of length_of direction_of normalized_or least_axis perpendicular_of frame_of polar_of frame_in surface_of surface_in options_in sense_in corners_from corners_in loops_in measured_in wrapping setting_in given_in wraps_at open_at wrapping_of open_among one_among many_among open_kind open_ring one_ring many_rings open_surface strip_points long_strip loops_from wrapped_loops path_in result_loops result_in encode result_of together uv xyz uv_at xyz_at row_at sum counts parameters positions pieces only u_period v_period area_of cross_sum cross_at least_of greatest_of wrap_every turns_counted ends_meet same given_of strip_of strip heights ladder lower_ring upper_ring lower_first first_is_lower lift joined laid rising shifted least_u greatest_u reseam has_strip has_gap across_seam on_strip any_straddles gap_of cut_anew recut first_open_past first_past widest_gap gap_along sorted insert passed usable started start_of first_serving start_from serves serve begins_backward stands_at_the_cut trial turned_unless align_cuts align_at turned_onto nearest first_least slide_to_cut unless_zero turned begun ring_closed mean_of sum_of onto strip_shift straddles inner rungs ended_on kept_divisions kept_after near rung_slack divisions_from division v_steps_of segments_of angle_step_of sag_angle raised_of torus_of point_of outer holes drop_merging drop_successive drop_trailing kept_from cut_back net net_of count steps_round steps_along decode counts_in corners_back loop_positions_of loop_positions
faces = record {
  third = refl;
  two_thirds = refl;
  rung₀ = refl;
  rung₁ = refl;
  rung₂ = refl;
  point₀ = refl;
  point₁ = refl;
  point₂ = refl;
  walled_closed = refl;
  bush_closed = refl;
  bush_counts_lem = refl;
  bush_lower = refl;
  bush_upper = refl;
  lifted_closed = refl;
  against_closed = refl;
  exchanged_closed = refl;
}

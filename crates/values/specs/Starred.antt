-- 01, "Values to hold": those marked * are proved together as one listed check of the meanings. The prover computes each of them; none is assumed.
use Rattle.std.specs.Prelude.{◌≡◌, refl, true, List, [], ◌∷◌, pos, negsuc, Float, Some}
use Rattle.std.specs.Float.{binary64}
use Rattle.std.specs.Float.Ieee.{add, sub, mul, div, neg, lt, le, eq, of_bits, to_bits, of_int, to_signed}
use Rattle.numbers.specs.Constants.{plus_zero, half, one, H, TAU}
use Rattle.numbers.specs.Rounded.{◌⊘◌, count}
use Rattle.numbers.specs.Order.{abs_of}
use Rattle.numbers.specs.Round.{round_away, floor_of}
use Rattle.numbers.specs.Sqrt.{sqrt_of}
use Rattle.numbers.specs.Trig.{sincos_of}
use Rattle.loops.specs.Area.{area_of, cross_sum, cross_at}
use Rattle.loops.specs.Branch.{nearest_branch}
use Rattle.loops.specs.Wrap.{net_wrap, wrap_every, turns_counted}
use Rattle.loops.specs.Rings.{begun, closed}
use Rattle.surfaces.specs.Rungs.{rungs}
use Rattle.surfaces.specs.Values.{three, halves, no_width}
use Rattle.closed_region.specs.Table.{boxes_of}
use Rattle.closed_region.specs.Outer.{outer_of}
use Rattle.closed_region.specs.Values.{square_u, square_v, equal_squares}
use Rattle.rings.specs.Choices.{nearest, first_least}
use Rattle.rings.specs.Turns.{turned_onto, align_at}
use Rattle.tables.specs.Corners.{Corner}
use Rattle.rings.specs.Starts.{align_cuts}

-- a loop that travels so far in u
abbrev travels : Float → List Float
travels far = count 0 ∷ far ∷ []

-- a ring's corner, at v 0, with a letter for its position
pub data Letter : Type 0 where
  A B C D : Letter

abbrev at : Float → Letter → Corner Letter
at u p = record { u = u; v = count 0; at = p }

pub record Starred : Type 0 where
  -- round: 0.5 to 1; -0.5 to -1; 2.5 to 3; -0.25 to -0. floor(-0.5) = -1
  pub round_half : round_away half ≡ one
  pub round_minus_half : round_away (neg half) ≡ neg one
  pub round_two_and_a_half : round_away (count 5 ⊘ count 2) ≡ count 3
  pub round_minus_quarter : round_away (neg (one ⊘ count 4)) ≡ neg plus_zero
  pub floor_minus_half : floor_of (neg half) ≡ neg one
  -- sqrt(9) = 3; sqrt(2) has bits 0x3FF6A09E667F3BCD
  pub sqrt_nine : sqrt_of (count 9) ≡ count 3
  pub sqrt_two : to_bits binary64 (sqrt_of (count 2)) ≡ 0x3ff6_a09e_667f_3bcd
  -- sin H = 1, cos H = 0 as a number; cos TAU = 1
  pub sin_H : (sincos_of H).sin ≡ one
  pub cos_H : eq (sincos_of H).cos plus_zero ≡ true
  pub cos_TAU : (sincos_of TAU).cos ≡ one
  -- `nearest_branch`(7, 0, 4) = -1; (6, 0, 4) = -2; (5, 0, 0) = 5
  pub branch_of_7 : nearest_branch (count 7) (count 0) (count 4) ≡ neg (count 1)
  pub branch_of_6 : nearest_branch (count 6) (count 0) (count 4) ≡ neg (count 2)
  pub branch_of_5 : nearest_branch (count 5) (count 0) (count 0) ≡ count 5
  -- period 4: travel 4.5 wraps 1, 4.75 wraps 0, 3.5 wraps 1, 2 wraps 0, -8 wraps -2
  pub wraps_4·5 : net_wrap (Some (count 4)) (travels (count 9 ⊘ count 2)) ≡ pos 1
  pub wraps_4·75 : net_wrap (Some (count 4)) (travels (count 19 ⊘ count 4)) ≡ pos 0
  pub wraps_3·5 : net_wrap (Some (count 4)) (travels (count 7 ⊘ count 2)) ≡ pos 1
  pub wraps_2 : net_wrap (Some (count 4)) (travels (count 2)) ≡ pos 0
  pub wraps_minus_8 : net_wrap (Some (count 4)) (travels (neg (count 8))) ≡ negsuc 1
  -- corners (0,0), (4,0), (0,3): area 6; reversed -6
  pub area : area_of (count 0 ∷ count 4 ∷ count 0 ∷ []) (count 0 ∷ count 0 ∷ count 3 ∷ []) ≡ count 6
  pub area_reversed : area_of (count 0 ∷ count 4 ∷ count 0 ∷ []) (count 3 ∷ count 0 ∷ count 0 ∷ []) ≡ neg (count 6)
  -- `merge_even` of 0, 1, 2 steps: 0, 0.5, 1; of 3, 3, 4 steps: 3
  pub rungs_halved : rungs plus_zero one 2 ≡ plus_zero ∷ half ∷ one ∷ []
  pub rungs_of_no_width : rungs three three 4 ≡ three ∷ []
  -- period 4, cut 0, ring u 1, 2, 3, 4, 5, positions A B C D A: becomes u 0, 1, 2, 3, 4, D A B C D
  pub ring : align_cuts (count 4) (count 0) (at (count 1) A ∷ at (count 2) B ∷ at (count 3) C ∷ at (count 4) D ∷ at (count 5) A ∷ []) ≡ at (count 0) D ∷ at (count 1) A ∷ at (count 2) B ∷ at (count 3) C ∷ at (count 4) D ∷ []
  -- two equal squares: the second is outer
  pub second_square : outer_of (boxes_of (square_u one ∷ square_u one ∷ []) (square_v one ∷ square_v one ∷ [])) (area_of (square_u one) (square_v one) ∷ area_of (square_u one) (square_v one) ∷ []) ≡ 1

pub starred : Starred
unfolding round_away floor_of abs_of sqrt_of sincos_of nearest_branch wrap_every turns_counted area_of cross_sum cross_at align_cuts align_at turned_onto nearest first_least begun closed add sub mul div neg lt le eq of_bits to_bits of_int to_signed
starred =
    record {
      round_half = refl;
      round_minus_half = refl;
      round_two_and_a_half = refl;
      round_minus_quarter = refl;
      floor_minus_half = refl;
      sqrt_nine = refl;
      sqrt_two = refl;
      sin_H = refl;
      cos_H = refl;
      cos_TAU = refl;
      branch_of_7 = refl;
      branch_of_6 = refl;
      branch_of_5 = refl;
      wraps_4·5 = refl;
      wraps_4·75 = refl;
      wraps_3·5 = refl;
      wraps_2 = refl;
      wraps_minus_8 = refl;
      area = refl;
      area_reversed = refl;
      rungs_halved = halves;
      rungs_of_no_width = no_width;
      ring = refl;
      second_square = equal_squares;
    }

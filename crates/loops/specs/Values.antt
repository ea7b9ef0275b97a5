-- Step counts, dropped repeats, turned rings and shifts by whole turns, computed. Most positions are numbers here, one where they are equal.
use Rattle.std.specs.Prelude.{ℕ, ◌+◌, ◌*◌, ◌<◌, max, ◌≡◌, refl, Bool, ◌&&◌, List, [], ◌∷◌, T, eqb, ltb, Float, ℤ, pos, negsuc, nat_abs}
use Rattle.std.proofs.Common.{lit<}
use Rattle.std.specs.Float.{binary64}
use Rattle.std.specs.Float.Ieee.{of_bits, sub, mul, div, neg, eq, le}
use Rattle.std.specs.Int.Signed.{lt_z}
use Rattle.numbers.specs.declared.math.Vec3.{Vec3}
use Rattle.numbers.specs.Position as Position
use Rattle.numbers.specs.Constants.{plus_zero, PI, TAU}
use Rattle.numbers.specs.Round.{round_away, floor_of}
use Rattle.numbers.specs.Rounded.{◌⊖◌, ◌⊗◌, ◌⊘◌}
use Rattle.numbers.specs.Units.{units, distance}
use Rattle.loops.specs.Branch.{branch_shift, nearest_branch, turn_units, slack_units, left_over}
use Rattle.loops.specs.Steps.{net, net_of, count, steps_round, steps_along}
use Rattle.loops.specs.Repeats.{drop_merging, drop_repeats, drop_successive, drop_trailing, kept_from, cut_back}
use Rattle.loops.specs.Rings.{begun, closed, turned, unchanged}

-- ---- steps

to_the_next : net eqb 1 2 (1 ∷ 2 ∷ 3 ∷ []) ≡ pos 1
unfolding net net_of count steps_round steps_along
to_the_next = refl

last-to-first : net eqb 3 1 (1 ∷ 2 ∷ 3 ∷ []) ≡ pos 1
unfolding net net_of count steps_round steps_along
last-to-first = refl

rotated : net eqb 1 2 (3 ∷ 1 ∷ 2 ∷ []) ≡ pos 1
unfolding net net_of count steps_round steps_along
rotated = refl

reversed : net eqb 1 2 (3 ∷ 2 ∷ 1 ∷ []) ≡ negsuc 0
unfolding net net_of count steps_round steps_along
reversed = refl

there_and_back : net eqb 1 2 (1 ∷ 2 ∷ []) ≡ pos 0
unfolding net net_of count steps_round steps_along
there_and_back = refl

-- the ring 1 2 3, the wall 7, the ring 4 5 6 read backward, the wall again
strip : List ℕ
strip = 1 ∷ 2 ∷ 3 ∷ 1 ∷ 1 ∷ 7 ∷ 4 ∷ 4 ∷ 6 ∷ 5 ∷ 4 ∷ 7 ∷ []

lower_forward : net eqb 1 2 strip ≡ pos 1
unfolding net net_of count steps_round steps_along strip
lower_forward = refl

upper_backward : net eqb 4 5 strip ≡ negsuc 0
unfolding net net_of count steps_round steps_along strip
upper_backward = refl

walls_cancel : net eqb 1 7 strip ≡ pos 0
unfolding net net_of count steps_round steps_along strip
walls_cancel = refl

-- positions of three reals: -0 and 0 are one
abbrev on_axis : ℕ → Vec3
on_axis bits = record { x = of_bits binary64 bits; y = of_bits binary64 0; z = of_bits binary64 0 }

abbrev P : Vec3
P = on_axis 0

abbrev P⁻ : Vec3
P⁻ = on_axis 0x8000_0000_0000_0000

abbrev Q : Vec3
Q = on_axis 0x3ff0_0000_0000_0000

abbrev R : Vec3
R = on_axis 0x4000_0000_0000_0000

signed-zero : net Position.same P Q (P⁻ ∷ Q ∷ R ∷ P ∷ []) ≡ pos 1
unfolding net net_of count steps_round steps_along Position.same eq of_bits
signed-zero = refl

-- ---- repeats: corners are positions with labels, compared by position

abbrev Corner : Type 0
Corner = ℕ × ℕ

abbrev same : Corner → Corner → Bool
same c d = eqb c.0 d.0

corners : List Corner
corners = (1, 10) ∷ (1, 11) ∷ (1, 12) ∷ (2, 13) ∷ (3, 14) ∷ (1, 15) ∷ []

-- of the repeats the first is kept, and of the ends the first
first-kept : drop_repeats same corners ≡ (1, 10) ∷ (2, 13) ∷ (3, 14) ∷ []
unfolding drop_merging drop_successive drop_trailing kept_from cut_back corners
first-kept = refl

-- compared with the one kept, 1, and not with the one before, 2: a `same` that is not transitive tells
kept_before : drop_repeats (λ x y. ltb x (y + 2) && ltb y (x + 2)) (1 ∷ 2 ∷ 3 ∷ []) ≡ 1 ∷ 3 ∷ []
unfolding drop_merging drop_successive drop_trailing kept_from cut_back
kept_before = refl

-- three remain, though the last equals the first
three_remain : drop_repeats same ((1, 10) ∷ (2, 11) ∷ (1, 12) ∷ []) ≡ (1, 10) ∷ (2, 11) ∷ (1, 12) ∷ []
unfolding drop_merging drop_successive drop_trailing kept_from cut_back
three_remain = refl

-- merged by the greater label
greatest_label : drop_merging same (λ kept dropped. (kept.0, max kept.1 dropped.1)) corners ≡ (1, 15) ∷ (2, 13) ∷ (3, 14) ∷ []
unfolding drop_merging drop_successive drop_trailing kept_from cut_back corners
greatest_label = refl

-- ---- a ring: period 4, u 1, 2, 3, 4, 5, positions 1 2 3 4 1, begun at its last open point

u-turned : turned (λ u. u + 4) 3 (1 ∷ 2 ∷ 3 ∷ 4 ∷ 5 ∷ []) ≡ 4 ∷ 5 ∷ 6 ∷ 7 ∷ 8 ∷ []
unfolding begun closed turned
u-turned = refl

position-turned : turned {A = ℕ} unchanged 3 (1 ∷ 2 ∷ 3 ∷ 4 ∷ 1 ∷ []) ≡ 4 ∷ 1 ∷ 2 ∷ 3 ∷ 4 ∷ []
unfolding begun closed turned
position-turned = refl

-- ---- `nearest_branch` at the edges of 02, N12

-- the slack is 2^-40
slack_is : units (of_bits binary64 0x3d70_0000_0000_0000) ≡ pos slack_units
unfolding units of_bits
slack_is = refl

sixty_four : Float
sixty_four = of_bits binary64 0x4050_0000_0000_0000

-- 64 toward -64, and -64 toward 64: 20 turns, to -61.66 and 61.66
limit_to_limit : nearest_branch sixty_four (neg sixty_four) TAU ≡ of_bits binary64 0xc04e_d4f4_52aa_70bc
unfolding sixty_four nearest_branch round_away sub mul div neg le of_bits
limit_to_limit = refl

limit_back : nearest_branch (neg sixty_four) sixty_four TAU ≡ of_bits binary64 0x404e_d4f4_52aa_70bc
unfolding sixty_four nearest_branch round_away sub mul div neg le of_bits
limit_back = refl

limits_land : 2 * distance (nearest_branch sixty_four (neg sixty_four) TAU) (neg sixty_four) < turn_units
unfolding sixty_four nearest_branch units round_away sub mul div neg le of_bits
limits_land = lit< tt

-- half a turn off: rounded away from zero, it lands half a turn off on the other side, exactly
other-side : nearest_branch PI plus_zero TAU ≡ neg PI
unfolding nearest_branch round_away sub mul div neg le of_bits
other-side = refl

half-a_turn : 2 * distance (nearest_branch PI plus_zero TAU) plus_zero ≡ turn_units
unfolding nearest_branch units round_away sub mul div neg le of_bits
half-a_turn = refl

-- 60.19526988305439, toward -62.32684360694754, lands further off than half a turn: `LandsNear` needs its slack
far : Float
far = of_bits binary64 0x404e_18fe_9a80_ce61

toward : Float
toward = of_bits binary64 0xc04f_29d6_02e5_5f89

far_lands : nearest_branch far toward TAU ≡ of_bits binary64 0xc050_5dfa_dc14_d12e
unfolding far toward nearest_branch round_away sub mul div neg le of_bits
far_lands = refl

beyond_half : turn_units < 2 * distance (nearest_branch far toward TAU) toward
unfolding far toward nearest_branch units round_away sub mul div neg le of_bits
beyond_half = lit< tt

-- with a period of four turns a value of two turns lands two turns off: the bound is one of TAU alone
other-period : turn_units + 2 * slack_units < 2 * distance (nearest_branch (of_bits binary64 0x4029_21fb_5444_2d18) plus_zero (of_bits binary64 0x4039_21fb_5444_2d18)) plus_zero
unfolding nearest_branch units round_away sub mul div neg le of_bits
other-period = lit< tt

-- ---- what shifts leave

-- 60.20072975738141, toward -62.32138373262052: more than half a turn is left, so that `LeavesHalf` needs its slack
left_nearest : Float → Float → ℤ
left_nearest x y = left_over x y (branch_shift x y TAU)

over_half : turn_units < 2 * nat_abs (left_nearest (of_bits binary64 0x404e_19b1_833f_a4c2) (of_bits binary64 0xc04f_2923_1a26_8928))
unfolding left_nearest units round_away sub mul div of_bits
over_half = lit< tt

-- rounded down: what is left can be below 0, and can be over a turn, so that `LeavesTurn` needs its slack on both sides

left_down : Float → Float → ℤ
left_down x lo = left_over x lo (floor_of ((x ⊖ lo) ⊘ TAU) ⊗ TAU)

-- -44.841593828284964, from 175.06989192300057 on
below-zero : T (lt_z (left_down (of_bits binary64 0xc046_6bb9_58b8_7feb) (of_bits binary64 0x4065_e23c_8dfc_7158)) (pos 0))
unfolding left_down units floor_of sub mul div of_bits
below-zero = tt

-- -235.63555483121954, from 122.50600767801689 on
over_a_turn : T (lt_z (pos turn_units) (left_down (of_bits binary64 0xc06d_7456_7715_dce3) (of_bits binary64 0x405e_a062_6e07_26e0)))
unfolding left_down units floor_of sub mul div of_bits
over_a_turn = tt

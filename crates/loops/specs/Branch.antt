-- A value shifted by whole periods to lie as near to a reference as it can, and how near that is.
use Rattle.std.specs.Prelude.{◌≡◌, cond, ℕ, ◌+◌, ◌*◌, ◌^◌, ◌≤◌, T, ℤ, pos, neg_ℤ, nat_abs, ◌-ℤ◌, Float}
use Rattle.std.specs.Int.Signed.{le_z}
use Rattle.std.specs.Float.Ieee.{le}
use Rattle.std.specs.Float.Ieee.Scale.{finite}
use Rattle.numbers.specs.Constants.{plus_zero, TAU}
use Rattle.numbers.specs.Round.{round_away}
use Rattle.numbers.specs.Rounded.{◌⊖◌, ◌⊗◌, ◌⊘◌}
use Rattle.numbers.specs.Units.{units, distance}
use Rattle.numbers.specs.Within.{Within}

-- what is taken off: the period times the rounded quotient
abbrev pub branch_shift : Float → Float → Float → Float
branch_shift value reference period = period ⊗ round_away ((value ⊖ reference) ⊘ period)

-- with a period of zero or less the value stays
unfoldable pub nearest_branch : Float → Float → Float → Float
nearest_branch value reference period = cond (le period plus_zero) value (value ⊖ branch_shift value reference period)

-- ---- how near: counted in units of 2 ^ -1074, so that nothing is rounded

-- TAU and 2 ^ -40 in units
abbrev pub turn_units : ℕ
turn_units = nat_abs (units TAU)

abbrev pub slack_units : ℕ
slack_units = 2 ^ 1034

-- 02, N12: "For period TAU and values and references of size at most 64, `nearest_branch` lands within half of TAU plus 2^-40 of the reference. The distance is exact". Both sides are doubled, so that no half is needed. That r is the value less whole periods, each step rounded, is the equation beside it.
unfoldable pub LandsNear : Float → Float → Float → Float → Type 0
LandsNear value reference period r = period ≡ TAU → Within 64 value → Within 64 reference → T (finite r) × (2 * distance r reference ≤ turn_units + 2 * slack_units)

-- ---- what the shifts of the closing leave of a distance

-- The closing shifts also rings and holes that it has moved before: `align_cuts` a later ring, `reseam` a hole. No u of theirs is over 1,000 in size (docs/MAGNITUDES.md; proved in magnitudes/proofs/Rings.antt), and no u of a result where u is periodic.
abbrev pub Reached : Float → Type 0
Reached x = Within 1000 x

-- what is left of value - reference when the shift is taken off the value, or added to the reference, exactly
abbrev pub left_over : Float → Float → Float → ℤ
left_over value reference shift = units value -ℤ units reference -ℤ units shift

-- a shift to the nearest period leaves at most "half of TAU plus 2^-40", of either sign
unfoldable pub LeavesHalf : Float → Float → Float → Float → Type 0
LeavesHalf value reference period shift =
    period ≡ TAU → Reached value → Reached reference → T (finite shift) × (2 * nat_abs (left_over value reference shift) ≤ turn_units + 2 * slack_units)

-- a shift by the periods that fit in, rounded down, leaves from 0 to TAU, with 2 ^ -40 on either side
unfoldable pub LeavesTurn : Float → Float → Float → Float → Type 0
LeavesTurn value reference period shift =
    period ≡ TAU → Reached value → Reached reference
    → T (finite shift) × T (le_z (neg_ℤ (pos slack_units)) (left_over value reference shift)) × T (le_z (left_over value reference shift) (pos (turn_units + slack_units)))

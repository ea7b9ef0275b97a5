-- Rounding to whole numbers. A finite real is a / b with its sign, where a = m * up e and b = down e are whole. The answer has the same sign, and its size is a whole number (`WholeNumbers.antt` says which one, by its distance). NaN and the infinities stay.
use Rattle.std.specs.Prelude.{ℕ, ◌+◌, ◌-◌, ◌*◌, ◌/◌, Bool, true, false, Float}
use Rattle.std.specs.Float.{nan, inf, fin, binary64}
use Rattle.std.specs.Float.Ieee.{up, down, round}

-- the whole number n with the sign s
abbrev pub whole_of : Bool → ℕ → Float
whole_of s n = round binary64 s n 1

-- a / b, cut
abbrev pub cut : ℕ → ℕ → ℕ
cut a b = a / b

-- the least whole number that is at least a / b
abbrev pub cut_up : ℕ → ℕ → ℕ
cut_up a b = (a + (b - 1)) / b

-- a / b + 1 / 2, cut: halves go up
abbrev pub nearest_up : ℕ → ℕ → ℕ
nearest_up a b = (2 * a + b) / (2 * b)

-- to the nearest whole number, halves away from zero
unfoldable pub round_away : Float → Float
unfolding round
round_away nan = nan
round_away (inf s) = inf s
round_away (fin s m e) = whole_of s (nearest_up (m * up e) (down e))

unfoldable pub floor_of : Float → Float
unfolding round
floor_of nan = nan
floor_of (inf s) = inf s
floor_of (fin false m e) = whole_of false (cut (m * up e) (down e))
floor_of (fin true m e) = whole_of true (cut_up (m * up e) (down e))

unfoldable pub ceil_of : Float → Float
unfolding round
ceil_of nan = nan
ceil_of (inf s) = inf s
ceil_of (fin false m e) = whole_of false (cut_up (m * up e) (down e))
ceil_of (fin true m e) = whole_of true (cut (m * up e) (down e))

-- 01, "Closed faces": "`net_wrap`: travel / period, rounded half away from zero; that number if at least 1 in size and less than 0.15 off, else 0".
use Rattle.std.specs.Prelude.{cond, ◌&&◌, List, [], ◌∷◌, ℤ, pos, Float, Option, Some, None}
use Rattle.std.specs.Float.{binary64}
use Rattle.std.specs.Float.Ieee.{of_bits, lt, le, to_signed}
use Rattle.numbers.specs.Constants.{one}
use Rattle.numbers.specs.Order.{abs_of}
use Rattle.numbers.specs.Round.{round_away}
use Rattle.numbers.specs.Rounded.{◌⊖◌, ◌⊘◌}
use Rattle.loops.specs.Steps.{last_of}

abbrev pub tolerance : Float
tolerance = of_bits binary64 0x3fc3_3333_3333_3333

-- The papers leave a number beyond an i32 free. Here it is the nearer end of the range, as Rust's `as` has it.
unfoldable pub turns_counted : Float → ℤ
turns_counted turns =
    let whole = round_away turns in
    cond (le one (abs_of whole) && lt (abs_of (turns ⊖ whole)) tolerance) (to_signed 31 whole) (pos 0)

-- The travel is from the first u to the last. A loop of fewer than two points does not wrap.
unfoldable pub wrap_every : Float → List Float → ℤ
wrap_every p [] = pos 0
wrap_every p (u ∷ []) = pos 0
wrap_every p (u ∷ w ∷ us) = turns_counted ((last_of w us ⊖ u) ⊘ p)

-- where u does not come round, no loop wraps
abbrev pub net_wrap : Option Float → List Float → ℤ
net_wrap None us = pos 0
net_wrap (Some p) us = wrap_every p us

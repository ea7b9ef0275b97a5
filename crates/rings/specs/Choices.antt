-- What a band decides by the u of its loops alone. The sentences are those of 01, "Bands".
use Rattle.std.specs.Prelude.{ℕ, zero, suc, Bool, false, cond, not, ◌&&◌, ◌||◌, ltb, Float, length, get_or}
use mathlib.Core.List.{List, [], ◌∷◌, map, drop_last}
use Rattle.std.specs.Float.{nan}
use Rattle.std.specs.Float.Ieee.{lt, le}
use Rattle.numbers.specs.Constants.{10^-12, 10^-9, 10^-6}
use Rattle.numbers.specs.Order.{abs_of, min_of, max_of}
use Rattle.numbers.specs.Round.{round_away, floor_of}
use Rattle.numbers.specs.Rounded.{◌⊕◌, ◌⊖◌, ◌⊗◌, ◌⊘◌}
use Rattle.loops.specs.Span.{least_of, greatest_of}

-- "the rings' least u", and the greatest
unfoldable pub least_u : List Float → List Float → Float
least_u first later = min_of (least_of first) (least_of later)

unfoldable pub greatest_u : List Float → List Float → Float
greatest_u first later = max_of (greatest_of first) (greatest_of later)

abbrev pub first_of : List Float → Float
first_of us = get_or us 0 nan

-- the first of the n numbers from k on that passes, and k + n where none does
unfoldable pub first_from : (ℕ → Bool) → ℕ → ℕ → ℕ
first_from p k zero = k
first_from p k (suc n) = let further = first_from p (suc k) n in cond (p k) k further

-- of the first n the first index of a least
unfoldable pub first_least : List Float → ℕ → ℕ
first_least xs zero = 0
first_least xs (suc n) = let best = first_least xs n in cond (lt (get_or xs n nan) (get_or xs best nan)) n best

-- whether a ring "begins backward": its second point lies below its first. face.rs asks it of rings of more than three points.
unfoldable pub begins_backward : List Float → Bool
begins_backward us = ltb 3 (length us) && lt (get_or us 1 nan) (get_or us 0 nan)

-- of some points the first at or past the cut, and 0 where there is none
unfoldable pub first_past : Float → List Float → ℕ
first_past cut us = let k = first_from (λ i. le cut (get_or us i nan)) 0 (length us) in cond (ltb k (length us)) k 0

-- 02, N4: "sets the repeat aside and finds the first open point at or past the cut", and 0 where there is none
unfoldable pub first_open_past : Float → List Float → ℕ
first_open_past cut us = first_past cut (drop_last us)

module _ (period : Float) where
  -- the whole periods by which a hole lies past the strip's begin, lo
  unfoldable pub strip_shift : Float → List Float → Float
  strip_shift lo us = floor_of ((least_of us ⊖ lo) ⊘ period) ⊗ period

  -- whether a hole's "u reach more than 10^-12 below the rings' least u", lo, "or past that plus the period"
  unfoldable pub straddles : Float → List Float → Bool
  straddles lo us = lt (lo ⊕ period ⊕ 10^-12) (greatest_of us) || lt (least_of us) (lo ⊖ 10^-12)

  -- how far u lies from the cut in periods, whole ones left out
  abbrev pub offset : Float → Float → Float
  offset cut u = let x = (u ⊖ cut) ⊘ period in abs_of (x ⊖ round_away x)

  -- "the point nearest the cut by periods (first of equals)", of the open points
  unfoldable pub nearest : Float → List Float → ℕ
  nearest cut us = let offsets = map (offset cut) (drop_last us) in first_least offsets (length offsets)

  -- within 10^-6 of the cut, or of the cut one period on, as face.rs has it
  abbrev pub on_seam : Float → Float → Bool
  on_seam cut u = lt (abs_of (u ⊖ cut)) 10^-6 || lt (abs_of (u ⊖ (cut ⊕ period))) 10^-6

  -- "a constant-u step on the seam", from a to b: below 10^-9 in size, as face.rs has it
  abbrev pub step_stands : Float → Float → Float → Bool
  step_stands cut a b = lt (abs_of (b ⊖ a)) 10^-9 && on_seam cut a

  unfoldable pub stands_at_the_cut : Float → List Float → Bool
  stands_at_the_cut cut [] = false
  stands_at_the_cut cut (a ∷ []) = false
  stands_at_the_cut cut (a ∷ b ∷ us) = step_stands cut a b || stands_at_the_cut cut (b ∷ us)

  -- whether two rings, of which the first is at the cut, neither begin backward nor leave such a step
  unfoldable pub serve : List Float → List Float → Bool
  serve first later =
      let cut = first_of first in
      not (begins_backward first) && not (stands_at_the_cut cut first || stands_at_the_cut cut later)

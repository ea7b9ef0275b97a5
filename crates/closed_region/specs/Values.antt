-- 01, "Values to hold", and the cases that tell the sentences of 01 and 02 apart, computed.
use Rattle.std.specs.Prelude.{ℕ, ◌≡◌, refl, false, length, List, [], ◌∷◌, Float, None, Some}
use Rattle.std.specs.Float.{nan, inf}
use Rattle.std.specs.Float.Ieee.{add, sub, mul, div, neg, lt, le, eq, of_bits, of_int}
use Rattle.numbers.specs.Constants.{10^-9}
use Rattle.numbers.specs.Order.{abs_of}
use Rattle.numbers.specs.Round.{round_away}
use Rattle.numbers.specs.Rounded.{◌⊕◌, count}
use Rattle.loops.specs.Area.{area_of, cross_sum, cross_at}
use Rattle.loops.specs.Span.{least_of, greatest_of, middle_of}
use Rattle.closed_region.specs.declared.boxes.Bounds.{Bounds}
use Rattle.closed_region.specs.declared.rephase.Branch.{Branch}
use Rattle.closed_region.specs.Table.{boxes_of}
use Rattle.closed_region.specs.Outer.{outer_of, slack_of, encloses, every, passing, encloses_other, encloses_others, enclosing_one, last_largest}
use Rattle.closed_region.specs.ByOutermost.{enclosable, one_if_unenclosable, ends_among, unenclosable_among, outermost_of, encloses_outermost, encloses_outermost_at, by_outermost}
use Rattle.closed_region.specs.Rephase.{rephased, moved, shift_of}

-- the square of side n at the corner (0, 0)
abbrev pub square_u : Float → List Float
square_u n = count 0 ∷ n ∷ n ∷ count 0 ∷ []

abbrev pub square_v : Float → List Float
square_v n = count 0 ∷ count 0 ∷ n ∷ n ∷ []

-- "Two equal squares: the second is outer."
pub equal_squares : outer_of (boxes_of (square_u (count 1) ∷ square_u (count 1) ∷ []) (square_v (count 1) ∷ square_v (count 1) ∷ [])) (count 1 ∷ count 1 ∷ []) ≡ 1
unfolding outer_of boxes_of least_of greatest_of slack_of encloses every passing encloses_other encloses_others enclosing_one last_largest abs_of add sub mul neg lt le of_bits of_int
equal_squares = refl

-- the box that encloses is outer, whatever the areas are
enclosing_square : outer_of (boxes_of (square_u (count 2) ∷ square_u (count 1) ∷ []) (square_v (count 2) ∷ square_v (count 1) ∷ [])) (count 0 ∷ count 1 ∷ []) ≡ 0
unfolding outer_of boxes_of least_of greatest_of slack_of encloses every passing encloses_other encloses_others enclosing_one last_largest abs_of add sub mul neg lt le of_bits of_int
enclosing_square = refl

-- it may fall short by 10^-9 of the largest side, here a little more than 1: the further end less that rounds to 1
short_square : outer_of (boxes_of (square_u (count 1) ∷ (count 0 ∷ (count 1 ⊕ 10^-9) ∷ []) ∷ []) (square_v (count 1) ∷ (count 0 ∷ count 0 ∷ []) ∷ [])) (count 0 ∷ count 1 ∷ []) ≡ 0
unfolding outer_of boxes_of least_of greatest_of slack_of encloses every passing encloses_other encloses_others enclosing_one last_largest abs_of add sub mul neg lt le of_bits of_int
short_square = refl

-- ---- 02, N6: boxes with ends that no loop of a face has, too; the search promises its answer for them
abbrev unit : Bounds
unit = record { ulo = count 0; uhi = count 1; vlo = count 0; vhi = count 1 }

abbrev wide : Bounds
wide = record { ulo = count 0; uhi = count 2; vlo = count 0; vhi = count 1 }

abbrev unending : Bounds
unending = record { ulo = count 1; uhi = inf false; vlo = count 1; vhi = count 2 }

abbrev undefined : Bounds
undefined = record { ulo = nan; uhi = count 1; vlo = count 0; vhi = count 1 }

-- the boxes that enclose all others, every one held against every other
abbrev enclosers : List Bounds → List ℕ
enclosers boxes = passing (encloses_others (slack_of boxes) boxes) (length boxes)

-- +inf less an infinite slack is a NaN, so that `unending` does not enclose even itself
unending_itself : enclosable (slack_of (unending ∷ [])) unending ≡ false
unfolding slack_of encloses add sub mul neg lt le of_bits of_int
unending_itself = refl

-- such a box may be the one that encloses all others
unending-encloses : enclosers (unit ∷ unending ∷ unit ∷ []) ≡ 1 ∷ []
unfolding slack_of encloses every passing encloses_other encloses_others add sub mul neg lt le of_bits of_int
unending-encloses = refl

-- of two such boxes neither encloses the other
two-unending : enclosers (unending ∷ unending ∷ []) ≡ []
unfolding slack_of encloses every passing encloses_other encloses_others add sub mul neg lt le of_bits of_int
two-unending = refl

-- a box with a NaN among its ends encloses none, and none encloses it
undefined_among : enclosers (unit ∷ undefined ∷ []) ≡ []
unfolding slack_of encloses every passing encloses_other encloses_others add sub mul neg lt le of_bits of_int
undefined_among = refl

-- what the search by the outermost ends finds of these lists, and of two boxes of which one or both enclose the other
found_wide : by_outermost (unit ∷ wide ∷ []) ≡ Some 1
unfolding by_outermost encloses_outermost_at encloses_outermost outermost_of ends_among unenclosable_among one_if_unenclosable passing slack_of encloses add sub mul neg lt le of_bits of_int
found_wide = refl

found_no_several : by_outermost (unit ∷ unit ∷ []) ≡ None
unfolding by_outermost encloses_outermost_at encloses_outermost outermost_of ends_among unenclosable_among one_if_unenclosable passing slack_of encloses add sub mul neg lt le of_bits of_int
found_no_several = refl

found_unending : by_outermost (unit ∷ unending ∷ unit ∷ []) ≡ Some 1
unfolding by_outermost encloses_outermost_at encloses_outermost outermost_of ends_among unenclosable_among one_if_unenclosable passing slack_of encloses add sub mul neg lt le of_bits of_int
found_unending = refl

found_no_unending : by_outermost (unending ∷ unending ∷ []) ≡ None
unfolding by_outermost encloses_outermost_at encloses_outermost outermost_of ends_among unenclosable_among one_if_unenclosable passing slack_of encloses add sub mul neg lt le of_bits of_int
found_no_unending = refl

found_no_undefined : by_outermost (unit ∷ undefined ∷ []) ≡ None
unfolding by_outermost encloses_outermost_at encloses_outermost outermost_of ends_among unenclosable_among one_if_unenclosable passing slack_of encloses add sub mul neg lt le of_bits of_int
found_no_undefined = refl

-- a box alone is found, although the test would refuse this one
abbrev alone : List Bounds
alone = undefined ∷ []

found_alone : by_outermost alone ≡ Some 0
unfolding by_outermost encloses_outermost_at encloses_outermost outermost_of ends_among unenclosable_among one_if_unenclosable passing slack_of encloses add sub mul neg lt le of_bits of_int
found_alone = refl

tested_alone : encloses_outermost_at (slack_of alone) (outermost_of (slack_of alone) alone) alone 0 ≡ false
unfolding encloses_outermost_at encloses_outermost outermost_of ends_among unenclosable_among one_if_unenclosable slack_of encloses add sub mul neg lt le of_bits of_int
tested_alone = refl

found_nothing : by_outermost [] ≡ None
unfolding by_outermost encloses_outermost_at encloses_outermost outermost_of ends_among unenclosable_among one_if_unenclosable passing slack_of encloses add sub mul neg lt le of_bits of_int
found_nothing = refl

-- ---- a hole, onto a branch with its middle at 0 and period 4 in u
abbrev branch : Branch
branch = record { umid = count 0; vmid = count 0; uperiod = count 4; vperiod = count 0 }

-- from 5 to 6: one period down, and its area is worked out anew
moved-hole : rephased branch (record { us = count 5 ∷ count 6 ∷ count 5 ∷ []; vs = count 0 ∷ count 0 ∷ count 2 ∷ []; area = count 7 })
    ≡ record { us = count 1 ∷ count 2 ∷ count 1 ∷ []; vs = count 0 ∷ count 0 ∷ count 2 ∷ []; area = count 1 }
unfolding rephased moved shift_of round_away area_of cross_sum cross_at least_of greatest_of middle_of add sub mul div neg lt eq of_bits of_int
moved-hole = refl

-- from 1 to 2: it stays, with its area
unmoved_hole : rephased branch (record { us = count 1 ∷ count 2 ∷ count 1 ∷ []; vs = count 0 ∷ count 0 ∷ count 2 ∷ []; area = count 7 })
    ≡ record { us = count 1 ∷ count 2 ∷ count 1 ∷ []; vs = count 0 ∷ count 0 ∷ count 2 ∷ []; area = count 7 }
unfolding rephased moved shift_of round_away area_of cross_sum cross_at least_of greatest_of middle_of add sub mul div neg lt eq of_bits of_int
unmoved_hole = refl

-- moved in u, -0.0 in v becomes 0.0: both shifts are added
zero_added : (rephased branch (record { us = count 5 ∷ []; vs = neg (count 0) ∷ []; area = count 0 })).vs ≡ count 0 ∷ []
unfolding rephased moved shift_of round_away area_of cross_sum cross_at least_of greatest_of middle_of add sub mul div neg lt eq of_bits of_int
zero_added = refl

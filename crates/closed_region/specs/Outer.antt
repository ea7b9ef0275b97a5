-- 01, "Closed faces": "Outer loop: the one box that encloses all others within 10^-9 of the largest box side; with no such box or several, the largest
-- absolute area, last of equals".
use Rattle.std.specs.Prelude.{ℕ, zero, suc, ◌+◌, Bool, true, cond, ◌&&◌, ◌||◌, eqb, length, get_or, take, drop, Float, Option, None, Some, unwrap_or}
use mathlib.Core.List.{List, [], ◌∷◌, ◌++◌, foldl}
use Rattle.std.specs.Float.{nan}
use Rattle.std.specs.Float.Ieee.{lt, le}
use Rattle.numbers.specs.Constants.{plus_zero, 10^-9}
use Rattle.numbers.specs.Order.{abs_of, max_of}
use Rattle.numbers.specs.Rounded.{◌⊕◌, ◌⊖◌, ◌⊗◌}
use Rattle.closed_region.specs.declared.boxes.Bounds.{Bounds}

-- the longer side of a box
abbrev pub side_of : Bounds → Float
side_of b = max_of (b.uhi ⊖ b.ulo) (b.vhi ⊖ b.vlo)

-- "10^-9 of the largest box side"
unfoldable pub slack_of : List Bounds → Float
slack_of boxes = foldl (λ largest b. max_of largest (side_of b)) plus_zero boxes ⊗ 10^-9

-- whether b encloses o within the slack
unfoldable pub encloses : Float → Bounds → Bounds → Bool
encloses slack b o =
    le b.ulo (o.ulo ⊕ slack) && (le (o.uhi ⊖ slack) b.uhi && (le b.vlo (o.vlo ⊕ slack) && le (o.vhi ⊖ slack) b.vhi))

-- read past the end of a list of boxes, which no definition here does
abbrev pub nowhere : Bounds
nowhere = record { ulo = nan; uhi = nan; vlo = nan; vhi = nan }

abbrev pub box_at : List Bounds → ℕ → Bounds
box_at boxes i = get_or boxes i nowhere

-- whether a test passes at every number below n
unfoldable pub every : (ℕ → Bool) → ℕ → Bool
every test zero = true
every test (suc n) = every test n && test n

-- the numbers below n at which it passes, in order
unfoldable pub passing : (ℕ → Bool) → ℕ → List ℕ
passing test zero = []
passing test (suc n) = passing test n ++ cond (test n) (n ∷ []) []

-- "encloses all others": box i held against every other
unfoldable pub encloses_other : Float → List Bounds → ℕ → ℕ → Bool
encloses_other slack boxes i j = eqb i j || encloses slack (box_at boxes i) (box_at boxes j)

unfoldable pub encloses_others : Float → List Bounds → ℕ → Bool
encloses_others slack boxes i = every (encloses_other slack boxes i) (length boxes)

-- the one of a list that has one
abbrev pub the_one : List ℕ → Option ℕ
the_one [] = None
the_one (i ∷ []) = Some i
the_one (i ∷ j ∷ is) = None

-- "the one box that encloses all others", if there is one
unfoldable pub enclosing_one : Float → List Bounds → Option ℕ
enclosing_one slack boxes = the_one (passing (encloses_others slack boxes) (length boxes))

-- "the largest absolute area, last of equals", of the first n; 0 where there is none
unfoldable pub last_largest : List Float → ℕ → ℕ
last_largest areas zero = 0
last_largest areas (suc n) = let best = last_largest areas n in cond (lt (abs_of (get_or areas n nan)) (abs_of (get_or areas best nan))) best n

-- the number of the outer loop, from the loops' boxes and areas
unfoldable pub outer_of : List Bounds → List Float → ℕ
outer_of boxes areas = unwrap_or (enclosing_one (slack_of boxes) boxes) (last_largest areas (length areas))

-- "Holes keep their order": the loops less the outer one
unfoldable pub holes_of : {A : Type 0} → ℕ → List A → List A
holes_of outer loops = take outer loops ++ drop (outer + 1) loops

-- Where `reseam` cuts anew: the middle of the widest stretch between the ends of the strip that no hole covers. What of a hole lies past the strip's end is not
-- counted at its begin, as in the Rust.
use Rattle.std.specs.Prelude.{Bool, cond, not, ◌||◌, Float}
use mathlib.Core.List.{List, [], ◌∷◌, ◌++◌, foldl}
use Rattle.std.specs.Float.Ieee.{lt, le}
use Rattle.numbers.specs.Constants.{plus_zero, half}
use Rattle.numbers.specs.Order.{max_of}
use Rattle.numbers.specs.Rounded.{◌⊕◌, ◌⊖◌, ◌⊗◌}
use Rattle.loops.specs.Span.{least_of, greatest_of}
use Rattle.seam.specs.declared.gap.Span.{Span}
use Rattle.seam.specs.declared.gap.Gap.{Gap}

-- what a hole covers
abbrev pub span : Float → Float → Span
span low high = record { low = low; high = high }

abbrev pub span_of : List Float → Span
span_of us = span (least_of us) (greatest_of us)

-- s put before the first that does not begin below it
unfoldable pub insert : Span → List Span → List Span
insert s [] = s ∷ []
insert s (t ∷ ts) = let further = t ∷ insert s ts in cond (lt t.low s.low) further (s ∷ t ∷ ts)

-- in the order in which they begin, equals as they stand
unfoldable pub sorted : List Span → List Span
sorted [] = []
sorted (s ∷ ss) = insert s (sorted ss)

-- a Gap, after some spans: how far they reach, the widest gap before them (the first of equals), and its middle
unfoldable pub passed : Gap → Span → Gap
passed g s =
    let width = s.low ⊖ g.reach in
    let wider = lt g.width width in
    record { reach = max_of g.reach s.high; width = cond wider width g.width; cut = cond wider ((g.reach ⊕ s.low) ⊗ half) g.cut }

-- on the strip from lo to hi, the spans as they stand
unfoldable pub gap_along : Float → Float → List Span → Gap
gap_along lo hi spans =
    let begin : Gap = record { reach = lo; width = plus_zero; cut = lo } in
    foldl passed begin (spans ++ (span hi hi ∷ []))

unfoldable pub widest_gap : Float → Float → List Span → Gap
widest_gap lo hi spans = gap_along lo hi (sorted spans)

-- whether it has a width and its middle lies inside the strip
unfoldable pub usable : Float → Float → Gap → Bool
usable lo hi g = not (le g.width plus_zero || (le g.cut lo || le hi g.cut))

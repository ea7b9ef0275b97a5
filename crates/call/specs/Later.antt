-- 01, "The face record": the refusals 8 to 12, the conditions of a face that the refusals 1 to 7 let pass, in the order in which they are tested.
-- The limit of 12 is that of any limits L; its number in the quote is that of version 1.
use Rattle.std.specs.Prelude.{ℕ, Bool, not, cond, ◌&&◌, List, [], ◌∷◌, ◌++◌, ℤ, pos, length, get_or}
use Rattle.numbers.specs.Position.{same}
use Rattle.numbers.specs.declared.math.Vec3.{Vec3}
use Rattle.loops.specs.Rings.{ends_meet}
use Rattle.bands.specs.Band.{strip_of}
use Rattle.tables.specs.Corners.{Corners, positions}
use Rattle.lists.specs.Elements.{only}
use Rattle.bands.specs.Given.{wraps}
use Rattle.records.specs.Bytes.{◌<?◌, ◌≤?◌, ◌=?◌}
use Rattle.records.specs.Face.{kind, loops}
use Rattle.records.specs.declared.limits.Limits.{Limits}
use Rattle.records.specs.Limits.{cone}
use Rattle.records.specs.Refusals.{Place, nowhere, when, first_where, Condition, ◌on◌}
use Rattle.call.specs.Face.{loops_in, wraps_in, wrapping, setting_in, given_in}

-- ---- 8 to 11, of the loops of a face and of their wraps

-- whether loop k wraps; past the last one none does
unfoldable pub wraps_at : List ℤ → ℕ → Bool
wraps_at ws k = wraps (get_or ws k (pos 0))

-- whether loop k wraps and its "last position is not its first, compared as numbers"; past the last loop there is one of no corners
unfoldable pub open_at : List (Corners Vec3) → List ℤ → ℕ → Bool
open_at ls ws k = wraps_at ws k && not (ends_meet same (positions (get_or ls k [])))

-- how many loops wrap
unfoldable pub wrapping_of : List ℤ → ℕ
wrapping_of ws = length (only wraps ws)

-- "8, loop: first wrapping loop whose last position is not its first, compared as numbers"
unfoldable pub open_among : List (Corners Vec3) → List ℤ → Place
open_among ls ws = first_where (length ls) (open_at ls ws)

-- "9, loop: exactly one loop wraps"
unfoldable pub one_among : List ℤ → Place
one_among ws = cond (wrapping_of ws =? 1) (first_where (length ws) (wraps_at ws)) nowhere

-- "10, count: more than two wrap"
unfoldable pub many_among : List ℤ → Place
many_among ws = when (2 <? wrapping_of ws) (wrapping_of ws)

-- "11, 0: no loops, and the kind is plane, cylinder or cone"
unfoldable pub open_kind : ℕ → ℕ → Place
open_kind kind loops = when (loops =? 0 && (kind ≤? cone)) 0

-- of a face record
unfoldable pub open_ring : List ℕ → Place
open_ring s = open_among (loops_in s) (wraps_in s)

unfoldable pub one_ring : List ℕ → Place
one_ring s = one_among (wraps_in s)

unfoldable pub many_rings : List ℕ → Place
many_rings s = many_among (wraps_in s)

unfoldable pub open_surface : List ℕ → Place
open_surface s = open_kind (kind s) (loops s)

-- ---- 12

-- how many points the strip has "before repeats are dropped"
unfoldable pub strip_points : List ℕ → ℕ
strip_points s = length (strip_of (setting_in s) (given_in s))

-- "12, points: the strip, before repeats are dropped, has over 1,024"
unfoldable pub long_strip : Limits → List ℕ → Place
long_strip L s = when (wrapping s =? 2 && (L.strip <? strip_points s)) (strip_points s)

-- ---- the list

-- "Checks run in that order": those of the rings, which no limit touches
abbrev pub ring_conditions : List Condition
ring_conditions =
    8 on open_ring
    ∷ 9 on one_ring
    ∷ 10 on many_rings
    ∷ 11 on open_surface
    ∷ []

-- that of the strip
abbrev pub strip_conditions : Limits → List Condition
strip_conditions L = 12 on long_strip L ∷ []

abbrev pub later_conditions : Limits → List Condition
later_conditions L = ring_conditions ++ strip_conditions L

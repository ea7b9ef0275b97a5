-- `closed_region` on the loops of a face.
use Rattle.std.specs.Prelude.{ℕ, cond, List, map, leb, length, take, Float}
use Rattle.numbers.specs.declared.math.Vec3.{Vec3}
use Rattle.tables.specs.Corners.{Corners}
use Rattle.closed_region.specs.Loops.{box_in}
use Rattle.closed_region.specs.Outer.{outer_of, last_largest}

-- The number of the outer loop among ls, whose areas stand in front of a list. With no room for their boxes it is "the largest absolute area, last of
-- equals" alone.
unfoldable pub outer_among : List (Corners Vec3) → List Float → ℕ → ℕ
outer_among ls areas room =
    let own = take (length ls) areas in
    cond (leb (length ls) room) (outer_of (map box_in ls) own) (last_largest own (length own))

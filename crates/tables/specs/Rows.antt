-- A table is a list of the corners that the code holds; its rows are those corners, each with the position that it carries.
use Rattle.std.specs.Prelude.{List, map, get_or, Float}
use Rattle.std.specs.Float.{nan}
use Rattle.numbers.specs.declared.math.Vec3.{Vec3}
use Rattle.tables.specs.Corners.{Corner, Corners}
use Rattle.tables.specs.declared.corners.Corner.{Corner as Held}

-- a corner that the code has in hand
abbrev pub corner_of : Held → Corner Vec3
corner_of c = record { u = c.u; v = c.v; at = c.at }

-- it with its u moved
abbrev pub held_u : (Float → Float) → Held → Held
held_u f c = record { u = f c.u; v = c.v; at = c.at }

unfoldable pub rows : List Held → Corners Vec3
rows t = map corner_of t

-- a row of five reals
abbrev pub five_reals : List Float → Corner Vec3
five_reals r = record { u = get_or r 0 nan; v = get_or r 1 nan; at = record { x = get_or r 2 nan; y = get_or r 3 nan; z = get_or r 4 nan } }

-- what is read past the last row
abbrev pub none : Corner Vec3
none = record { u = nan; v = nan; at = record { x = nan; y = nan; z = nan } }

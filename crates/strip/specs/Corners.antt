-- The strip of two rings and the rows of the wall between them. The sentences are those of 01, "Bands", where no other place is named.
use Rattle.std.specs.Prelude.{Bool, List, [], ◌∷◌, ◌++◌, map, reverse, Float, get_or}
use Rattle.numbers.specs.Position.{same}
use Rattle.numbers.specs.Rounded.{◌⊕◌}
use Rattle.numbers.specs.declared.math.Vec3.{Vec3}
use Rattle.surfaces.specs.declared.options.Resolved.{Resolved}
use Rattle.surfaces.specs.declared.patch.Patch.{Patch}
use Rattle.surfaces.specs.declared.surface.Surface.{Surface}
use Rattle.surfaces.specs.Points.{point_of}
use Rattle.tables.specs.Corners.{Corner, Corners, move_u}
use Rattle.tables.specs.Rows.{none}
use Rattle.bands.specs.Columns.{heights_on, heights_kept}

-- item 5 of "Where port and Rust part": "its three coordinates equal, as numbers, those of the corner kept before it"
abbrev pub same_at : Corner Vec3 → Corner Vec3 → Bool
same_at a b = same a.at b.at

-- a corner at another u
abbrev pub at_u : Float → Corner Vec3 → Corner Vec3
at_u u c = move_u (λ _. u) c

-- the heights of a wall between two rings, where `on` has those from one v to another: none where a ring has no corner
unfoldable pub heights_by : (Float → Float → List Float) → Corners Vec3 → Corners Vec3 → List Float
heights_by on [] upper = []
heights_by on (l ∷ lower) [] = []
heights_by on (l ∷ lower) (u ∷ upper) = on l.v u.v

abbrev pub heights_between : Surface → Resolved → Corners Vec3 → Corners Vec3 → List Float
heights_between surface options = heights_by (heights_on surface options)

-- a wall's row at u and v
abbrev pub row_on : Patch → Float → Float → Corner Vec3
row_on patch u v = record { u = u; v = v; at = point_of patch.frame patch.surface u v }

-- "positions are taken at the lower ring's first u"
abbrev pub wall_by : (Float → Float → List Float) → Patch → Corners Vec3 → Corners Vec3 → Corners Vec3
wall_by on patch lower upper = map (row_on patch (get_or lower 0 none).u) (heights_by on lower upper)

abbrev pub wall_between : Patch → Corners Vec3 → Corners Vec3 → Corners Vec3
wall_between patch = wall_by (heights_on patch.surface patch.options) patch

-- by the divisions kept: 02, N2 sets the last rung and changes no wall
abbrev pub wall_kept : Patch → Corners Vec3 → Corners Vec3 → Corners Vec3
wall_kept patch = wall_by (heights_kept patch.surface patch.options) patch

-- what comes behind the corner where the first wall begins: that wall, one period up, "the upper ring with u falling, the other wall"
abbrev pub far_side : Float → Corners Vec3 → Corners Vec3 → Corners Vec3
far_side end upper wall = map (at_u end) wall ++ (at_u end (get_or upper 0 none) ∷ (reverse upper ++ reverse wall))

-- `strip` of bands, with the rows of its wall at hand
unfoldable pub strip_with : Float → Corners Vec3 → Corners Vec3 → Corners Vec3 → Corners Vec3
strip_with period [] upper wall = reverse upper
strip_with period (l ∷ lower) [] wall = l ∷ lower
strip_with period (l ∷ lower) (u ∷ upper) wall = let end = l.u ⊕ period in (l ∷ lower) ++ (at_u end l ∷ far_side end (u ∷ upper) wall)

-- The boundary of a whole surface as rows of a table.
use Rattle.std.specs.Prelude.{ℕ, ◌≤◌, ◌≡◌, true, map, length, take}
use Rattle.numbers.specs.declared.math.Frame.{Frame}
use Rattle.numbers.specs.declared.math.Vec2.{Vec2}
use Rattle.numbers.specs.declared.math.Vec3.{Vec3}
use Rattle.surfaces.specs.declared.options.Resolved.{Resolved}
use Rattle.surfaces.specs.declared.surface.Surface.{Surface}
use Rattle.surfaces.specs.Domains.{domain_of}
use Rattle.tables.specs.Corners.{Corner, Corners, us, vs}
use Rattle.full_domain.specs.Boundary.{is_whole, whole_corners, position_of, FourCorners}

-- a corner with its position
abbrev pub placed_corner : Surface → Frame → Vec2 → Corner Vec3
placed_corner s f c = record { u = c.u; v = c.v; at = position_of s f c }

unfoldable pub whole_rows : Surface → Frame → Resolved → Corners Vec3
whole_rows s f o = map (placed_corner s f) (whole_corners s o)

-- 02, N2, of what is written: of a sphere or a torus, if there is room, the first rows have the four corners of the domain
abbrev pub RowsReach : Surface → Resolved → ℕ → Corners Vec3 → Type 0
RowsReach s o room r =
    is_whole s ≡ true → length (whole_corners s o) ≤ room
    → FourCorners (domain_of s) (us (take (length (whole_corners s o)) r)) (vs (take (length (whole_corners s o)) r))

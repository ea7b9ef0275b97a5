-- Two rings in corner tables.
use Rattle.std.specs.Prelude.{List, []}
use Rattle.numbers.specs.declared.math.Vec3.{Vec3}
use Rattle.tables.specs.Rows.{rows}
use Rattle.tables.specs.declared.corners.Corner.{Corner as Held}
use Rattle.bands.specs.Rings.{Face}

-- the rings alone: no hole has a part in their order
abbrev pub rings_of : List Held → List Held → Face Vec3
rings_of first later = record { first = rows first; later = rows later; holes = [] }

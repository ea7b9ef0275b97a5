-- What is measured of one loop of corners.
use Rattle.std.specs.Prelude.{Float}
use Rattle.numbers.specs.declared.math.Vec3.{Vec3}
use Rattle.loops.specs.Area.{area_of}
use Rattle.tables.specs.Corners.{Corners, us, vs}
use Rattle.closed_region.specs.Table.{box_of}
use Rattle.closed_region.specs.declared.boxes.Bounds.{Bounds}

-- 01, "Closed faces": `signed_area` of a loop's parameters
abbrev pub area_in : Corners Vec3 → Float
area_in r = area_of (us r) (vs r)

-- the box of a loop in u and v
abbrev pub box_in : Corners Vec3 → Bounds
box_in r = box_of (us r) (vs r)

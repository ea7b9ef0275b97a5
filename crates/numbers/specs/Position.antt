-- 01, "Programs and slips to shut out": two positions are taken as one when their coordinates are equal as numbers.
use Rattle.std.specs.Prelude.{Bool, ◌&&◌}
use Rattle.std.specs.Float.Ieee.{eq}
use Rattle.numbers.specs.declared.math.Vec3.{Vec3}

unfoldable pub same : Vec3 → Vec3 → Bool
same a b = eq a.x b.x && eq a.y b.y && eq a.z b.z

-- What is measured of a face's loops. 01, "Closed faces": "`net_wrap`".
use Rattle.std.specs.Prelude.{ℕ, ◌+◌, List, [], ◌∷◌, length, Option, Float}
use Rattle.std.specs.Int.{int_signum}
use Rattle.numbers.specs.declared.math.Vec3.{Vec3}
use Rattle.tables.specs.Corners.{Corners, us, vs}
use Rattle.loops.specs.Area.{area_of}
use Rattle.loops.specs.Wrap.{net_wrap}
use Rattle.loop_records.specs.declared.LoopRecord.{LoopRecord}

-- 01, "Files, lowest first": "start, count, wrap, travel, area", of a loop that begins at row `start` of the face
unfoldable pub record_of : Option Float → ℕ → Corners Vec3 → LoopRecord
record_of period start r = record {
  start = start;
  count = length r;
  wrap = net_wrap period (us r);
  travel = int_signum (net_wrap period (us r));
  area = area_of (us r) (vs r);
}

-- of loops one behind the other
unfoldable pub records_from : Option Float → ℕ → List (Corners Vec3) → List LoopRecord
records_from period start [] = []
records_from period start (r ∷ loops) = record_of period start r ∷ records_from period (start + length r) loops

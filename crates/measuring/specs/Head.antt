-- What the reals before the points say. The sentences are those of 01, "The face record".
use Rattle.std.specs.Prelude.{ℕ, ◌+◌, List, Float, get_or}
use Rattle.std.specs.Float.{nan}
use Rattle.numbers.specs.Frames.{frame_of}
use Rattle.numbers.specs.declared.math.Vec3.{Vec3}
use Rattle.numbers.specs.declared.math.Frame.{Frame}
use Rattle.surfaces.specs.declared.options.Resolved.{Resolved}

-- the vector in the reals i, i + 1 and i + 2; what is not there is a NaN
unfoldable pub vector_at : List Float → ℕ → Vec3
vector_at h i = record { x = get_or h i nan; y = get_or h (i + 1) nan; z = get_or h (i + 2) nan }

-- "0 to 8: origin, axis, reference direction"
unfoldable pub frame_at : List Float → Frame
frame_at h = frame_of (vector_at h 0) (vector_at h 3) (vector_at h 6)

-- "11: sag", "12: angle", and the minimum segments
unfoldable pub options_at : List Float → ℕ → Resolved
options_at h segments = record { sag = get_or h 11 nan; angle = get_or h 12 nan; min_edge_segments = segments }

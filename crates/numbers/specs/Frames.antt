-- A frame: an origin, an axis z and a reference direction x; y is z cross x.
use Rattle.std.specs.Prelude.{Float}
use Rattle.numbers.specs.Rounded.{◌⊗◌}
use Rattle.numbers.specs.Trig.{sincos_of}
use Rattle.numbers.specs.declared.math.Vec3.{Vec3}
use Rattle.numbers.specs.declared.math.Frame.{Frame}
use Rattle.numbers.specs.Vectors.{plus_of, minus_of, times_of, dot_of, cross_of, normalized_or, perpendicular_of, VZ}

-- the part of r across the unit axis z
abbrev pub across_of : Vec3 → Vec3 → Vec3
across_of r z = minus_of r (times_of z (dot_of r z))

abbrev pub frame_at : Vec3 → Vec3 → Vec3 → Frame
frame_at o z r = record { origin = o; axis = z; reference = normalized_or (across_of r z) (perpendicular_of z) }

unfoldable pub frame_of : Vec3 → Vec3 → Vec3 → Frame
unfolding normalized_or perpendicular_of
frame_of o a r = frame_at o (normalized_or a VZ) r

abbrev pub y_of : Frame → Vec3
y_of f = cross_of f.axis f.reference

unfoldable pub polar_of : Frame → Float → Float → Vec3
unfolding sincos_of
polar_of f r t = plus_of (plus_of f.origin (times_of f.reference (r ⊗ (sincos_of t).cos))) (times_of (y_of f) (r ⊗ (sincos_of t).sin))

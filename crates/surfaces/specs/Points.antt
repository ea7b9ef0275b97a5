-- The surface points: 01, "The surface points", after ISO 10303-42, with y = axis cross reference and z = axis. Each operation is rounded once, in the order of `Surface::point_at`.
use Rattle.std.specs.Prelude.{Float}
use Rattle.numbers.specs.Rounded.{◌⊕◌, ◌⊗◌}
use Rattle.numbers.specs.Trig.{sincos_of, tan_of}
use Rattle.numbers.specs.Vectors.{plus_of, times_of}
use Rattle.numbers.specs.Frames.{y_of, polar_of}
use Rattle.numbers.specs.declared.math.Vec3.{Vec3}
use Rattle.numbers.specs.declared.math.Frame.{Frame}
use Rattle.surfaces.specs.declared.surface.Surface.{Surface}
use Rattle.surfaces.specs.declared.surface.Surface.TheVariants.{Plane, Cylinder, Cone, Sphere, Torus}

-- C + u x + v y
unfoldable pub plane_of : Frame → Float → Float → Vec3
plane_of f u v = plus_of (plus_of f.origin (times_of f.reference u)) (times_of (y_of f) v)

-- C + r (cos u x + sin u y) + h z
unfoldable pub raised_of : Frame → Float → Float → Float → Vec3
raised_of f r u h = plus_of (polar_of f r u) (times_of f.axis h)

-- "sphere R cos v and R sin v"
unfoldable pub sphere_of : Frame → Float → Float → Float → Vec3
sphere_of f R u v = raised_of f (R ⊗ (sincos_of v).cos) u (R ⊗ (sincos_of v).sin)

-- "torus R + r cos v and r sin v"
unfoldable pub torus_of : Frame → Float → Float → Float → Float → Vec3
torus_of f R r u v = raised_of f (R ⊕ r ⊗ (sincos_of v).cos) u (r ⊗ (sincos_of v).sin)

-- "cylinder C + R(cos u x + sin u y) + v z; cone the same with R + v tan a"
unfoldable pub point_of : Frame → Surface → Float → Float → Vec3
point_of f Plane u v = plane_of f u v
point_of f (Cylinder R) u v = raised_of f R u v
point_of f (Cone R a) u v = raised_of f (R ⊕ v ⊗ tan_of a) u v
point_of f (Sphere R) u v = sphere_of f R u v
point_of f (Torus R r) u v = torus_of f R r u v

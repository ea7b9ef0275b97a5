-- How many steps `v_steps` and `direction_steps` of `face.rs` give.
use Rattle.std.specs.Prelude.{ℕ, max, Float, Option, Some, None}
use Rattle.numbers.specs.Constants.{10^-3}
use Rattle.numbers.specs.Rounded.{◌⊕◌, ◌⊖◌, ◌⊗◌}
use Rattle.numbers.specs.Order.{abs_of, max_of}
use Rattle.numbers.specs.Trig.{sincos_of}
use Rattle.surfaces.specs.declared.options.Resolved.{Resolved}
use Rattle.surfaces.specs.declared.steps.Axis.{Axis}
use Rattle.surfaces.specs.declared.steps.Axis.TheVariants.{U, «V»}
use Rattle.surfaces.specs.declared.surface.Surface.{Surface}
use Rattle.surfaces.specs.declared.surface.Surface.TheVariants.{Plane, Cylinder, Cone, Sphere, Torus}
use Rattle.surfaces.specs.Segments.{segments_of}

-- a wall is straight on a plane, cylinder and cone, and an arc of the radius or the minor radius on a sphere and a torus
unfoldable pub v_steps_of : Surface → Float → Float → Resolved → ℕ
v_steps_of Plane from to o = max o.min_edge_segments 1
v_steps_of (Cylinder R) from to o = max o.min_edge_segments 1
v_steps_of (Cone R a) from to o = max o.min_edge_segments 1
v_steps_of (Sphere R) from to o = segments_of o R (to ⊖ from)
v_steps_of (Torus R r) from to o = segments_of o r (to ⊖ from)

-- steps along v, where that is an arc: of the radius of a sphere, and of the minor radius of a torus
abbrev pub arc_steps : Surface → Float → Resolved → Option ℕ
arc_steps Plane span o = None
arc_steps (Cylinder R) span o = None
arc_steps (Cone R a) span o = None
arc_steps (Sphere R) span o = Some (segments_of o R span)
arc_steps (Torus R r) span o = Some (segments_of o r span)

-- 01, "Whole surfaces": sphere and torus only. Nobody asks for the other kinds, whose answer is 1 here.
abbrev pub around_steps : Surface → Float → Float → Resolved → ℕ
around_steps (Sphere R) span v o = segments_of o (R ⊗ max_of (abs_of (sincos_of v).cos) 10^-3) span
around_steps (Torus R r) span v o = segments_of o (R ⊕ abs_of r) span
around_steps Plane span v o = 1
around_steps (Cylinder R) span v o = 1
around_steps (Cone R a) span v o = 1

abbrev pub along_steps : Surface → Float → Resolved → ℕ
along_steps (Sphere R) span o = segments_of o R span
along_steps (Torus R r) span o = segments_of o r span
along_steps Plane span o = 1
along_steps (Cylinder R) span o = 1
along_steps (Cone R a) span o = 1

-- from lo to hi in u or in v, where the other parameter is `other`
unfoldable pub direction_steps_of : Surface → Axis → Float → Float → Float → Resolved → ℕ
direction_steps_of s U lo hi other o = around_steps s (hi ⊖ lo) other o
direction_steps_of s «V» lo hi other o = along_steps s (hi ⊖ lo) o

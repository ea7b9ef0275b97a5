-- Steps along v by those of an arc, where there is one.
use Rattle.std.proofs.Common.{◌≡◌, max, refl}
use Rattle.std.specs.Prelude.{Float, unwrap_or}
use Rattle.numbers.specs.Rounded.{◌⊖◌}
use Rattle.surfaces.specs.declared.options.Resolved.{Resolved}
use Rattle.surfaces.specs.declared.surface.Surface.{Surface}
use Rattle.surfaces.specs.declared.surface.Surface.TheVariants.{Plane, Cylinder, Cone, Sphere, Torus}
use Rattle.surfaces.specs.Steps.{v_steps_of, along_steps, arc_steps}

pub wall_by_arc : (s : Surface) (from to : Float) (o : Resolved) → v_steps_of s from to o ≡ unwrap_or (arc_steps s (to ⊖ from) o) (max o.min_edge_segments 1)
unfolding v_steps_of
wall_by_arc Plane from to o = refl
wall_by_arc (Cylinder R) from to o = refl
wall_by_arc (Cone R a) from to o = refl
wall_by_arc (Sphere R) from to o = refl
wall_by_arc (Torus R r) from to o = refl

pub along_by_arc : (s : Surface) (span : Float) (o : Resolved) → along_steps s span o ≡ unwrap_or (arc_steps s span o) 1
along_by_arc Plane span o = refl
along_by_arc (Cylinder R) span o = refl
along_by_arc (Cone R a) span o = refl
along_by_arc (Sphere R) span o = refl
along_by_arc (Torus R r) span o = refl

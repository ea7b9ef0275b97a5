-- A surface, its tolerances and its domain as they cross to another language.
use Rattle.std.specs.Prelude.{ℕ, zero, suc, Bool, cond, Float, Option, Some, None}
use Rattle.std.specs.Float.Ieee.{eq}
use Rattle.numbers.specs.Constants.{plus_zero}
use Rattle.surfaces.specs.declared.options.Resolved.{Resolved}
use Rattle.surfaces.specs.Domains.{period_length}
use Rattle.surfaces.specs.declared.steps.Axis.{Axis}
use Rattle.surfaces.specs.declared.steps.Axis.TheVariants.{U, «V»}
use Rattle.surfaces.specs.declared.surface.Domain.{Domain}
use Rattle.surfaces.specs.declared.surface.Surface.{Surface}
use Rattle.surfaces.specs.declared.surface.Surface.TheVariants.{Plane, Cylinder, Cone, Sphere, Torus}
use Rattle.compared.specs.declared.of_surfaces.DomainEnds.{DomainEnds}

-- 01, "The face record": kind (0 plane, 1 cylinder, 2 cone, 3 sphere, 4 torus), with its two sizes; what is over 4 counts as a torus
abbrev pub surface_of : ℕ → Float → Float → Surface
surface_of zero a b = Plane
surface_of (suc zero) a b = Cylinder a
surface_of (suc (suc zero)) a b = Cone a b
surface_of (suc (suc (suc zero))) a b = Sphere a
surface_of (suc (suc (suc (suc k)))) a b = Torus a b

abbrev pub axis_of : Bool → Axis
axis_of along = cond along U «V»

abbrev pub resolved_of : Float → Float → ℕ → Resolved
resolved_of s a n = record { sag = s; angle = a; min_edge_segments = n }

abbrev pub period_of : Float → Option Float
period_of p = cond (eq p plus_zero) None (Some p)

abbrev pub ends_of : Domain → DomainEnds
ends_of d =
    record
    { ulo = d.u.lo; uhi = d.u.hi; vlo = d.v.lo; vhi = d.v.hi; uperiod = period_length d.u_period; vperiod = period_length d.v_period }

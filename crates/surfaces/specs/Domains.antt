-- The parameter domain of a surface and its periods, as `Surface::domain` has them.
use Rattle.std.specs.Prelude.{cond, Option, Some, None, unwrap_or, from_bits, Float}
use Rattle.std.specs.Float.{binary64}
use Rattle.std.specs.Float.Ieee.{neg, lt}
use Rattle.numbers.specs.Constants.{plus_zero, H, TAU, 10^-12}
use Rattle.numbers.specs.Rounded.{◌⊘◌}
use Rattle.numbers.specs.Order.{abs_of}
use Rattle.numbers.specs.Trig.{tan_of}
use Rattle.numbers.specs.declared.math.Interval.{Interval}
use Rattle.surfaces.specs.declared.surface.Surface.{Surface}
use Rattle.surfaces.specs.declared.surface.Surface.TheVariants.{Plane, Cylinder, Cone, Sphere, Torus}
use Rattle.surfaces.specs.declared.surface.Domain.{Domain}

-- 1e12, for an end where there is none
abbrev pub far : Float
far = from_bits binary64 0x426d_1a94_a200_0000

abbrev pub between : Float → Float → Interval
between a b = record { lo = a; hi = b }

abbrev pub unbounded : Interval
unbounded = between (neg far) far

abbrev pub full_turn : Interval
full_turn = between plus_zero TAU

-- 01, "The surface points": the period is TAU in u for all but the plane, and in v for the torus
unfoldable pub u_period : Surface → Option Float
u_period Plane = None
u_period (Cylinder R) = Some TAU
u_period (Cone R a) = Some TAU
u_period (Sphere R) = Some TAU
u_period (Torus R r) = Some TAU

unfoldable pub v_period : Surface → Option Float
v_period Plane = None
v_period (Cylinder R) = None
v_period (Cone R a) = None
v_period (Sphere R) = None
v_period (Torus R r) = Some TAU

-- a period as a real: 0 where a parameter does not come round
abbrev pub period_length : Option Float → Float
period_length p = unwrap_or p plus_zero

abbrev pub u_range : Surface → Interval
u_range Plane = unbounded
u_range (Cylinder R) = full_turn
u_range (Cone R a) = full_turn
u_range (Sphere R) = full_turn
u_range (Torus R r) = full_turn

-- t = tan a: the apex is at (-R) / t, below where the cone opens upward and above where it opens downward
unfoldable pub cone_range : Float → Float → Interval
cone_range R t =
    let apex = neg R ⊘ t in
    cond (lt 10^-12 (abs_of t)) (cond (lt plus_zero t) (between apex far) (between (neg far) apex)) unbounded

abbrev pub v_range : Surface → Interval
v_range Plane = unbounded
v_range (Cylinder R) = unbounded
v_range (Cone R a) = cone_range R (tan_of a)
v_range (Sphere R) = between (neg H) H
v_range (Torus R r) = full_turn

unfoldable pub domain_of : Surface → Domain
domain_of s = record { u = u_range s; v = v_range s; u_period = u_period s; v_period = v_period s }

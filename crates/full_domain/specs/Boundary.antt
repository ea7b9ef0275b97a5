-- 01, "Whole surfaces": "Sphere and torus only; each direction has 3 to 256 steps, so at most 1,024 corners". The corners stand in the order of
-- `full_domain_loop` of face.rs: four sides, of which each leaves its last corner to the next.
use Rattle.std.specs.Prelude.{ℕ, ◌+◌, ◌*◌, ◌<◌, min, max, ◌≡◌, Bool, true, false, cond, length, get_or, drop, leb, Float, Option, Some, None}
use mathlib.Core.List.{List, [], ◌++◌, map, reverse, drop_last}
use Rattle.std.specs.Float.{nan}
use Rattle.std.specs.Float.Ieee.{le}
use Rattle.numbers.specs.Constants.{plus_zero, half}
use Rattle.numbers.specs.Rounded.{◌⊕◌, ◌⊗◌}
use Rattle.numbers.specs.declared.math.Frame.{Frame}
use Rattle.numbers.specs.declared.math.Interval.{Interval}
use Rattle.numbers.specs.declared.math.Vec2.{Vec2}
use Rattle.numbers.specs.declared.math.Vec3.{Vec3}
use Rattle.surfaces.specs.declared.options.Resolved.{Resolved}
use Rattle.surfaces.specs.declared.steps.Axis.{Axis}
use Rattle.surfaces.specs.declared.steps.Axis.TheVariants.{U, «V»}
use Rattle.surfaces.specs.declared.surface.Domain.{Domain}
use Rattle.surfaces.specs.declared.surface.Surface.{Surface}
use Rattle.surfaces.specs.declared.surface.Surface.TheVariants.{Plane, Cylinder, Cone, Sphere, Torus}
use Rattle.surfaces.specs.Domains.{domain_of}
use Rattle.surfaces.specs.Points.{point_of}
use Rattle.surfaces.specs.Rungs.{rungs, EndsOn, EndWritten}
use Rattle.surfaces.specs.Steps.{direction_steps_of}
use Rattle.loops.specs.Area.{area_of}

-- "Sphere and torus only"
abbrev pub is_whole : Surface → Bool
is_whole Plane = false
is_whole (Cylinder R) = false
is_whole (Cone R a) = false
is_whole (Sphere R) = true
is_whole (Torus R r) = true

-- "each direction has 3 to 256 steps"
abbrev pub clamped : ℕ → ℕ
clamped n = min (max n 3) 256

abbrev pub centre : Interval → Float
centre i = half ⊗ (i.lo ⊕ i.hi)

abbrev pub range_of : Axis → Surface → Interval
range_of U s = (domain_of s).u
range_of «V» s = (domain_of s).v

abbrev pub other_than : Axis → Axis
other_than U = «V»
other_than «V» = U

-- the steps of each direction are those half way along the other
unfoldable pub steps_of : Axis → Surface → Resolved → ℕ
steps_of a s o = clamped (direction_steps_of s a (range_of a s).lo (range_of a s).hi (centre (range_of (other_than a) s)) o)

unfoldable pub rungs_of : Axis → Surface → Resolved → List Float
rungs_of a s o = rungs (range_of a s).lo (range_of a s).hi (steps_of a s o)

-- 02, N2, "Every caller's promise says so": k rungs of a direction, and then its upper bound
abbrev pub RungsEnd : Axis → Surface → Resolved → ℕ → Type 0
RungsEnd a s o k = EndsOn (range_of a s).lo (range_of a s).hi k (rungs_of a s o)

-- and of the array that takes the rungs: the place of the last one holds the upper bound, if there is such a place
abbrev pub RungsWritten : Axis → Surface → Resolved → List Float → Type 0
RungsWritten a s o out = EndWritten (range_of a s).lo (range_of a s).hi (steps_of a s o) 0 out

-- of a sphere or a torus, n is twice k + m, where the rungs of u are k and then the bound, and those of v are m and then the bound
abbrev pub CountEnds : Surface → Resolved → ℕ → Type 0
CountEnds s o n = is_whole s ≡ true → (k : ℕ) × (m : ℕ) × (n ≡ 2 * (k + m)) × RungsEnd U s o k × RungsEnd «V» s o m

abbrev pub corner : Float → Float → Vec2
corner a b = record { u = a; v = b }

-- a side runs along one direction, at one value of the other
abbrev pub corner_along : Axis → Float → Float → Vec2
corner_along U fixed = λ u. corner u fixed
corner_along «V» fixed = λ v. corner fixed v

-- the rungs of a side in the order of its corners, less its last, which begins the next side
abbrev pub walked : Bool → List Float → List Float
walked back rs = cond back (reverse (drop 1 rs)) (drop_last rs)

abbrev pub side : Axis → Float → Bool → List Float → List Vec2
side a fixed back rs = map (corner_along a fixed) (walked back rs)

-- v at its low end, u at its high end, v at its high end, u at its low end; the last two are read backward
unfoldable pub sides : List Float → List Float → Interval → Interval → List Vec2
sides us vs ui vi = side U vi.lo false us ++ (side «V» ui.hi false vs ++ (side U vi.hi true us ++ side «V» ui.lo true vs))

unfoldable pub sides_of : Surface → Resolved → List Vec2
sides_of s o = sides (rungs_of U s o) (rungs_of «V» s o) (domain_of s).u (domain_of s).v

-- the corners of a whole surface; none for the other kinds
unfoldable pub whole_corners : Surface → Resolved → List Vec2
whole_corners s o = cond (is_whole s) (sides_of s o) []

-- `wrap_u` and `wrap_v`: where a parameter comes round, its far end is the near one, so that the seam closes to the bit
unfoldable pub wrap_of : Option Float → Interval → Float → Float
wrap_of None i t = t
wrap_of (Some p) i t = cond (le i.hi t) i.lo t

unfoldable pub position_of : Surface → Frame → Vec2 → Vec3
position_of s f c = point_of f s (wrap_of (domain_of s).u_period (domain_of s).u c.u) (wrap_of (domain_of s).v_period (domain_of s).v c.v)

abbrev pub us_of : List Vec2 → List Float
us_of cs = map (λ (c : Vec2). c.u) cs

abbrev pub vs_of : List Vec2 → List Float
vs_of cs = map (λ (c : Vec2). c.v) cs

unfoldable pub whole_positions : Surface → Frame → Resolved → List Vec3
whole_positions s f o = map (position_of s f) (whole_corners s o)

unfoldable pub whole_area : Surface → Resolved → Float
whole_area s o = area_of (us_of (whole_corners s o)) (vs_of (whole_corners s o))

-- what is answered of a table of n rows: the area, and 0.0 where they are too few for the corners
abbrev pub area_within : ℕ → Surface → Resolved → Float
area_within n s o = cond (leb (length (whole_corners s o)) n) (whole_area s o) plus_zero

-- ---- the corners of the domain, among those of the boundary

-- a and b stand at one place of two lists
abbrev pub Stands : Float → Float → List Float → List Float → Type 0
Stands a b us vs = (k : ℕ) × (k < length us) × (k < length vs) × (get_or us k nan ≡ a) × (get_or vs k nan ≡ b)

-- 02, N2, of the u and the v of corners: the four corners of the domain are among them, to the bit
pub record FourCorners (d : Domain) (us vs : List Float) : Type 0 where
  pub low_low : Stands d.u.lo d.v.lo us vs
  pub high_low : Stands d.u.hi d.v.lo us vs
  pub high_high : Stands d.u.hi d.v.hi us vs
  pub low_high : Stands d.u.lo d.v.hi us vs

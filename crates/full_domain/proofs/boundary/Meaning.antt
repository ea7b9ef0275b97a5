-- What callers may rely on: how many corners there are at most, and that the seam closes.
use Prim.Native.Nat.{ℕ, ◌≤◌}
use mathlib.Core.Path.{◌≡◌, refl, ap}
use mathlib.Core.Bool.{Bool, true, false, cond, false≢true}
use mathlib.Core.List.{[]}
use native.Mathlib.Omega.{arith}
use borrow.Author.Tests.{le-leb}
use lib.ListN.{length}
use lib.Ieee.{Float, of_bits, le}
use Rattle.numbers.specs.Constants.{plus_zero}
use Rattle.numbers.specs.declared.math.Frame.{Frame}
use Rattle.surfaces.specs.declared.options.Resolved.{Resolved}
use Rattle.surfaces.specs.declared.steps.Axis.TheVariants.{U, «V»}
use Rattle.surfaces.specs.declared.surface.Surface.{Surface}
use Rattle.surfaces.specs.declared.surface.Surface.TheVariants.{Plane, Cylinder, Cone, Sphere, Torus}
use Rattle.surfaces.specs.Domains.{domain_of, u_period}
use Rattle.full_domain.specs.Boundary.{is_whole, corner, wrap_of, position_of, sides_of, whole_corners, whole_area, area_within}
use Rattle.full_domain.proofs.boundary.Sides.{few, length_all}

-- "so at most 1,024 corners"
pub few-corners : (s : Surface) (o : Resolved) → length (whole_corners s o) ≤ 1024
unfolding whole_corners
few-corners s o = go (is_whole s)
  where
    go : (t : Bool) → length (cond t (sides_of s o) []) ≤ 1024
    go true = let n = length_all s o _ _ refl refl in let u = few U s o in let v = few «V» s o in omega arith
    go false = omega arith

-- where they fit, the area is that of them all
pub area-fits : (s : Surface) (o : Resolved) (n : ℕ) → length (whole_corners s o) ≤ n → area_within n s o ≡ whole_area s o
area-fits s o n h = ap (λ (b : Bool). cond b (whole_area s o) plus_zero) (le-leb (length (whole_corners s o)) n h)

-- the far end of u has the positions of its near end, to the bit
pub seam_closes : (s : Surface) (f : Frame) (v : Float) → is_whole s ≡ true → position_of s f (corner (domain_of s).u.hi v) ≡ position_of s f (corner (domain_of s).u.lo v)
unfolding position_of wrap_of domain_of u_period le of_bits
seam_closes Plane f v h = absurd (false≢true h)
seam_closes (Cylinder R) f v h = absurd (false≢true h)
seam_closes (Cone R a) f v h = absurd (false≢true h)
seam_closes (Sphere R) f v h = refl
seam_closes (Torus R r) f v h = refl

-- Corners in parallel lists, one for each parameter and each coordinate, and what a band takes from a surface.
use Rattle.std.specs.Prelude.{ℕ, ◌≡◌, Bool, List, Float}
use Rattle.numbers.specs.Position.{same}
use Rattle.numbers.specs.declared.math.Vec3.{Vec3}
use Rattle.numbers.specs.declared.math.Frame.{Frame}
use Rattle.surfaces.specs.declared.options.Resolved.{Resolved}
use Rattle.surfaces.specs.declared.patch.Patch.{Patch}
use Rattle.surfaces.specs.declared.surface.Surface.{Surface}
use Rattle.surfaces.specs.Domains.{v_period}
use Rattle.surfaces.specs.Points.{point_of}
use Rattle.surfaces.specs.Rungs.{kept_divisions, rungs}
use Rattle.surfaces.specs.Steps.{v_steps_of}
use Rattle.tables.specs.Corners.{Corners, us, vs}
pub use Rattle.tables.specs.Corners.{xs, ys, zs}
use Rattle.bands.specs.Strip.{Setting, ladder, heights}

-- five lists hold the corners r
pub record Columns (r : Corners Vec3) (u v x y z : List Float) : Type 0 where
  pub u_is : u ≡ us r
  pub v_is : v ≡ vs r
  pub x_is : x ≡ xs r
  pub y_is : y ≡ ys r
  pub z_is : z ≡ zs r

-- on a surface: how many steps lie between two v, the ladder between them, and the v of a wall
abbrev pub steps_on : Surface → Resolved → Float → Float → ℕ
steps_on surface options lo hi = v_steps_of surface lo hi options

abbrev pub ladder_on : Surface → Resolved → Float → Float → List Float
ladder_on surface options = ladder rungs (steps_on surface options)

abbrev pub heights_on : Surface → Resolved → Float → Float → List Float
heights_on surface options = heights rungs (steps_on surface options)

-- the v of a wall by the divisions kept: those that it had before 02, N2
abbrev pub heights_kept : Surface → Resolved → Float → Float → List Float
heights_kept surface options = heights kept_divisions (steps_on surface options)

-- a band on a surface, with given rungs: period is that of u
abbrev pub setting_with : (Float → Float → ℕ → List Float) → Frame → Surface → Resolved → Float → Bool → Setting Vec3
setting_with rungs_between frame surface options period sense = record {
  period = period;
  v_period = v_period surface;
  sense = sense;
  same = same;
  point_at = point_of frame surface;
  rungs = rungs_between;
  steps = steps_on surface options;
}

-- with the rungs of `merge_even`
abbrev pub setting_of : Frame → Surface → Resolved → Float → Bool → Setting Vec3
setting_of = setting_with rungs

-- the same, of a patch
abbrev pub setting_on : Patch → Float → Bool → Setting Vec3
setting_on patch period sense = setting_of patch.frame patch.surface patch.options period sense

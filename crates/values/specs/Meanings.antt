-- What is stated of the definitions of `numbers`, `surfaces`, `full_domain` and `bands` beyond the values that document 01 stars: listed here so that a proof of it cannot be deleted alone.
use Rattle.std.specs.Prelude.{ℕ, ◌^◌, ◌≤◌, ◌≡◌, Bool, true, false, T, Float, List}
use Rattle.std.specs.Float.Ieee.{le}
use Rattle.numbers.specs.WholeNumbers.{RoundMeans, FloorMeans, CeilMeans}
use Rattle.numbers.specs.Nearest.{SqrtMeans}
use Rattle.numbers.specs.Multiples.{ExactMultiples}
use Rattle.numbers.specs.Units.{UnitsExact, UnitsOrder, UnitsSum, RoundingError, SumError}
use Rattle.numbers.specs.Within.{Within}
use Rattle.numbers.specs.declared.math.Frame.{Frame}
use Rattle.numbers.specs.declared.math.Vec3.{Vec3}
use Rattle.surfaces.specs.Rungs.{divisions, slack_of, kept, kept_divisions}
use Rattle.surfaces.specs.Sorting.{sorted, rising}
use Rattle.surfaces.specs.declared.options.Resolved.{Resolved}
use Rattle.surfaces.specs.declared.steps.Axis.{Axis}
use Rattle.surfaces.specs.declared.surface.Surface.{Surface}
use Rattle.full_domain.specs.Boundary.{is_whole, rungs_of}
use Rattle.tables.specs.Corners.{us}
use Rattle.tables.specs.Moves.{moved_by}
use Rattle.rings.specs.Starts.{bare, later_for, later_by}
use Rattle.bands.specs.Band.{outer}
use Rattle.bands.specs.Columns.{setting_of, setting_with}
use Rattle.bands.specs.Given.{Given}
use Rattle.bands.specs.Rings.{Face, across_seam, reseam}

pub record Meanings : Type 0 where
  -- the whole number that the name says, by its distance
  pub round : RoundMeans
  pub floor : FloorMeans
  pub ceil : CeilMeans
  -- the root, nearer than every other real
  pub sqrt : SqrtMeans
  -- sin and cos, exact at whole multiples of H
  pub sin_cos : ExactMultiples
  -- reals counted in units of 2 ^ -1074: exactly, in order, and summed wherever nothing is rounded; and how far off one rounding is
  pub units : UnitsExact
  pub units_order : UnitsOrder
  pub units_sum : UnitsSum
  pub rounding_error : RoundingError
  pub sum_error : SumError
  -- The Rust sorts the divisions of `merge_even` before it drops those that are near. Up from one bound to another it changes nothing, rounding included.
  pub merge_even : (lo hi : Float) (n : ℕ) → Within (2 ^ 1000) lo → Within (2 ^ 1000) hi → T (le lo hi) → n ≤ 2 ^ 53
      → kept (slack_of lo hi) (sorted (divisions lo hi n)) ≡ kept_divisions lo hi n
  -- With its end set (02, N2) too, on a whole surface, no rung of either direction is below the one before it.
  pub whole_rungs : (surface : Surface) (options : Resolved) → is_whole surface ≡ true → (axis : Axis) → T (rising (rungs_of axis surface options))
  -- 02, N2, moves no band: with the divisions kept for its rungs, as before, each has the same outer loop. The holes take no rung.
  pub bands : (frame : Frame) (surface : Surface) (options : Resolved) (period : Float) (sense : Bool) (given : Given Vec3)
      → outer (setting_of frame surface options period sense) given ≡ outer (setting_with kept_divisions frame surface options period sense) given
  -- What is tried on the u of a later ring alone is what a ring of corners comes to that carry nothing else.
  pub later_bare : (period cut : Float) (u : List Float) → us (later_for period cut (bare u)) ≡ later_by (λ u. u) moved_by period cut u
  -- Rings are cut anew (02, N4) only where a hole lies across the seam: elsewhere `reseam` leaves both as they are.
  pub clear_bands : (period : Float) (face : Face Vec3) → across_seam period face ≡ false
      → ((reseam period face).first ≡ face.first) × ((reseam period face).later ≡ face.later)

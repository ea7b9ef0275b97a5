-- A ring cut anew, as the code turns each of its slices: the point is one of its open points, so no ring is too short for it.
use Prim.Native.Nat.{◌-◌, ◌≤◌}
use mathlib.Core.Path.{◌≡◌}
use native.Mathlib.Omega.{arith}
use lib.Ieee.{Float}
use lib.ListN.{length, length-map}
use Rattle.rings.specs.Choices.{first_open_past}
use Rattle.rings.specs.Turns.{recut_at}
use Rattle.rings.proofs.Lengths.{past_open}
use Rattle.rings.proofs.Turning.{recut_open}
use Rattle.tables.specs.Corners.{Corner, Corners, us}
use Rattle.bands.specs.Rings.{recut}
use Rattle.rings.specs.Starts.{raised}

module _ {A : Type 0} (cut : Float) (r : Corners A) where
  pub at_open_point : first_open_past cut (us r) ≤ length r - 2
  at_open_point = let h = past_open cut (us r) in let e = length-map r (λ (c : Corner A). c.u) in omega arith

  pub recut_is : (period : Float) → recut period cut r ≡ recut_at (raised period) (first_open_past cut (us r)) r
  unfolding recut
  recut_is period = recut_open (raised period) (first_open_past cut (us r)) r at_open_point

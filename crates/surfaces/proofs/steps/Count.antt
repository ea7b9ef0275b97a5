-- How many steps a wall can have.
use Rattle.std.proofs.Common.{ℕ, ◌*◌, ◌≤◌, max, arith}
use lib.Ieee.{Float}
use Rattle.numbers.specs.Rounded.{◌⊖◌}
use Rattle.numbers.specs.Within.{Within, Held}
use Rattle.surfaces.specs.declared.options.Resolved.{Resolved}
use Rattle.surfaces.specs.declared.surface.Surface.{Surface}
use Rattle.surfaces.specs.declared.surface.Surface.TheVariants.{Plane, Cylinder, Cone, Sphere, Torus}
use Rattle.surfaces.specs.Steps.{v_steps_of}
use Rattle.surfaces.proofs.options.Count.{segments-few}

module _ (B : ℕ) (from to : Float) (o : Resolved) where
  straight : max o.min_edge_segments 1 ≤ max (max (B * 1000) o.min_edge_segments) 1
  straight = omega arith

  -- two v that differ by at most B are at most 1000 B steps apart, unless more are asked for
  pub v-steps-few : (s : Surface) → Held (B * 1000) → Within B (to ⊖ from) → v_steps_of s from to o ≤ max (max (B * 1000) o.min_edge_segments) 1
  unfolding v_steps_of
  v-steps-few Plane h w = straight
  v-steps-few (Cylinder R) h w = straight
  v-steps-few (Cone R a) h w = straight
  v-steps-few (Sphere R) h w = segments-few B o R (to ⊖ from) h w
  v-steps-few (Torus R r) h w = segments-few B o r (to ⊖ from) h w

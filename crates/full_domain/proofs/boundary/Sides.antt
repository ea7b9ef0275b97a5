-- The rungs of each direction and the sides along them: how many there are, and how they are written.
use Prim.Native.Nat.{ℕ, ◌+◌, ◌-◌, ◌*◌, ◌≤◌, ◌<◌}
use mathlib.Core.Path.{◌≡◌, sym, ap, ◌∙◌}
use mathlib.Core.Bool.{Bool, true, false}
use mathlib.Core.List.{List}
use native.Mathlib.Omega.{arith}
use lib.ListN.{length, drop, length-append, length-drop, length-map, length-reverse}
use lib.Seq.{sets}
use lib.Ieee.{Float}
use Rattle.lists.proofs.Elements.{length-drop_last}
use Rattle.numbers.specs.declared.math.Interval.{Interval}
use Rattle.surfaces.specs.declared.options.Resolved.{Resolved}
use Rattle.surfaces.specs.declared.steps.Axis.{Axis}
use Rattle.surfaces.specs.declared.steps.Axis.TheVariants.{U, «V»}
use Rattle.surfaces.specs.declared.surface.Surface.{Surface}
use Rattle.surfaces.specs.Domains.{domain_of}
use Rattle.surfaces.specs.Rungs.{rungs}
use Rattle.surfaces.proofs.knots.Rungs.{rungs-few, rungs_some, rungs-end, end-written}
use Rattle.full_domain.specs.Boundary.{is_whole, clamped, range_of, steps_of, rungs_of, RungsEnd, RungsWritten, walked, sides, sides_of, whole_corners}

-- ---- the rungs of a direction

pub few-steps : (n : ℕ) → clamped n ≤ 256
few-steps n = omega arith

module _ (a : Axis) (s : Surface) (o : Resolved) where
  pub few : length (rungs_of a s o) ≤ 257
  unfolding rungs_of steps_of
  few = let h = rungs-few (range_of a s).lo (range_of a s).hi (steps_of a s o) in omega arith

  pub some : 0 < length (rungs_of a s o)
  unfolding rungs_of
  some = rungs_some (range_of a s).lo (range_of a s).hi (steps_of a s o)

  -- i is the range of the direction, n its steps
  module _ (i : Interval) (n : ℕ) (range : i ≡ range_of a s) (steps : n ≡ steps_of a s o) where
    pub counted : (r : ℕ) → r ≡ length (rungs i.lo i.hi n) - 1 → ((r ≡ length (rungs_of a s o) - 1) × (r ≤ 256)) × RungsEnd a s o r
    unfolding rungs_of
    counted r e =
        let h : r ≡ length (rungs_of a s o) - 1 = rw (range, steps) at e in
        ((h, let f = few in omega arith), rungs-end (range_of a s).lo (range_of a s).hi (steps_of a s o) r h)

    pub laid : (z r : List Float) → r ≡ sets z 0 (drop 0 (rungs i.lo i.hi n)) → (r ≡ sets z 0 (rungs_of a s o)) × RungsWritten a s o r
    unfolding rungs_of
    laid z r e =
        let h : r ≡ sets z 0 (rungs_of a s o) = rw (range, steps) at e in
        (h, end-written (range_of a s).lo (range_of a s).hi (steps_of a s o) 0 z r h)

-- ---- the sides

pub length-walked : (back : Bool) (rs : List Float) → length (walked back rs) ≡ length rs - 1
length-walked true rs = length-reverse (drop 1 rs) ∙ length-drop 1 rs
length-walked false rs = length-drop_last rs

pub length-sides : (us vs : List Float) (ui vi : Interval) → length (sides us vs ui vi) ≡ 2 * (length us - 1 + (length vs - 1))
unfolding sides
length-sides us vs ui vi =
    simp (length-append, length-map) (omega (arith, length-walked false us, length-walked false vs, length-walked true us, length-walked true vs))

module _ (s : Surface) (o : Resolved) where
  pub length_all : (su sv : ℕ) → su ≡ length (rungs_of U s o) - 1 → sv ≡ length (rungs_of «V» s o) - 1 → 2 * (su + sv) ≡ length (sides_of s o)
  unfolding sides_of
  length_all su sv p q = let l = length-sides (rungs_of U s o) (rungs_of «V» s o) (domain_of s).u (domain_of s).v in omega arith

  pub corners_whole : is_whole s ≡ true → whole_corners s o ≡ sides_of s o
  unfolding whole_corners
  corners_whole e = rw e

  pub count_whole : (t : Bool) (su sv : ℕ) → t ≡ is_whole s → t ≡ true → su ≡ length (rungs_of U s o) - 1 → sv ≡ length (rungs_of «V» s o) - 1
      → 2 * (su + sv) ≡ length (whole_corners s o)
  count_whole t su sv e h p q = length_all su sv p q ∙ ap length (sym (corners_whole (sym e ∙ h)))

  pub count_none : (t : Bool) → t ≡ is_whole s → t ≡ false → 0 ≡ length (whole_corners s o)
  unfolding whole_corners
  count_none t e h = rw (← e, h)

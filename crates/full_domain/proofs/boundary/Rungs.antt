-- The rungs of a whole surface: the lower end, the inner ones and the upper end, each end to the bit.
use Prim.Native.Nat.{ℕ, ◌^◌, ◌≤◌}
use mathlib.Core.Path.{◌≡◌, refl, ap, ◌∙◌}
use mathlib.Core.Bool.{true}
use mathlib.Core.List.{List, [], ◌∷◌, ◌++◌, reverse, reverse-append}
use native.Mathlib.Omega.{arith}
use lib.Dec.{lit≤}
use lib.ListN.{drop}
use lib.Ieee.{Float, neg, add, eq, ne, of_bits}
use Rattle.numbers.specs.Constants.{plus_zero, H, TAU}
use Rattle.numbers.specs.Rounded.{◌⊕◌}
use Rattle.numbers.specs.declared.math.Interval.{Interval}
use Rattle.surfaces.specs.Domains.{between, full_turn}
use Rattle.surfaces.specs.Rungs.{rungs, inner}
use Rattle.surfaces.proofs.knots.Rising.{Stretch}
use Rattle.surfaces.proofs.knots.Rungs.{rungs-between}
use Rattle.surfaces.proofs.surface.Domains.{turn_stretch, sphere_stretch}
use Rattle.full_domain.specs.Boundary.{clamped}
use Rattle.full_domain.proofs.boundary.Sides.{few-steps}

-- the rungs from lo to hi, xs between them
abbrev pub all_rungs : Interval → List Float → List Float
all_rungs i xs = i.lo ∷ (xs ++ (i.hi ∷ []))

pub backward : (i : Interval) (xs : List Float) → reverse (drop 1 (all_rungs i xs)) ≡ i.hi ∷ reverse xs
backward i xs = reverse-append xs (i.hi ∷ [])

-- v of a sphere
abbrev pub quarters : Interval
quarters = between (neg H) H

-- ---- between two ends that differ, of which the lower is no negative zero

all_counted : (n : ℕ) → clamped n ≤ 2 ^ 53
all_counted n = let h = few-steps n in let k : 256 ≤ 2 ^ 53 = lit≤ tt in omega arith

begun : (i : Interval) (n : ℕ) → Stretch i.lo i.hi → ne i.lo i.hi ≡ true → i.lo ⊕ plus_zero ≡ i.lo
    → rungs i.lo i.hi (clamped n) ≡ all_rungs i (inner (rungs i.lo i.hi (clamped n)))
begun i n s d b =
    rungs-between i.lo i.hi (clamped n) s (all_counted n) d
    ∙ ap (λ (x : Float). x ∷ (inner (rungs i.lo i.hi (clamped n)) ++ (i.hi ∷ []))) b

turn_differs : ne plus_zero TAU ≡ true
unfolding ne eq of_bits
turn_differs = refl

turn_begins : plus_zero ⊕ plus_zero ≡ plus_zero
unfolding add of_bits
turn_begins = refl

pub turn_rungs : (n : ℕ) → rungs plus_zero TAU (clamped n) ≡ all_rungs full_turn (inner (rungs plus_zero TAU (clamped n)))
turn_rungs n = begun full_turn n turn_stretch turn_differs turn_begins

sphere_differs : ne (neg H) H ≡ true
unfolding ne eq neg of_bits
sphere_differs = refl

sphere_begins : neg H ⊕ plus_zero ≡ neg H
unfolding add neg of_bits
sphere_begins = refl

pub sphere-rungs : (n : ℕ) → rungs (neg H) H (clamped n) ≡ all_rungs quarters (inner (rungs (neg H) H (clamped n)))
sphere-rungs n = begun quarters n sphere_stretch sphere_differs sphere_begins

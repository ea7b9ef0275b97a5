-- The wrap of a loop by its first and last u.
use Prim.Native.Nat.{suc, ◌-◌, ◌≤◌, ◌<◌}
use mathlib.Core.Path.{◌≡◌, refl}
use mathlib.Core.List.{List, [], ◌∷◌}
use native.Mathlib.Omega.{arith}
use lib.ListN.{length, get_or}
use lib.IntN.{pos}
use lib.Ieee.{Float, nan}
use Rattle.numbers.specs.Rounded.{◌⊖◌, ◌⊘◌}
use Rattle.loops.specs.Steps.{last_of}
use Rattle.loops.specs.Wrap.{turns_counted, wrap_every}

last-at : (x : Float) (xs : List Float) → last_of x xs ≡ get_or (x ∷ xs) (length xs) nan
last-at x [] = refl
last-at x (y ∷ xs) = last-at y xs

pub net_of_few : (us : List Float) (period : Float) → length us < 2 → pos 0 ≡ wrap_every period us
unfolding wrap_every
net_of_few [] period h = refl
net_of_few (u ∷ []) period h = refl
net_of_few (u ∷ w ∷ us) period h = absurd (omega arith)

pub net_of_more : (us : List Float) (period : Float) → 2 ≤ length us → turns_counted ((get_or us (length us - 1) nan ⊖ get_or us 0 nan) ⊘ period) ≡ wrap_every period us
unfolding wrap_every
net_of_more [] period h = absurd (omega arith)
net_of_more (u ∷ []) period h = absurd (omega arith)
net_of_more (u ∷ w ∷ us) period h = let e : length (u ∷ w ∷ us) - 1 ≡ suc (length us) = omega arith in rw (e, last-at w us)

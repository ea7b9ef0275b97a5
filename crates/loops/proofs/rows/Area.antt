-- The cyclic sum, turn by turn.
use Prim.Native.Nat.{ℕ, ◌+◌, ◌%◌, ◌≤◌, ◌<◌, min}
use mathlib.Core.Path.{◌≡◌, refl}
use mathlib.Core.List.{List}
use native.Mathlib.Omega.{arith}
use native.Mathlib.Numerals.{add-one}
use lib.ListN.{length}
use lib.Ieee.{Float}
use Rattle.numbers.specs.Constants.{half}
use Rattle.numbers.specs.Rounded.{◌⊕◌, ◌⊗◌}
use Rattle.loops.specs.Area.{cross_at, cross_sum, area_of}

-- s is the sum of the first i cross products
pub record Summing (us vs : List Float) (n : ℕ) (s : Float) (i : ℕ) : Type 0 where
  pub corners : n ≡ min (length us) (length vs)
  pub far : i ≤ n
  pub is : s ≡ cross_sum us vs n i

pub summing : (us vs : List Float) (n : ℕ) → n ≡ min (length us) (length vs) → Summing us vs n (cross_sum us vs n 0) 0
summing us vs n e = record { corners = e; far = omega arith; is = refl }

pub summing_turn : (us vs : List Float) (n i j : ℕ) (s : Float) → Summing us vs n s i → i < n → j ≡ (i + 1) % n → Summing us vs n (s ⊕ cross_at us vs i j) (i + 1)
summing_turn us vs n i j s k h e = record { corners = k.corners; far = omega arith; is = unfold cross_sum in rw (add-one, k.is, e) }

pub summing_end : (us vs : List Float) (n i : ℕ) (s : Float) → Summing us vs n s i → n ≤ i → s ⊗ half ≡ area_of us vs
unfolding area_of
summing_end us vs n i s k h = let e : i ≡ n = omega arith in rw (k.is, e, ← k.corners)

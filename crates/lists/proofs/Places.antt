-- Places of a list, and what stands there.
use Prim.Native.Nat.{ℕ, zero, suc}
use mathlib.Core.Path.{◌≡◌, refl, ap}
use lib.ListN.{length}
use Rattle.lists.specs.Places.{places_from, places}

pub length-places_from : (n i : ℕ) → length (places_from i n) ≡ n
unfolding places_from
length-places_from zero i = refl
length-places_from (suc n) i = ap suc (length-places_from n (suc i))

pub length-places : (n : ℕ) → length (places n) ≡ n
unfolding places
length-places n = length-places_from n 0

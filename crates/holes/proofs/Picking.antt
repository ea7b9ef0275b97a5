-- All loops but the two rings, from one number on.
use Prim.Native.Nat.{ℕ, suc, ◌≤◌}
use mathlib.Core.Path.{◌≡◌, ap}
use mathlib.Core.Bool.{Bool, cond}
use mathlib.Core.List.{List, [], ◌∷◌}
use lib.ListN.{length, drop, drop_of_length-le}
use Rattle.holes.specs.Others.{is_ring, others_from}

pub others-first : {A : Type 0} (a b i : ℕ) (x : A) (xs : List A) (t : Bool) → is_ring a b i ≡ t → others_from a b i (x ∷ xs) ≡ cond t (others_from a b (suc i) xs) (x ∷ others_from a b (suc i) xs)
unfolding others_from
others-first a b i x xs t h = ap (λ (r : Bool). cond r (others_from a b (suc i) xs) (x ∷ others_from a b (suc i) xs)) h

pub none-past : {A : Type 0} (a b : ℕ) (xs : List A) (i j : ℕ) → length xs ≤ i → others_from a b j (drop i xs) ≡ []
unfolding others_from
none-past a b xs i j h = ap (others_from a b j) (drop_of_length-le xs {i = i} h)

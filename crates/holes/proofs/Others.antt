-- Lists with one element for each loop have the same places left out.
use Prim.Native.Nat.{ℕ, suc}
use mathlib.Core.Path.{◌≡◌, refl, ap}
use mathlib.Core.Bool.{Bool, true, false, cond}
use mathlib.Core.List.{List, [], ◌∷◌, map}
use native.Mathlib.Omega.{arith}
use lib.ListN.{length}
use Rattle.holes.specs.Others.{is_ring, others_from}

module _ {A B : Type 0} (a b : ℕ) where
  pub map-others : (f : A → B) (i : ℕ) (xs : List A) → others_from a b i (map f xs) ≡ map f (others_from a b i xs)
  unfolding others_from
  map-others f i [] = refl
  map-others f i (x ∷ xs) = by (is_ring a b i) (map-others f (suc i) xs)
    where
      by : (t : Bool) → others_from a b (suc i) (map f xs) ≡ map f (others_from a b (suc i) xs)
          → cond t (others_from a b (suc i) (map f xs)) (f x ∷ others_from a b (suc i) (map f xs)) ≡ map f (cond t (others_from a b (suc i) xs) (x ∷ others_from a b (suc i) xs))
      by true rest = rest
      by false rest = ap (λ (l : List B). f x ∷ l) rest

  pub others_as_many : (i : ℕ) (xs : List A) (ys : List B) → length xs ≡ length ys → length (others_from a b i xs) ≡ length (others_from a b i ys)
  unfolding others_from
  others_as_many i [] [] e = refl
  others_as_many i [] (y ∷ ys) e = absurd (omega arith)
  others_as_many i (x ∷ xs) [] e = absurd (omega arith)
  others_as_many i (x ∷ xs) (y ∷ ys) e = by (is_ring a b i) (others_as_many (suc i) xs ys (omega arith))
    where
      by : (t : Bool) → length (others_from a b (suc i) xs) ≡ length (others_from a b (suc i) ys)
          → length (cond t (others_from a b (suc i) xs) (x ∷ others_from a b (suc i) xs)) ≡ length (cond t (others_from a b (suc i) ys) (y ∷ others_from a b (suc i) ys))
      by true rest = rest
      by false rest = ap suc rest

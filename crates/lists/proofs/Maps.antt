-- What is done to each element of a list is done alike to its parts and to its reverse.
use Prim.Native.Nat.{ℕ, zero, suc, ◌+◌}
use mathlib.Core.Path.{◌≡◌, refl, sym, ap, ◌∙◌}
use mathlib.Core.List.{List, [], ◌∷◌, ◌++◌, map, reverse, reverse-cons, map-append, drop_last}
use mathlib.Core.Bool.{Bool, true, false, cond}
use lib.Dec.{leb}
use lib.ListN.{take, drop, length, length-map}
use Rattle.lists.specs.Placed.{placed}

module _ {A B : Type 0} (g : A → B) where
  pub map-take : (k : ℕ) (xs : List A) → map g (take k xs) ≡ take k (map g xs)
  map-take zero xs = refl
  map-take (suc k) [] = refl
  map-take (suc k) (x ∷ xs) = ap (λ (l : List B). g x ∷ l) (map-take k xs)

  pub map-drop : (k : ℕ) (xs : List A) → map g (drop k xs) ≡ drop k (map g xs)
  map-drop zero xs = refl
  map-drop (suc k) [] = refl
  map-drop (suc k) (x ∷ xs) = map-drop k xs

  pub map-reverse : (xs : List A) → map g (reverse xs) ≡ reverse (map g xs)
  map-reverse [] = refl
  map-reverse (x ∷ xs) =
      ap (map g) (reverse-cons x xs) ∙ map-append g (reverse xs) (x ∷ [])
      ∙ ap (λ (l : List B). l ++ (g x ∷ [])) (map-reverse xs) ∙ sym (reverse-cons (g x) (map g xs))

  pub map-drop_last : (xs : List A) → map g (drop_last xs) ≡ drop_last (map g xs)
  map-drop_last [] = refl
  map-drop_last (x ∷ []) = refl
  map-drop_last (x ∷ y ∷ xs) = ap (λ (l : List B). g x ∷ l) (map-drop_last (y ∷ xs))

  pub map-placed : (at : ℕ) (w d : List A) → map g (placed at w d) ≡ placed at (map g w) (map g d)
  unfolding placed
  map-placed at w d = rw (length-map w g, length-map d g) (by_room (leb (at + length w) (length d)))
    where
      by_room : (b : Bool) → map g (cond b (take at d ++ w ++ drop (at + length w) d) d) ≡ cond b (take at (map g d) ++ map g w ++ drop (at + length w) (map g d)) (map g d)
      by_room false = refl
      by_room true = simp (map-append, map-take, map-drop)

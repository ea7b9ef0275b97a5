-- The elements of a list that was made of another.
use Prim.Native.Nat.{ℕ, zero, suc, ◌+◌, ◌-◌, ◌<◌}
use mathlib.Core.Path.{◌≡◌, refl, sym, ap, ◌∙◌}
use mathlib.Core.List.{List, [], ◌∷◌, ◌++◌, map, reverse, reverse-cons, drop_last}
use native.Mathlib.Nat.{le_of_suc-le-suc, not-suc-le-zero}
use native.Mathlib.Omega.{arith}
use lib.ListN.{length, take, get_or, length-reverse, get_or-append}
use lib.Seq.{get_or_at, take-nil}

pub get_d_map : {A B : Type 0} (f : A → B) (xs : List A) (i : ℕ) (y : B) (z : A) → i < length xs → get_or (map f xs) i y ≡ f (get_or xs i z)
get_d_map f [] i y z h = absurd (not-suc-le-zero h)
get_d_map f (x ∷ xs) zero y z h = refl
get_d_map f (x ∷ xs) (suc i) y z h = get_d_map f xs i y z (le_of_suc-le-suc h)

module _ {A : Type 0} where
  reversed-last : (xs : List A) (x z : A) → get_or (reverse (x ∷ xs)) (length xs) z ≡ x
  reversed-last xs x z =
      ap (λ (l : List A). get_or l (length xs) z) (reverse-cons x xs) ∙ get_or_at (reverse xs) x [] z (length xs) (length-reverse xs)

  -- the i-th from the front is the j-th from the back
  pub get_d_reverse : (xs : List A) (i j : ℕ) (z : A) → i + j + 1 ≡ length xs → get_or (reverse xs) i z ≡ get_or xs j z
  get_d_reverse [] i j z h = refl
  get_d_reverse (x ∷ xs) i zero z h = let e : i ≡ length xs = omega arith in rw e (reversed-last xs x z)
  get_d_reverse (x ∷ xs) i (suc j) z h =
      let before : i < length (reverse xs) = omega (arith, length-reverse xs) in
      ap (λ (l : List A). get_or l i z) (reverse-cons x xs) ∙ get_or-append (reverse xs) (x ∷ []) z i before ∙ get_d_reverse xs i j z (omega arith)

  pub length-drop_last : (xs : List A) → length (drop_last xs) ≡ length xs - 1
  length-drop_last [] = refl
  length-drop_last (x ∷ []) = refl
  length-drop_last (x ∷ y ∷ xs) = let e = length-drop_last (y ∷ xs) in omega arith

  pub drop_last-take : (xs : List A) → drop_last xs ≡ take (length xs - 1) xs
  drop_last-take [] = sym (take-nil (0 - 1))
  drop_last-take (x ∷ []) = refl
  drop_last-take (x ∷ y ∷ xs) =
      let n : length (x ∷ y ∷ xs) - 1 ≡ suc (length (y ∷ xs) - 1) = omega arith in
      rw n (ap (λ (l : List A). x ∷ l) (drop_last-take (y ∷ xs)))

  -- one more element, taken off again
  pub drop_last_snoc : (xs : List A) (z : A) → drop_last (xs ++ (z ∷ [])) ≡ xs
  drop_last_snoc [] z = refl
  drop_last_snoc (x ∷ []) z = refl
  drop_last_snoc (x ∷ y ∷ xs) z = ap (λ (l : List A). x ∷ l) (drop_last_snoc (y ∷ xs) z)

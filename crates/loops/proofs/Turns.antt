-- A ring turned twice: two turns are one.
use Prim.Native.Nat.{ℕ, ◌+◌, ◌-◌, ◌≤◌, ◌<◌}
use mathlib.Core.Path.{◌≡◌, refl, sym, ap, ◌∙◌}
use mathlib.Core.Bool.{Bool, true, false}
use mathlib.Core.List.{List, [], ◌∷◌, ◌++◌, map, map-id, append_assoc, drop_last}
use native.Mathlib.Omega.{arith}
use borrow.Author.Tests.{leb-true, leb-false}
use lib.Dec.{leb}
use lib.ListN.{length, take, drop, length-append, take-append-drop, drop_of_length-le}
use lib.Seq.{take_all, take-append-le, drop-append-le, take-append-add, drop-append-add}
use Rattle.lists.proofs.Elements.{drop_last_snoc}
use Rattle.loops.specs.Rings.{begun, closed, turned, unchanged}

module _ {A : Type 0} where
  -- the open points of a closed ring
  open_closed : (again : A → A) (xs : List A) → drop_last (closed again xs) ≡ xs
  unfolding closed
  open_closed again [] = refl
  open_closed again (x ∷ xs) = drop_last_snoc (x ∷ xs) (again x)

  -- begun past its last point, all of it comes round
  pub begun-past : (again : A → A) (k : ℕ) (xs : List A) → length xs < k → map again xs ≡ begun again k xs
  unfolding begun
  begun-past again k xs h = let l : length xs ≤ k = omega arith in rw (take_all k xs l, drop_of_length-le xs {i = k})

  -- the two stretches change places
  exchanged : (k : ℕ) (xs : List A) → begun unchanged k xs ≡ drop k xs ++ take k xs
  unfolding begun
  exchanged k xs = ap (λ (l : List A). drop k xs ++ l) (map-id (take k xs))

  -- begun in the first of two stretches, or as far past it when the other comes first
  either_first : (p q : List A) (j : ℕ) → j ≤ length q → begun unchanged j (q ++ p) ≡ begun unchanged (length p + j) (p ++ q)
  either_first p q j h =
      exchanged j (q ++ p) ∙ (λ i. drop-append-le j q p h i ++ take-append-le j q p h i) ∙ append_assoc (drop j q) p (take j q)
      ∙ sym (exchanged (length p + j) (p ++ q) ∙ (λ i. drop-append-add p q j i ++ take-append-add p q j i))

  module _ (j k : ℕ) (xs : List A) where
    abbrev p : List A
    p = take k xs

    abbrev q : List A
    q = drop k xs

    abbrev Once : Type 0
    Once = (m : ℕ) × (begun unchanged j (begun unchanged k xs) ≡ begun unchanged m xs)

    at_once : (m : ℕ) → begun unchanged j (q ++ p) ≡ begun unchanged m (p ++ q) → Once
    at_once m e = (m, ap (begun unchanged j) (exchanged k xs) ∙ e ∙ ap (begun unchanged m) (take-append-drop k xs))

    -- in the stretch that came first, in the other, or past both
    begun_twice : Once
    begun_twice = where_to (leb j (length q)) (leb j (length q + length p)) refl refl
      where
        where_to : (s t : Bool) → leb j (length q) ≡ s → leb j (length q + length p) ≡ t → Once
        where_to true t e f = at_once (length p + j) (either_first p q j (leb-true j (length q) e))
        where_to false true e f =
            let h : length q < j = leb-false j (length q) e in
            let l : j ≤ length q + length p = leb-true j (length q + length p) f in
            let n : j ≡ length q + (j - length q) = omega arith in
            at_once (j - length q) (ap (λ (i : ℕ). begun unchanged i (q ++ p)) n ∙ sym (either_first q p (j - length q) (omega arith)))
        where_to false false e f =
            let l : length q + length p < j = leb-false j (length q + length p) f in
            let far : length (q ++ p) < j = rw (length-append q p) l in
            (k, ap (begun unchanged j) (exchanged k xs) ∙ sym (begun-past unchanged j (q ++ p) far) ∙ map-id (q ++ p) ∙ sym (exchanged k xs))

  pub turned_twice : (j k : ℕ) (xs : List A) → (m : ℕ) × (turned unchanged j (turned unchanged k xs) ≡ turned unchanged m xs)
  unfolding turned
  turned_twice j k xs =
      let once = begun_twice j k (drop_last xs) in
      (once.0, ap (closed unchanged) (ap (begun unchanged j) (open_closed unchanged (begun unchanged k (drop_last xs))) ∙ once.1))

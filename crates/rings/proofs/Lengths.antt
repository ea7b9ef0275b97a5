-- A ring begun elsewhere has as many points.
use Prim.Native.Nat.{ℕ, ◌+◌, ◌-◌, ◌≤◌, ◌<◌, min}
use mathlib.Core.Path.{◌≡◌, refl}
use mathlib.Core.Bool.{Bool, true, false, cond, ◌||◌}
use mathlib.Core.List.{List, [], ◌∷◌, map, drop_last}
use native.Mathlib.Omega.{arith}
use borrow.Author.Tests.{ltb-true, ltb-false}
use lib.Dec.{ltb, eqb, lit≤}
use lib.Ieee.{Float, nan, le, ne}
use lib.ListN.{length, get_or, length-map, length-append, length-take, length-drop}
use Rattle.numbers.specs.Constants.{plus_zero}
use Rattle.lists.proofs.Elements.{length-drop_last}
use Rattle.loops.specs.Rings.{begun, closed, turned}
use Rattle.rings.specs.Choices.{first_from, first_past, first_open_past}
use Rattle.tables.specs.Moves.{unless_zero}
use Rattle.rings.specs.Turns.{turned_unless, begin_ring_at, recut_at, turned_onto, align_at}

module _ {A : Type 0} where
  pub length_if : (n : ℕ) (t : Bool) (xs ys : List A) → length xs ≡ n → length ys ≡ n → length (cond t xs ys) ≡ n
  length_if n true xs ys d e = d
  length_if n false xs ys d e = e

  module _ (again : A → A) where
    pub length-begun : (k : ℕ) (xs : List A) → length (begun again k xs) ≡ length xs
    unfolding begun
    length-begun k xs =
        simp (length-append, length-map, length-drop, length-take) (split k (length xs))
      where
        split : (k n : ℕ) → n - k + min k n ≡ n
        split k n = omega arith

    pub length-closed : (xs : List A) → 0 < length xs → length (closed again xs) ≡ length xs + 1
    unfolding closed
    length-closed [] h = absurd (omega arith)
    length-closed (x ∷ xs) h = length-append (x ∷ xs) (again x ∷ [])

    -- one open point taken off and the closing one put on again
    pub length-turned : (k : ℕ) (xs : List A) → 2 ≤ length xs → length (turned again k xs) ≡ length xs
    unfolding turned
    length-turned k xs h =
        let b = length-begun k (drop_last xs) in
        let d = length-drop_last xs in
        let c = length-closed (begun again k (drop_last xs)) (omega arith) in
        omega arith

    length_unless : (few k : ℕ) (xs : List A) → 2 ≤ few → length (turned_unless few again k xs) ≡ length xs
    unfolding turned_unless
    length_unless few k xs m = long (eqb k 0) (ltb (length xs) few) refl
      where
        long : (s t : Bool) → ltb (length xs) few ≡ t → length (cond (s || t) xs (turned again k xs)) ≡ length xs
        long true t e = refl
        long false true e = refl
        long false false e = length-turned k xs (let h = ltb-false (length xs) few e in omega arith)

    pub length-begin_ring_at : (k : ℕ) (xs : List A) → length (begin_ring_at again k xs) ≡ length xs
    length-begin_ring_at k xs = length_unless 4 k xs (lit≤ tt)

    pub length-recut_at : (k : ℕ) (xs : List A) → length (recut_at again k xs) ≡ length xs
    length-recut_at k xs = length_unless 2 k xs (lit≤ tt)

    pub length-align_at : (put : A → A) (k : ℕ) (xs : List A) → length (align_at again put k xs) ≡ length xs
    unfolding align_at turned_onto
    length-align_at put k xs = long (ltb (length xs) 3) refl
      where
        long : (t : Bool) → ltb (length xs) 3 ≡ t → length (cond t xs (closed again (map put (begun again k (drop_last xs))))) ≡ length xs
        long true e = refl
        long false e =
            let h = ltb-false (length xs) 3 e in
            let b = length-begun k (drop_last xs) in
            let m = length-map (begun again k (drop_last xs)) put in
            let d = length-drop_last xs in
            let c = length-closed (map put (begun again k (drop_last xs))) (omega arith) in
            omega arith

  pub length-unless_zero : (step : Float) (f : A → A) (xs : List A) → length (unless_zero step f xs) ≡ length xs
  unfolding unless_zero
  length-unless_zero step f xs = length_if (length xs) (ne step plus_zero) (map f xs) xs (length-map xs f) refl

-- the first point at or past the cut is one of the points, or the first of all
past_in : (cut : Float) (us : List Float) → first_past cut us ≤ length us - 1
unfolding first_past
past_in cut us = one_of (ltb k (length us)) refl
  where
    k : ℕ
    k = first_from (λ i. le cut (get_or us i nan)) 0 (length us)

    one_of : (t : Bool) → ltb k (length us) ≡ t → cond t k 0 ≤ length us - 1
    one_of true e = let h = ltb-true k (length us) e in omega arith
    one_of false e = omega arith

pub past_open : (cut : Float) (us : List Float) → first_open_past cut us ≤ length us - 2
unfolding first_open_past
past_open cut us = let h = past_in cut (drop_last us) in let d = length-drop_last us in omega arith

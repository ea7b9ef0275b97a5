-- 02, N2: what is kept, ended on the upper bound.
use Rattle.std.proofs.Common.{◌≡◌, ℕ, zero, suc, ◌-◌, ◌<◌, max, Bool, cond, List, [], ◌∷◌, ◌++◌, length, get_or, drop, refl, ap, ◌∙◌, suc-le-suc, le_of_suc-le-suc, not-suc-le-zero, zero-lt-suc, arith, length-append}
use mathlib.Core.List.{drop_last}
use borrow.Author.Tests.{lt-leb}
use lib.Ieee.{Float, nan}
use Rattle.surfaces.specs.Rungs.{ended_on, inner}
use Rattle.lists.proofs.Elements.{length-drop_last}

-- ---- a list that has a first

pub ended_is : (hi x : Float) (xs : List Float) → ended_on hi (x ∷ xs) ≡ x ∷ (drop_last xs ++ (hi ∷ []))
unfolding ended_on
ended_is hi x [] = refl
ended_is hi x (y ∷ ys) =
    let more : 1 < length (x ∷ y ∷ ys) = omega arith in
    ap (λ (b : Bool). cond b (x ∷ y ∷ ys) (drop_last (x ∷ y ∷ ys)) ++ (hi ∷ [])) (lt-leb (length (x ∷ y ∷ ys)) 1 more)

pub drop_added : (x y : Float) (xs : List Float) → drop_last (x ∷ (xs ++ (y ∷ []))) ≡ x ∷ xs
drop_added x y [] = refl
drop_added x y (z ∷ zs) = ap (λ (l : List Float). x ∷ l) (drop_added z y zs)

added_dropped : (y : Float) (xs : List Float) → drop_last (xs ++ (y ∷ [])) ≡ xs
added_dropped y [] = refl
added_dropped y (x ∷ xs) = drop_added x y xs

pub inner_ended : (hi x : Float) (xs : List Float) → inner (ended_on hi (x ∷ xs)) ≡ inner (x ∷ xs)
unfolding inner
inner_ended hi x xs = ap (λ (l : List Float). drop_last (drop 1 l)) (ended_is hi x xs) ∙ added_dropped hi (drop_last xs)

pub length_ended : (hi x : Float) (xs : List Float) → length (ended_on hi (x ∷ xs)) ≡ suc (max (length xs) 1)
length_ended hi x xs =
    let a = length-append (drop_last xs) (hi ∷ []) in
    let b = length-drop_last xs in
    ap length (ended_is hi x xs) ∙ omega arith

pub ended_length : (hi : Float) (ks : List Float) → 0 < length ks → length (ended_on hi ks) ≡ suc (max (length ks - 1) 1)
ended_length hi [] h = absurd (not-suc-le-zero h)
ended_length hi (x ∷ xs) h = let e = length_ended hi x xs in omega arith

pub last_added : (y : Float) (xs : List Float) → get_or (xs ++ (y ∷ [])) (length (xs ++ (y ∷ [])) - 1) nan ≡ y
last_added y xs = let e : length (xs ++ (y ∷ [])) - 1 ≡ length xs = (let a = length-append xs (y ∷ []) in omega arith) in rw e (at-end xs)
  where
    at-end : (xs : List Float) → get_or (xs ++ (y ∷ [])) (length xs) nan ≡ y
    at-end [] = refl
    at-end (x ∷ xs) = at-end xs

-- ---- what holds of each element holds of each but the last, and so, where it holds of hi, after the end is set

module _ (P : Float → Type 0) where
  pub each_front : (xs : List Float) → ((j : ℕ) → j < length xs → P (get_or xs j nan)) → (j : ℕ) → j < length (drop_last xs) → P (get_or (drop_last xs) j nan)
  each_front [] p j h = absurd (not-suc-le-zero h)
  each_front (x ∷ []) p j h = absurd (not-suc-le-zero h)
  each_front (x ∷ y ∷ ys) p zero h = p 0 (zero-lt-suc _)
  each_front (x ∷ y ∷ ys) p (suc j) h = each_front (y ∷ ys) (λ i l. p (suc i) (suc-le-suc l)) j (le_of_suc-le-suc h)

  module _ (hi : Float) (end : P hi) where
    lone : (j : ℕ) → j < 1 → P (get_or (hi ∷ []) j nan)
    lone zero h = end
    lone (suc j) h = absurd (not-suc-le-zero (le_of_suc-le-suc h))

    pub each_ended : (xs : List Float) → ((j : ℕ) → j < length xs → P (get_or xs j nan)) → (j : ℕ) → j < length (drop_last xs ++ (hi ∷ []))
        → P (get_or (drop_last xs ++ (hi ∷ [])) j nan)
    each_ended [] p j h = lone j h
    each_ended (x ∷ []) p j h = lone j h
    each_ended (x ∷ y ∷ ys) p zero h = p 0 (zero-lt-suc _)
    each_ended (x ∷ y ∷ ys) p (suc j) h = each_ended (y ∷ ys) (λ i l. p (suc i) (suc-le-suc l)) j (le_of_suc-le-suc h)

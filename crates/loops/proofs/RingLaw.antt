-- The ring law: a ring has the net of its open points, and so has any rotation of these, closed with its own first point.
use Prim.Native.Nat.{ℕ}
use mathlib.Core.Path.{◌≡◌, refl, sym, ap, ◌∙◌}
use mathlib.Core.Bool.{Bool, true}
use mathlib.Core.List.{List, [], ◌∷◌, ◌++◌, map-id, reverse, reverse-cons, reverse-append, drop_last}
use lib.ListN.{take, drop, take-append-drop}
use Rattle.loops.specs.Steps.{PartialEquivalence, last_of, net}
use Rattle.loops.specs.Rings.{begun, closed, turned, unchanged, ends_meet}
use Rattle.loops.proofs.Paths.{net-nil, net_rotate}
use Rattle.loops.proofs.Alike.{alike}
use Rattle.loops.proofs.RepeatsLaw.{net_close, net-one}

module _ {A : Type 0} where
  split_last : (x : A) (xs : List A) → x ∷ xs ≡ drop_last (x ∷ xs) ++ (last_of x xs ∷ [])
  split_last x [] = refl
  split_last x (y ∷ xs) = ap (λ (l : List A). x ∷ l) (split_last y xs)

  last_of_snoc : (x : A) (xs : List A) (z : A) → last_of x (xs ++ (z ∷ [])) ≡ z
  last_of_snoc x [] z = refl
  last_of_snoc x (y ∷ xs) z = last_of_snoc y xs z

module _ {A : Type 0} (same : A → A → Bool) (a b : A) where
  net-closed : (xs : List A) → net same a b (closed unchanged xs) ≡ net same a b xs
  unfolding closed
  net-closed [] = refl
  net-closed (x ∷ xs) = net_close same a b x xs x (λ c. refl)

  net-begun : (k : ℕ) (xs : List A) → net same a b (begun unchanged k xs) ≡ net same a b xs
  unfolding begun
  net-begun k xs =
      ap (λ (l : List A). net same a b (drop k xs ++ l)) (map-id (take k xs))
      ∙ net_rotate same a b (drop k xs) (take k xs) ∙ ap (net same a b) (take-append-drop k xs)

  -- any rotation, closed
  pub net-closed-begun : (k : ℕ) (xs : List A) → net same a b (closed unchanged (begun unchanged k xs)) ≡ net same a b xs
  net-closed-begun k xs = net-closed (begun unchanged k xs) ∙ net-begun k xs

module _ {A : Type 0} (same : A → A → Bool) (P : PartialEquivalence same) where
  -- the open points
  pub net-drop_last : (a b : A) (xs : List A) → ends_meet same xs ≡ true → net same a b (drop_last xs) ≡ net same a b xs
  unfolding ends_meet
  net-drop_last a b [] h = refl
  net-drop_last a b (x ∷ []) h = net-nil same a b ∙ sym (net-one same a b x)
  net-drop_last a b (x ∷ y ∷ xs) h =
      sym (net_close same a b x (drop_last (y ∷ xs)) (last_of y xs) (alike same P (last_of y xs) x h))
      ∙ ap (λ (l : List A). net same a b (x ∷ l)) (sym (split_last y xs))

  pub net-turned : (a b : A) (k : ℕ) (xs : List A) → ends_meet same xs ≡ true → net same a b (turned unchanged k xs) ≡ net same a b xs
  unfolding turned
  net-turned a b k xs h = net-closed-begun same a b k (drop_last xs) ∙ net-drop_last a b xs h

  -- a ring read backward is a ring
  pub ends_reverse : (xs : List A) → ends_meet same xs ≡ true → ends_meet same (reverse xs) ≡ true
  unfolding ends_meet
  ends_reverse [] h = refl
  ends_reverse (x ∷ []) h = h
  ends_reverse (x ∷ y ∷ xs) h =
      ap (ends_meet same) backward ∙ ap (λ (l : A). same l z) (last_of_snoc z (reverse middle) x) ∙ P.symmetric z x h
    where
      z : A
      z = last_of y xs

      middle : List A
      middle = drop_last (y ∷ xs)

      backward : reverse (x ∷ y ∷ xs) ≡ z ∷ (reverse middle ++ (x ∷ []))
      backward =
          reverse-cons x (y ∷ xs) ∙ ap (λ (l : List A). reverse l ++ (x ∷ [])) (split_last y xs)
          ∙ ap (λ (l : List A). l ++ (x ∷ [])) (reverse-append middle (z ∷ []))

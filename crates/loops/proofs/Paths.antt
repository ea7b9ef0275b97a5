-- A path splits at a shared element; a list read backward has the negated net; a rotated list has the same net.
use mathlib.Core.Path.{◌≡◌, refl, sym, ap, ◌∙◌}
use mathlib.Core.Bool.{Bool}
use mathlib.Core.List.{List, [], ◌∷◌, ◌++◌, map, reverse, reverse-cons, reverse-append, append_assoc, append-nil}
use lib.IntN.{ℤ, pos, neg_ℤ, ◌+ℤ◌, +ℤ_comm}
use Rattle.loops.specs.Steps.{Step, last_of, steps_along, steps_round, count, net_of, net}
use Rattle.loops.proofs.Counting.{step_back, net_of-append, net_of-back}

module _ {A : Type 0} where
  steps_split : (xs : List A) (x : A) (ys : List A)
      → steps_along (xs ++ x ∷ ys) ≡ steps_along (xs ++ (x ∷ [])) ++ steps_along (x ∷ ys)
  unfolding steps_along
  steps_split [] x ys = refl
  steps_split (w ∷ []) x ys = refl
  steps_split (w ∷ v ∷ xs) x ys = ap (λ (ss : List (Step A)). record { from = w; to = v } ∷ ss) (steps_split (v ∷ xs) x ys)

  steps-reverse : (xs : List A) → steps_along (reverse xs) ≡ reverse (map step_back (steps_along xs))
  unfolding steps_along
  steps-reverse [] = refl
  steps-reverse (x ∷ []) = refl
  steps-reverse (x ∷ y ∷ xs) =
      ap steps_along (reverse-append (x ∷ y ∷ []) xs) ∙ steps_split (reverse xs) y (x ∷ [])
      ∙ ap (λ (l : List A). steps_along l ++ (last ∷ [])) (sym (reverse-cons y xs))
      ∙ ap (λ (ss : List (Step A)). ss ++ (last ∷ [])) (steps-reverse (y ∷ xs))
      ∙ sym (reverse-cons last (map step_back (steps_along (y ∷ xs))))
    where
      last : Step A
      last = record { from = y; to = x }

  -- round a list: along it and on to its first
  round-along : (x : A) (xs : List A) → steps_round (x ∷ xs) ≡ steps_along (x ∷ (xs ++ (x ∷ [])))
  unfolding steps_round steps_along
  round-along x xs = sym (on-to x xs)
    where
      on-to : (w : A) (ws : List A)
          → steps_along (w ∷ (ws ++ (x ∷ []))) ≡ steps_along (w ∷ ws) ++ (record { from = last_of w ws; to = x } ∷ [])
      on-to w [] = refl
      on-to w (v ∷ ws) = ap (λ (ss : List (Step A)). record { from = w; to = v } ∷ ss) (on-to v ws)

module _ {A : Type 0} (same : A → A → Bool) (a b : A) where
  -- the net of the steps along a list, the closing one left out
  abbrev pub net_along : List A → ℤ
  net_along xs = net_of same a b (steps_along xs)

  pub along_split : (xs : List A) (x : A) (ys : List A) → net_along (xs ++ x ∷ ys) ≡ net_along (xs ++ (x ∷ [])) +ℤ net_along (x ∷ ys)
  along_split xs x ys =
      ap (net_of same a b) (steps_split xs x ys) ∙ net_of-append same a b (steps_along (xs ++ (x ∷ []))) (steps_along (x ∷ ys))

  pub along-reverse : (xs : List A) → net_along (reverse xs) ≡ neg_ℤ (net_along xs)
  along-reverse xs = ap (net_of same a b) (steps-reverse xs) ∙ net_of-back same a b (steps_along xs)

  pub net-nil : net same a b [] ≡ pos 0
  unfolding net net_of steps_round count
  net-nil = refl

  pub net-along : (x : A) (xs : List A) → net same a b (x ∷ xs) ≡ net_along (x ∷ (xs ++ (x ∷ [])))
  unfolding net
  net-along x xs = ap (net_of same a b) (round-along x xs)

  -- from x to y, and from y on to x again
  pub net_split : (x : A) (xs : List A) (y : A) (ys : List A)
      → net same a b ((x ∷ xs) ++ y ∷ ys) ≡ net_along (x ∷ (xs ++ (y ∷ []))) +ℤ net_along (y ∷ (ys ++ (x ∷ [])))
  net_split x xs y ys =
      net-along x (xs ++ y ∷ ys) ∙ ap (λ (l : List A). net_along (x ∷ l)) (append_assoc xs (y ∷ ys) (x ∷ []))
      ∙ along_split (x ∷ xs) y (ys ++ (x ∷ []))

  pub net_rotate : (xs ys : List A) → net same a b (xs ++ ys) ≡ net same a b (ys ++ xs)
  net_rotate [] ys = ap (net same a b) (sym (append-nil ys))
  net_rotate (x ∷ xs) [] = ap (net same a b) (append-nil (x ∷ xs))
  net_rotate (x ∷ xs) (y ∷ ys) =
      net_split x xs y ys ∙ +ℤ_comm (net_along (x ∷ (xs ++ (y ∷ [])))) (net_along (y ∷ (ys ++ (x ∷ [])))) ∙ sym (net_split y ys x xs)

  pub net-reverse : (xs : List A) → net same a b (reverse xs) ≡ neg_ℤ (net same a b xs)
  net-reverse [] = net-nil ∙ sym (ap neg_ℤ net-nil)
  net-reverse (x ∷ xs) =
      ap (net same a b) (reverse-cons x xs) ∙ net_rotate (reverse xs) (x ∷ []) ∙ net-along x (reverse xs)
      ∙ ap net_along (sym (reverse-append (x ∷ xs) (x ∷ []) ∙ ap (λ (l : List A). x ∷ l) (reverse-cons x xs)))
      ∙ along-reverse (x ∷ (xs ++ (x ∷ []))) ∙ ap neg_ℤ (sym (net-along x xs))

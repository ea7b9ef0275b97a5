-- The strip law: a strip has the net of its lower ring and that of its upper ring read backward; the walls cancel.
use mathlib.Core.Path.{◌≡◌, sym, ap, ◌∙◌}
use mathlib.Core.Bool.{Bool}
use mathlib.Core.List.{List, [], ◌∷◌, ◌++◌, reverse, reverse-cons, reverse-append, append_assoc}
use lib.IntN.{ℤ, neg_ℤ, ◌+ℤ◌, +ℤ_idr, +ℤ_invr}
use lib.Seq.{append_snoc}
use Rattle.loops.specs.Steps.{net}
use Rattle.loops.proofs.Differences.{+ℤ_left_comm}
use Rattle.loops.proofs.Paths.{net_along, along_split, along-reverse, net-along, net_split, net_rotate}

module _ {A : Type 0} (same : A → A → Bool) (a b : A) where
  -- along a path, round a ring, and back along the path
  out_and_back : (x : A) (xs : List A) (y : A) (ys : List A)
      → net_along same a b ((x ∷ xs) ++ y ∷ (ys ++ y ∷ (reverse xs ++ (x ∷ [])))) ≡ net same a b (y ∷ ys)
  out_and_back x xs y ys =
      along_split same a b (x ∷ xs) y (ys ++ y ∷ (reverse xs ++ (x ∷ [])))
      ∙ ap (out +ℤ◌) (along_split same a b (y ∷ ys) y (reverse xs ++ (x ∷ [])) ∙ (λ i. sym (net-along same a b y ys) i +ℤ home i))
      ∙ +ℤ_left_comm out ring (neg_ℤ out) ∙ ap (ring +ℤ◌) (+ℤ_invr out) ∙ +ℤ_idr ring
    where
      out : ℤ
      out = net_along same a b (x ∷ (xs ++ (y ∷ [])))

      ring : ℤ
      ring = net same a b (y ∷ ys)

      home : net_along same a b (y ∷ (reverse xs ++ (x ∷ []))) ≡ neg_ℤ out
      home =
          ap (net_along same a b) (sym (reverse-append (x ∷ xs) (y ∷ []) ∙ ap (λ (l : List A). y ∷ l) (reverse-cons x xs)))
          ∙ along-reverse same a b (x ∷ (xs ++ (y ∷ [])))

  regroup : (l : A) (lower wall : List A) (u : A) (upper : List A)
      → (l ∷ lower) ++ (l ∷ wall) ++ (u ∷ reverse (u ∷ upper)) ++ reverse wall
      ≡ (l ∷ lower) ++ l ∷ (wall ++ u ∷ (reverse upper ++ u ∷ reverse wall))
  regroup l lower wall u upper =
      to_the_right (l ∷ lower) (l ∷ wall) (u ∷ reverse (u ∷ upper)) (reverse wall)
      ∙ ap (λ (m : List A). (l ∷ lower) ++ l ∷ (wall ++ u ∷ m))
      (ap (◌++ reverse wall) (reverse-cons u upper) ∙ append_snoc (reverse upper) u (reverse wall))
    where
      to_the_right : (p q r s : List A) → p ++ q ++ r ++ s ≡ p ++ (q ++ (r ++ s))
      to_the_right p q r s = simp append_assoc

  -- Both lists may be closed or open: the steps that close them, from the last of the lower one to l and from u to the last of the upper one, are the strip's.
  pub net-strip : (l : A) (lower wall : List A) (u : A) (upper : List A)
      → net same a b ((l ∷ lower) ++ (l ∷ wall) ++ (u ∷ reverse (u ∷ upper)) ++ reverse wall)
      ≡ net same a b (l ∷ lower) +ℤ net same a b (reverse (u ∷ upper))
  net-strip l lower wall u upper =
      ap (net same a b) (regroup l lower wall u upper)
      ∙ net_split same a b l lower l (wall ++ u ∷ (reverse upper ++ u ∷ reverse wall))
      ∙ (λ i. sym (net-along same a b l lower) i +ℤ (walls ∙ upper-ring) i)
    where
      walls : net_along same a b (l ∷ (wall ++ u ∷ (reverse upper ++ u ∷ reverse wall) ++ (l ∷ []))) ≡ net same a b (u ∷ reverse upper)
      walls =
          ap (λ (m : List A). net_along same a b (l ∷ m))
          (append_assoc wall (u ∷ (reverse upper ++ u ∷ reverse wall)) (l ∷ [])
          ∙ ap (λ (m : List A). wall ++ u ∷ m) (append_assoc (reverse upper) (u ∷ reverse wall) (l ∷ [])))
          ∙ out_and_back l wall u (reverse upper)

      upper-ring : net same a b (u ∷ reverse upper) ≡ net same a b (reverse (u ∷ upper))
      upper-ring = net_rotate same a b (u ∷ []) (reverse upper) ∙ ap (net same a b) (sym (reverse-cons u upper))

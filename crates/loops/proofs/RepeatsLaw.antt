-- A repeat dropped keeps the net, and so does dropping them all.
use Prim.Native.Nat.{ℕ, zero, suc}
use mathlib.Core.Path.{◌≡◌, refl, sym, ap, ◌∙◌}
use mathlib.Core.Bool.{Bool, true, false, cond, ◌&&◌}
use mathlib.Core.List.Forall₂
use mathlib.Core.List.{List, [], ◌∷◌, ◌++◌, reverse, reverse-cons, reverse-reverse}
use lib.Dec.{ltb}
use lib.IntN.{pos}
use lib.ListN.{length, replicate}
use lib.Seq.{append_snoc}
use Rattle.loops.specs.Steps.{PartialEquivalence, steps_along, count, net_of, net}
use Rattle.loops.specs.Repeats.{kept_from, cut_back, drop_successive, drop_trailing, drop_merging, drop_repeats, keep}
use Rattle.loops.proofs.Paths.{net-nil, net-along, net_rotate}
use Rattle.loops.proofs.Alike.{Alike, alike, alike_refl, self_step, along_alike, net_replace}

-- ---- one repeat

module _ {A : Type 0} (same : A → A → Bool) (a b : A) where
  first_repeat : (x y : A) (xs : List A) → Alike same x y → net same a b (x ∷ y ∷ xs) ≡ net same a b (x ∷ xs)
  unfolding steps_along
  first_repeat x y xs e =
      net-along same a b x (y ∷ xs) ∙ self_step same a b x y (steps_along (y ∷ (xs ++ (x ∷ [])))) e
      ∙ along_alike same a b (Forall₂.cons (λ c. sym (e c)) (alike_refl same (xs ++ (x ∷ [])))) ∙ sym (net-along same a b x xs)

  pub net_repeat : (xs : List A) (x y : A) (ys : List A) → Alike same x y → net same a b (xs ++ x ∷ y ∷ ys) ≡ net same a b (xs ++ x ∷ ys)
  net_repeat xs x y ys e =
      net_rotate same a b xs (x ∷ y ∷ ys) ∙ first_repeat x y (ys ++ xs) e ∙ sym (net_rotate same a b xs (x ∷ ys))

  -- the last, where it is alike the first
  pub net_close : (x : A) (xs : List A) (z : A) → Alike same z x → net same a b ((x ∷ xs) ++ (z ∷ [])) ≡ net same a b (x ∷ xs)
  net_close x xs z e = net_rotate same a b (x ∷ xs) (z ∷ []) ∙ first_repeat z x xs e ∙ net_replace same a b [] z x xs e

  pub net-one : (x : A) → net same a b (x ∷ []) ≡ pos 0
  unfolding steps_along net_of count
  net-one x = net-along same a b x [] ∙ self_step same a b x x [] (λ c. refl)

  -- one element again and again, as at a pole
  pub net_constant : (n : ℕ) (x : A) → net same a b (replicate n x) ≡ pos 0
  net_constant zero x = net-nil same a b
  net_constant (suc zero) x = net-one x
  net_constant (suc (suc n)) x = first_repeat x x (replicate n x) (λ c. refl) ∙ net_constant (suc n) x

-- ---- all of them

module _ {A : Type 0} (same : A → A → Bool) (P : PartialEquivalence same) (a b : A) where
  -- x and y stand after xs: y goes where the two are the same, and else stays
  successive : (t : Bool) (xs : List A) (x y : A) (ys : List A) → same x y ≡ t
      → net same a b (xs ++ kept_from same keep x ys) ≡ net same a b (xs ++ x ∷ ys)
      → net same a b (xs ++ (x ∷ []) ++ kept_from same keep y ys) ≡ net same a b (xs ++ (x ∷ []) ++ y ∷ ys)
      → net same a b (xs ++ cond t (kept_from same keep x ys) (x ∷ kept_from same keep y ys)) ≡ net same a b (xs ++ x ∷ y ∷ ys)
  successive true xs x y ys e goes stays = goes ∙ sym (net_repeat same a b xs x y ys (alike same P x y e))
  successive false xs x y ys e goes stays =
      ap (net same a b) (sym (append_snoc xs x (kept_from same keep y ys))) ∙ stays ∙ ap (net same a b) (append_snoc xs x (y ∷ ys))

  net-kept_from : (ys xs : List A) (x : A) → net same a b (xs ++ kept_from same keep x ys) ≡ net same a b (xs ++ x ∷ ys)
  unfolding kept_from
  net-kept_from [] xs x = refl
  net-kept_from (y ∷ ys) xs x = successive (same x y) xs x y ys refl (net-kept_from ys xs x) (net-kept_from ys (xs ++ (x ∷ [])) y)

  net_successive : (xs : List A) → net same a b (drop_successive same keep xs) ≡ net same a b xs
  unfolding drop_successive
  net_successive [] = refl
  net_successive (x ∷ xs) = net-kept_from xs [] x

  -- z stands last: it goes where more than three remain and it is the same as x, the first
  trailing : (more s : Bool) (x : A) (back : List A) (z : A) → same x z ≡ s
      → net same a b (cut_back same keep x back) ≡ net same a b (x ∷ reverse back)
      → net same a b (cond (more && s) (cut_back same keep x back) (x ∷ reverse (z ∷ back))) ≡ net same a b (x ∷ reverse (z ∷ back))
  trailing false s x back z e goes = refl
  trailing true false x back z e goes = refl
  trailing true true x back z e goes =
      goes ∙ sym (net_close same a b x (reverse back) z (alike same P z x (P.symmetric x z e)))
      ∙ ap (λ (l : List A). net same a b (x ∷ l)) (sym (reverse-cons z back))

  net-cut_back : (x : A) (back : List A) → net same a b (cut_back same keep x back) ≡ net same a b (x ∷ reverse back)
  unfolding cut_back
  net-cut_back x [] = refl
  net-cut_back x (z ∷ back) = trailing (ltb 3 (length (x ∷ z ∷ back))) (same x z) x back z refl (net-cut_back x back)

  net_trailing : (xs : List A) → net same a b (drop_trailing same keep xs) ≡ net same a b xs
  unfolding drop_trailing
  net_trailing [] = refl
  net_trailing (x ∷ xs) = net-cut_back x (reverse xs) ∙ ap (λ (l : List A). net same a b (x ∷ l)) (reverse-reverse xs)

  pub net-drop_repeats : (xs : List A) → net same a b (drop_repeats same xs) ≡ net same a b xs
  unfolding drop_merging
  net-drop_repeats xs = net_trailing (drop_successive same keep xs) ∙ net_successive xs

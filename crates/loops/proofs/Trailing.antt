-- `drop_trailing` from the end of the list: it leaves a front of it. So repeats dropped leave no more than there were.
use Prim.Native.Nat.{ℕ, zero, suc, ◌-◌, ◌≤◌, ◌<◌}
use mathlib.Core.Path.{◌≡◌, refl, sym, ap, ◌∙◌}
use mathlib.Core.Bool.{Bool, true, false, cond, ◌&&◌}
use mathlib.Core.List.{List, [], ◌∷◌, ◌++◌, append-nil, append_assoc, reverse, reverse-cons, reverse-append, reverse-reverse}
use native.Mathlib.Nat.{not-suc-le-zero, le_of_suc-le-suc}
use native.Mathlib.Omega.{arith}
use borrow.Author.Tests.{lt-ltb, le-ltb}
use lib.Dec.{ltb}
use lib.ListN.{length, take, get_or, length-append, length-reverse, length-take}
use lib.Seq.{take-suc, length-take-le}
use Rattle.loops.specs.Repeats.{kept_from, cut_back, drop_successive, drop_trailing, drop_merging, drop_repeats, keep}

module _ {A : Type 0} (same : A → A → Bool) where
  -- z stands last, after at least three
  trailing_last : (f : A) (ws : List A) (z : A) → 3 ≤ length (f ∷ ws)
      → drop_trailing same keep (f ∷ (ws ++ (z ∷ []))) ≡ cond (same f z) (drop_trailing same keep (f ∷ ws)) (f ∷ (ws ++ (z ∷ [])))
  unfolding drop_trailing cut_back
  trailing_last f ws z h =
      let back : reverse (ws ++ (z ∷ [])) ≡ z ∷ reverse ws = reverse-append ws (z ∷ []) in
      let all : reverse (z ∷ reverse ws) ≡ ws ++ (z ∷ []) = ap reverse (sym back) ∙ reverse-reverse (ws ++ (z ∷ [])) in
      let n = length-reverse ws in
      let more : 3 < length (f ∷ z ∷ reverse ws) = omega arith in
      ap (cut_back same keep f) back
      ∙ (λ i. cond (lt-ltb 3 (length (f ∷ z ∷ reverse ws)) more i && same f z) (cut_back same keep f (reverse ws)) (f ∷ all i))

  cut_back-few : (f : A) (back : List A) → length (f ∷ back) ≤ 3 → cut_back same keep f back ≡ f ∷ reverse back
  unfolding cut_back
  cut_back-few f [] h = refl
  cut_back-few f (x ∷ back) h = rw (le-ltb 3 (length (f ∷ x ∷ back)) h)

  trailing_few : (ws : List A) → length ws ≤ 3 → drop_trailing same keep ws ≡ ws
  unfolding drop_trailing
  trailing_few [] h = refl
  trailing_few (f ∷ ws) h =
      cut_back-few f (reverse ws) (let n = length-reverse ws in omega arith) ∙ ap (λ (l : List A). f ∷ l) (reverse-reverse ws)

  -- the same of the first r elements of a list
  module _ (d : A) where
    pub trailing_step : (ws : List A) (r : ℕ) → 3 < r → r ≤ length ws
        → drop_trailing same keep (take r ws) ≡ cond (same (get_or ws 0 d) (get_or ws (r - 1) d)) (drop_trailing same keep (take (r - 1) ws)) (take r ws)
    trailing_step ws zero h k = absurd (not-suc-le-zero h)
    trailing_step ws (suc zero) h k = absurd (not-suc-le-zero (le_of_suc-le-suc h))
    trailing_step [] (suc (suc r)) h k = absurd (not-suc-le-zero k)
    trailing_step (f ∷ ws) (suc (suc r)) h k =
        let place : suc (suc r) - 1 ≡ suc r = omega arith in
        let within : r < length ws = omega arith in
        let n : length (take r ws) ≡ r = length-take-le r ws (omega arith) in
        rw (place, take-suc ws r d within) (trailing_last f (take r ws) (get_or ws r d) (omega arith))

  pub trailing_end : (ws : List A) (r : ℕ) → r ≤ 3 → drop_trailing same keep (take r ws) ≡ take r ws
  trailing_end ws r h = trailing_few (take r ws) (simp length-take (omega arith))

  -- what goes stands at the end
  cut_back-front : (f : A) (back : List A) → (gone : List A) × (cut_back same keep f back ++ gone ≡ f ∷ reverse back)
  unfolding cut_back
  cut_back-front f [] = ([], refl)
  cut_back-front f (x ∷ back) = pick (ltb 3 (length (f ∷ x ∷ back)) && same f x) (cut_back-front f back)
    where
      pick : (t : Bool) → (gone : List A) × (cut_back same keep f back ++ gone ≡ f ∷ reverse back)
          → (gone : List A) × (cond t (cut_back same keep f back) (f ∷ reverse (x ∷ back)) ++ gone ≡ f ∷ reverse (x ∷ back))
      pick false before = ([], append-nil (f ∷ reverse (x ∷ back)))
      pick true before = (
        before.0 ++ (x ∷ []),
        sym (append_assoc (cut_back same keep f back) before.0 (x ∷ [])) ∙ ap (λ (l : List A). l ++ (x ∷ [])) before.1
            ∙ ap (λ (l : List A). f ∷ l) (sym (reverse-cons x back)),
      )

  pub trailing_front : (ws : List A) → (gone : List A) × (drop_trailing same keep ws ++ gone ≡ ws)
  unfolding drop_trailing
  trailing_front [] = ([], refl)
  trailing_front (f ∷ ws) =
      let cut = cut_back-front f (reverse ws) in
      (cut.0, cut.1 ∙ ap (λ (l : List A). f ∷ l) (reverse-reverse ws))

  kept_fewer : (xs : List A) (x : A) → length (kept_from same keep x xs) ≤ length (x ∷ xs)
  unfolding kept_from
  kept_fewer [] x = omega arith
  kept_fewer (y ∷ xs) x = pick (same x y) (kept_fewer xs x) (kept_fewer xs y)
    where
      pick : (t : Bool) → length (kept_from same keep x xs) ≤ length (x ∷ xs) → length (kept_from same keep y xs) ≤ length (y ∷ xs)
          → length (cond t (kept_from same keep x xs) (x ∷ kept_from same keep y xs)) ≤ length (x ∷ y ∷ xs)
      pick true p q = omega arith
      pick false p q = omega arith

  successive_fewer : (xs : List A) → length (drop_successive same keep xs) ≤ length xs
  unfolding drop_successive
  successive_fewer [] = omega arith
  successive_fewer (x ∷ xs) = kept_fewer xs x

  pub repeats_fewer : (xs : List A) → length (drop_repeats same xs) ≤ length xs
  unfolding drop_merging
  repeats_fewer xs =
      let front = trailing_front (drop_successive same keep xs) in
      let sum = ap length (sym front.1) ∙ length-append (drop_trailing same keep (drop_successive same keep xs)) front.0 in
      let before = successive_fewer xs in
      omega arith

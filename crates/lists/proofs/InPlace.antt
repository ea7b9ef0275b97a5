-- Reversing in place: each turn exchanges the ends of the middle that is still to be reversed.
use Prim.Native.Nat.{ℕ, ◌+◌, ◌-◌, ◌≤◌, ◌<◌, suc}
use mathlib.Core.Path.{◌≡◌, refl, sym, ap, ◌∙◌}
use mathlib.Core.List.{List, [], ◌∷◌, ◌++◌, reverse, reverse-cons, reverse-append, append_assoc, append-nil}
use native.Mathlib.Nat.{le_of_suc-le-suc, not-suc-le-zero}
use native.Mathlib.Omega.{arith}
use lib.ListN.{length, get_or, set, length-set, length-append}
use lib.Seq.{get_or-append_seam, set-append_seam, append_snoc}
use Rattle.lists.specs.Parts.{swapped}

module _ {A : Type 0} (z : A) where
  swap_mid : (e m r : List A) (x y : A) → swapped z (length e) (length (e ++ (x ∷ m))) (e ++ (x ∷ (m ++ (y ∷ r)))) ≡ e ++ (y ∷ (m ++ (x ∷ r)))
  unfolding swapped
  swap_mid [] m r x y = λ k. get_or-append_seam m y r z k ∷ set-append_seam m y r x k
  swap_mid (c ∷ e) m r x y = ap (λ (l : List A). c ∷ l) (swap_mid e m r x y)

  pub length-swapped : (i j : ℕ) (xs : List A) → length (swapped z i j xs) ≡ length xs
  unfolding swapped
  length-swapped i j xs = length-set (set xs i (get_or xs j z)) j (get_or xs i z) ∙ length-set xs i (get_or xs j z)

module _ {A : Type 0} where
  -- x ∷ t by its last element
  snoc_of : (x : A) (t : List A) → (m : List A) × (y : A) × (x ∷ t ≡ m ++ (y ∷ []))
  snoc_of x [] = ([], x, refl)
  snoc_of x (c ∷ t) = (x ∷ (snoc_of c t).0, (snoc_of c t).1, ap (λ (l : List A). x ∷ l) (snoc_of c t).2)

  -- a list of two or more by its ends
  ends_of : (l : List A) → 1 < length l → (x : A) × (m : List A) × (y : A) × (l ≡ x ∷ (m ++ (y ∷ [])))
  ends_of [] h = absurd (not-suc-le-zero h)
  ends_of (x ∷ []) h = absurd (not-suc-le-zero (le_of_suc-le-suc h))
  ends_of (x ∷ c ∷ t) h = (x, (snoc_of c t).0, (snoc_of c t).1, ap (λ (l : List A). x ∷ l) (snoc_of c t).2)

  reverse_short : (l : List A) → length l ≤ 1 → reverse l ≡ l
  reverse_short [] h = refl
  reverse_short (x ∷ []) h = refl
  reverse_short (x ∷ c ∷ t) h = absurd (not-suc-le-zero (le_of_suc-le-suc h))

  reverse_ends : (x : A) (m : List A) (y : A) → reverse (x ∷ (m ++ (y ∷ []))) ≡ y ∷ (reverse m ++ (x ∷ []))
  reverse_ends x m y = reverse-cons x (m ++ (y ∷ [])) ∙ ap (λ (l : List A). l ++ (x ∷ [])) (reverse-append m (y ∷ []))

  -- a is a₀ reversed but for a middle, from i up to j
  pub record Reversing (a₀ a : List A) (i j : ℕ) : Type 0 where
    pub front : List A
    pub middle : List A
    pub back : List A
    pub is : a ≡ front ++ (middle ++ back)
    pub goal : reverse a₀ ≡ front ++ (reverse middle ++ back)
    pub from : length front ≡ i
    pub to : i + length middle ≡ j
    pub low : i ≤ j
    pub high : j ≤ length a₀
    pub long : length a ≡ length a₀

  pub reversing : (a : List A) → Reversing a a 0 (length a)
  reversing a = record {
    front = [];
    middle = a;
    back = [];
    is = sym (append-nil a);
    goal = sym (append-nil (reverse a));
    from = refl;
    to = omega arith;
    low = omega arith;
    high = omega arith;
    long = refl;
  }

  pub reversing_turn : (z : A) (a₀ a a' : List A) (i j : ℕ) → Reversing a₀ a i j → i + 1 < j → a' ≡ swapped z i (j - 1) a → Reversing a₀ a' (i + 1) (j - 1)
  reversing_turn z a₀ a a' i j w h s = turn (ends_of w.middle (let t = w.to in omega arith))
    where
      turn : (x : A) × (m : List A) × (y : A) × (w.middle ≡ x ∷ (m ++ (y ∷ []))) → Reversing a₀ a' (i + 1) (j - 1)
      turn (x, m, y, e) = record {
        front = w.front ++ (y ∷ []);
        middle = m;
        back = x ∷ w.back;
        is = s ∙ (λ k. swapped z (sym w.from k) (at_j k) (a_is k)) ∙ swap_mid z w.front m w.back x y ∙ sym (append_snoc w.front y (m ++ (x ∷ w.back)));
        goal =
            w.goal ∙ ap (λ (l : List A). w.front ++ (l ++ w.back)) (ap reverse e ∙ reverse_ends x m y)
            ∙ ap (λ (l : List A). w.front ++ (y ∷ l)) (append_assoc (reverse m) (x ∷ []) w.back)
            ∙ sym (append_snoc w.front y (reverse m ++ (x ∷ w.back)));
        from = length-append w.front (y ∷ []) ∙ (let f = w.from in omega arith);
        to = let t = w.to in let n = count in omega arith;
        low = let t = w.to in let n = count in omega arith;
        high = let t = w.high in omega arith;
        long = ap length s ∙ length-swapped z i (j - 1) a ∙ w.long;
      }
        where
          count : length w.middle ≡ suc (length m + 1)
          count = ap length e ∙ ap suc (length-append m (y ∷ []))

          at_j : j - 1 ≡ length (w.front ++ (x ∷ m))
          at_j = sym (length-append w.front (x ∷ m) ∙ (let f = w.from in let t = w.to in let n = count in omega arith))

          a_is : a ≡ w.front ++ (x ∷ (m ++ (y ∷ w.back)))
          a_is =
              w.is ∙ ap (λ (l : List A). w.front ++ (l ++ w.back)) e
              ∙ ap (λ (l : List A). w.front ++ (x ∷ l)) (append_assoc m (y ∷ []) w.back)

  pub reversing_end : (a₀ a : List A) (i j : ℕ) → Reversing a₀ a i j → j ≤ i + 1 → a ≡ reverse a₀
  reversing_end a₀ a i j w h =
      w.is ∙ ap (λ (l : List A). w.front ++ (l ++ w.back)) (sym (reverse_short w.middle (let t = w.to in omega arith))) ∙ sym w.goal

-- Spans sorted in a slice, from the last to the first.
use Prim.Native.Nat.{ℕ, suc, ◌+◌, ◌-◌, ◌≤◌, ◌<◌}
use mathlib.Core.Path.{◌≡◌, refl, sym, ap, ◌∙◌}
use mathlib.Core.Bool.{Bool, true, false, cond}
use mathlib.Core.List.{List, [], ◌∷◌, ◌++◌, append-nil}
use native.Mathlib.Numerals.{add-one}
use native.Mathlib.Omega.{arith}
use borrow.Rule.Slice.PartMut.{put_mid, mid_of, same_len_mid}
use lib.Ieee.{Float, nan, lt}
use lib.ListN.{length, get_or, take, drop, length-drop, drop_of_length-le}
use lib.Seq.{take_all, take-suc, drop-cons, take_at, drop_at, get_or_at, append_snoc, length-take-le, drop-append-add}
use Rattle.std.specs.List.{take_while}
use Rattle.std.proofs.lemmas.List.Sums.{take_while-cons}
use Rattle.seam.specs.declared.gap.Span.{Span}
use Rattle.seam.specs.Gap.{span, insert, sorted}

abbrev below : Float → List Span → List Span
below x ss = take_while (λ (s : Span). lt s.low x) ss

insert-first : (s t : Span) (ts : List Span) (b : Bool) → lt t.low s.low ≡ b → insert s (t ∷ ts) ≡ cond b (t ∷ insert s ts) (s ∷ t ∷ ts)
unfolding insert
insert-first s t ts b e = ap (λ (c : Bool). cond c (t ∷ insert s ts) (s ∷ t ∷ ts)) e

insert-none : (s : Span) → insert s [] ≡ s ∷ []
unfolding insert
insert-none s = refl

below-first : (x : Float) (t : Span) (ts : List Span) (b : Bool) → lt t.low x ≡ b → below x (t ∷ ts) ≡ cond b (t ∷ below x ts) []
below-first x t ts b e = take_while-cons (λ (s : Span). lt s.low x) t ts ∙ ap (λ (c : Bool). cond c (t ∷ below x ts) []) e

below-most : (x : Float) (ss : List Span) → length (below x ss) ≤ length ss
below-most x [] = omega arith
below-most x (t ∷ ts) = by_test (lt t.low x) refl (below-most x ts)
  where
    by_test : (b : Bool) → lt t.low x ≡ b → length (below x ts) ≤ length ts → length (below x (t ∷ ts)) ≤ suc (length ts)
    by_test true e m = let l = ap length (below-first x t ts true e) in omega arith
    by_test false e m = let l = ap length (below-first x t ts false e) in omega arith

-- how many of those behind i begin below it: counted in the part of the slice that the code passes, and they end within the slice
pub after_is : (spans : List Span) (i r : ℕ) → i < length spans
    → r ≡ length (below (get_or spans i (span nan nan)).low (take (length spans - (i + 1)) (drop (i + 1) spans)))
    → (r ≡ length (below (get_or spans i (span nan nan)).low (drop (i + 1) spans))) × (i + 1 + r ≤ length spans)
after_is spans i r h e =
    (is, let m = below-most (get_or spans i (span nan nan)).low (drop (i + 1) spans) in let b = is in let l = length-drop (i + 1) spans in omega arith)
  where
    is : r ≡ length (below (get_or spans i (span nan nan)).low (drop (i + 1) spans))
    is =
        e ∙ ap (λ (l : List Span). length (below (get_or spans i (span nan nan)).low l)) (take_all (length spans - (i + 1)) (drop (i + 1) spans) (let l = length-drop (i + 1) spans in omega arith))

-- put behind those that begin below it
insert-at : (s : Span) (ts : List Span) (k : ℕ) → k ≡ length (below s.low ts) → insert s ts ≡ take k ts ++ (s ∷ drop k ts)
insert-at s [] k e = insert-none s ∙ rw e
insert-at s (t ∷ ts) k e = by_test (lt t.low s.low) refl (insert-at s ts (length (below s.low ts)) refl)
  where
    n : ℕ
    n = length (below s.low ts)

    by_test : (b : Bool) → lt t.low s.low ≡ b → insert s ts ≡ take n ts ++ (s ∷ drop n ts) → insert s (t ∷ ts) ≡ take k (t ∷ ts) ++ (s ∷ drop k (t ∷ ts))
    by_test true d ih = insert-first s t ts true d ∙ ap (λ (x : List Span). t ∷ x) ih ∙ sym (rw (e ∙ ap length (below-first s.low t ts true d)))
    by_test false d ih = insert-first s t ts false d ∙ sym (rw (e ∙ ap length (below-first s.low t ts false d)))

module _ {A : Type 0} (p : List A) (x : A) (q : List A) (i : ℕ) (at : length p ≡ i) where
  -- x brought behind the first k of q
  behind : (k e : ℕ) → e ≡ suc k → put_mid i e (p ++ (x ∷ q)) (drop 1 (take e (drop i (p ++ (x ∷ q)))) ++ take 1 (take e (drop i (p ++ (x ∷ q))))) ≡ p ++ (take k q ++ (x ∷ drop k q))
  behind k e n = rw (n, take_at p (x ∷ q) i at, drop_at p (x ∷ q) i at) (ap (λ (l : List A). p ++ l) (append_snoc (take k q) x (drop k q)))

  rest : drop (i + 1) (p ++ (x ∷ q)) ≡ q
  rest = ap (λ (n : ℕ). drop (n + 1) (p ++ (x ∷ q))) (sym at) ∙ drop-append-add p (x ∷ q) 1

sorted-first : (s : Span) (ss : List Span) → sorted (s ∷ ss) ≡ insert s (sorted ss)
unfolding sorted
sorted-first s ss = refl

sorted_none : sorted [] ≡ []
unfolding sorted
sorted_none = refl

module _ (spans₀ : List Span) where
  -- those from i on stand in order
  pub record Sorting (spans : List Span) (i : ℕ) : Type 0 where
    pub within : i ≤ length spans₀
    pub long : length spans ≡ length spans₀
    pub is : spans ≡ take i spans₀ ++ sorted (drop i spans₀)

  pub sorting : Sorting spans₀ (length spans₀)
  sorting = record { within = omega arith; long = refl; is = sym whole }
    where
      whole : take (length spans₀) spans₀ ++ sorted (drop (length spans₀) spans₀) ≡ spans₀
      whole =
          (λ j. take_all (length spans₀) spans₀ (omega arith) j ++ sorted (drop_of_length-le spans₀ {i = length spans₀} (omega arith) j))
          ∙ ap (λ (l : List Span). spans₀ ++ l) sorted_none ∙ append-nil spans₀

  module _ (i : ℕ) (h : i < length spans₀) where
    abbrev here : Span
    here = get_or spans₀ i (span nan nan)

    abbrev later : List Span
    later = sorted (drop (suc i) spans₀)

    next : take (i + 1) spans₀ ++ sorted (drop (i + 1) spans₀) ≡ take i spans₀ ++ (here ∷ later)
    next =
        ap (λ (n : ℕ). take n spans₀ ++ sorted (drop n spans₀)) (add-one i)
        ∙ ap (λ (l : List Span). l ++ later) (take-suc spans₀ i (span nan nan) h) ∙ append_snoc (take i spans₀) here later

    now : take i spans₀ ++ sorted (drop i spans₀) ≡ take i spans₀ ++ insert here later
    now = ap (λ (l : List Span). take i spans₀ ++ l) (ap sorted (drop-cons spans₀ i (span nan nan) h) ∙ sorted-first here (drop (suc i) spans₀))

    front : length (take i spans₀) ≡ i
    front = length-take-le i spans₀ (omega arith)

    module _ (spans ys : List Span) (k : ℕ) (s : spans ≡ take i spans₀ ++ (here ∷ later)) (k_is : k ≡ length (below (get_or spans i (span nan nan)).low (take (length spans - (i + 1)) (drop (i + 1) spans))))
        (y_is : ys ≡ drop 1 (take (i + 1 + k - i) (drop i spans)) ++ take 1 (take (i + 1 + k - i) (drop i spans))) where
      behind_here : drop (i + 1) spans ≡ later
      behind_here = ap (drop (i + 1)) s ∙ rest (take i spans₀) here later i front

      k_below : k ≡ length (below here.low later)
      k_below =
          k_is ∙ ap (λ (l : List Span). length (below (get_or spans i (span nan nan)).low l)) (take_all (length spans - (i + 1)) (drop (i + 1) spans) (let l = length-drop (i + 1) spans in omega arith) ∙ behind_here)
          ∙ ap (λ (t : Span). length (below t.low later)) (ap (λ (l : List Span). get_or l i (span nan nan)) s ∙ get_or_at (take i spans₀) here later (span nan nan) i front)

      placed_here : put_mid i (i + 1 + k - i) spans ys ≡ take i spans₀ ++ sorted (drop i spans₀)
      placed_here =
          ap (put_mid i (i + 1 + k - i) spans) y_is
          ∙ ap (λ (l : List Span). put_mid i (i + 1 + k - i) l (drop 1 (take (i + 1 + k - i) (drop i l)) ++ take 1 (take (i + 1 + k - i) (drop i l)))) s
          ∙ behind (take i spans₀) here later i front k (i + 1 + k - i) (omega arith)
          ∙ sym (now ∙ ap (λ (l : List Span). take i spans₀ ++ l) (insert-at here later k k_below))

  pub sorting_turn : (spans ys : List Span) (i k : ℕ) → Sorting spans i → 0 < i
      → k ≡ length (below (get_or spans (i - 1) (span nan nan)).low (take (length spans - (i - 1 + 1)) (drop (i - 1 + 1) spans)))
      → ys ≡ drop 1 (take (i - 1 + 1 + k - (i - 1)) (drop (i - 1) spans)) ++ take 1 (take (i - 1 + 1 + k - (i - 1)) (drop (i - 1) spans))
      → length ys ≡ length (mid_of (i - 1) (i - 1 + 1 + k - (i - 1)) spans)
      → Sorting (put_mid (i - 1) (i - 1 + 1 + k - (i - 1)) spans ys) (i - 1)
  sorting_turn spans ys i k s p k_is y_is as_long = record {
    within = let w = s.within in omega arith;
    long = same_len_mid (i - 1) (i - 1 + 1 + k - (i - 1)) spans ys as_long ∙ s.long;
    is = placed_here (i - 1) here spans ys k before k_is y_is;
  }
    where
      here : i - 1 < length spans₀
      here = let w = s.within in omega arith

      before : spans ≡ take (i - 1) spans₀ ++ (get_or spans₀ (i - 1) (span nan nan) ∷ sorted (drop (suc (i - 1)) spans₀))
      before = let e : i ≡ i - 1 + 1 = omega arith in s.is ∙ ap (λ (n : ℕ). take n spans₀ ++ sorted (drop n spans₀)) e ∙ next (i - 1) here

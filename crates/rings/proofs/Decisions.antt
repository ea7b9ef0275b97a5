-- The decisions on u, as loops and branches make them.
use Prim.Native.Nat.{ℕ, zero, suc, ◌+◌, ◌-◌, ◌≤◌, ◌<◌}
use mathlib.Core.Path.{◌≡◌, refl, sym, ap, ◌∙◌, subst}
use mathlib.Core.Bool.{Bool, true, false, cond, not, ◌||◌}
use mathlib.Core.List.{List, [], ◌∷◌, map, drop_last}
use native.Mathlib.Numerals.{add-one}
use native.Mathlib.Omega.{arith}
use lib.Dec.{ltb}
use borrow.Author.Tests.{lt-ltb, le-ltb}
use lib.Ieee.{Float, nan, lt, le}
use lib.ListN.{length, get_or, take, drop, length-map}
use Rattle.std.specs.Prelude.{Option, Some, None}
use Rattle.std.specs.Option.{unwrap_or}
use Rattle.std.specs.List.{position_or_len, list_any}
use Rattle.std.specs.Slice.Iter.{windows_size, windows_rest, windows_steps}
use Rattle.std.proofs.lemmas.Iterator.{YieldsList}
use Rattle.std.proofs.lemmas.Iterator.Splits.{YieldsList-from_shown_while}
use Rattle.numbers.specs.Constants.{10^-12}
use Rattle.numbers.specs.Rounded.{◌⊕◌, ◌⊖◌}
use Rattle.loops.specs.Span.{least_of, greatest_of}
use Rattle.lists.proofs.Elements.{get_d_map, length-drop_last, drop_last-take}
use Rattle.rings.specs.Choices.{first_from, first_least, first_past, first_open_past, begins_backward, straddles, offset, nearest, step_stands, stands_at_the_cut, serve, first_of}

-- ---- branches

module _ (us : List Float) where
  pub few_forward : length us ≤ 3 → false ≡ begins_backward us
  unfolding begins_backward
  few_forward h = sym (rw (le-ltb 3 (length us) h))

  pub second-first : 3 < length us → lt (get_or us 1 nan) (get_or us 0 nan) ≡ begins_backward us
  unfolding begins_backward
  second-first h = sym (rw (lt-ltb 3 (length us) h))

  module _ (period lo : Float) (high : Float) (is_high : high ≡ greatest_of us) where
    pub past_end : lt (lo ⊕ period ⊕ 10^-12) high ≡ true → true ≡ straddles period lo us
    unfolding straddles
    past_end t = sym (rw (← is_high, t))

    pub below-begin : lt (lo ⊕ period ⊕ 10^-12) high ≡ false → (low : Float) → low ≡ least_of us → lt low (lo ⊖ 10^-12) ≡ straddles period lo us
    unfolding straddles
    below-begin t low is_low = sym (rw (← is_high, t, ← is_low))

-- ---- the first point at or past the cut

-- from point k on, behind which stand the points xs
first_is : (test : Float → Bool) (us xs : List Float) (k : ℕ) → ((i : ℕ) → get_or us (k + i) nan ≡ get_or xs i nan)
    → first_from (λ i. test (get_or us i nan)) k (length xs) ≡ k + position_or_len test xs
unfolding first_from
first_is test us [] k h = omega arith
first_is test us (x ∷ xs) k h =
    let here : k + 0 ≡ k = omega arith in
    let e : get_or us k nan ≡ x = ap (λ (i : ℕ). get_or us i nan) (sym here) ∙ h 0 in
    let further = first_is test us xs (suc k) (λ i. let z : suc k + i ≡ k + suc i = omega arith in ap (λ (j : ℕ). get_or us j nan) z ∙ h (suc i)) in
    rw (e, further) (go (test x))
  where
    go : (b : Bool) → cond b k (suc k + position_or_len test xs) ≡ k + cond (not b) (1 + position_or_len test xs) 0
    go true = omega arith
    go false = omega arith

or_zero : (b : Bool) (k : ℕ) → unwrap_or (cond b (Some k) None) 0 ≡ cond b k 0
or_zero true k = refl
or_zero false k = refl

module _ (cut : Float) (us : List Float) where
  -- what `position` answers
  pub past_first : (place : Option ℕ) → place ≡ cond (ltb (position_or_len (le cut) us) (length us)) (Some (position_or_len (le cut) us)) None
      → unwrap_or place 0 ≡ first_past cut us
  unfolding first_past
  past_first place e =
      let k : first_from (λ i. le cut (get_or us i nan)) 0 (length us) ≡ position_or_len (le cut) us = first_is (le cut) us us 0 (λ i. let z : 0 + i ≡ i = omega arith in rw z) ∙ omega arith in
      rw (e, k) (or_zero (ltb (position_or_len (le cut) us) (length us)) (position_or_len (le cut) us))

  -- its open points alone
  pub open_none : length us ≡ 0 → 0 ≡ first_open_past cut us
  unfolding first_open_past first_past first_from
  open_none h = let none : length (drop_last us) ≡ 0 = let d = length-drop_last us in omega arith in sym (rw none)

  -- a slice's part from 0 on, as it is read
  pub open_past : (k : ℕ) → k ≡ first_past cut (take (length us - 1 - 0) us) → k ≡ first_open_past cut us
  unfolding first_open_past
  open_past k e =
      let n : length us - 1 - 0 ≡ length us - 1 = omega arith in
      e ∙ ap (first_past cut) (ap (λ (m : ℕ). take m us) n ∙ sym (drop_last-take us))

-- ---- the point nearest the cut

module _ (period cut : Float) (us : List Float) where
  abbrev offsets : List Float
  offsets = map (offset period cut) (drop_last us)

  length_offsets : length offsets ≡ length us - 1
  length_offsets = length-map (drop_last us) (offset period cut) ∙ length-drop_last us

  get_or-drop_last : (us : List Float) (i : ℕ) → i < length us - 1 → get_or (drop_last us) i nan ≡ get_or us i nan
  get_or-drop_last [] i h = refl
  get_or-drop_last (u ∷ []) i h = absurd (omega arith)
  get_or-drop_last (u ∷ v ∷ us) zero h = refl
  get_or-drop_last (u ∷ v ∷ us) (suc i) h = get_or-drop_last (v ∷ us) i (omega arith)

  offset_at : (i : ℕ) → i < length us - 1 → get_or offsets i nan ≡ offset period cut (get_or us i nan)
  offset_at i h =
      let l : i < length (drop_last us) = let d = length-drop_last us in omega arith in
      get_d_map (offset period cut) (drop_last us) i nan nan l ∙ ap (offset period cut) (get_or-drop_last us i h)

  pub record Nearing (best : ℕ) (low : Float) (i : ℕ) : Type 0 where
    pub far : i ≤ length us - 1
    pub is : best ≡ first_least offsets i
    pub low_is : low ≡ get_or offsets best nan

  pub nearing : (low : Float) → 2 ≤ length us → low ≡ offset period cut (get_or us 0 nan) → Nearing 0 low 0
  unfolding first_least
  nearing low h e = record { far = omega arith; is = refl; low_is = e ∙ sym (offset_at 0 (omega arith)) }

  step-least : (best i : ℕ) (low x : Float) (t : Bool) → Nearing best low i → i < length us - 1 → x ≡ offset period cut (get_or us i nan) → lt x low ≡ t
      → first_least offsets (i + 1) ≡ cond t i best
  unfolding first_least
  step-least best i low x t n h e f =
      let d : lt (get_or offsets i nan) (get_or offsets best nan) ≡ t = rw (offset_at i h, ← e, ← n.low_is) f in
      rw (add-one, ← n.is, d)

  pub nearing_less : (best i : ℕ) (low x : Float) → Nearing best low i → i < length us - 1 → x ≡ offset period cut (get_or us i nan) → lt x low ≡ true → Nearing i x (i + 1)
  nearing_less best i low x n h e t = record {
    far = omega arith;
    is = sym (step-least best i low x true n h e t);
    low_is = e ∙ sym (offset_at i h);
  }

  pub nearing_other : (best i : ℕ) (low x : Float) → Nearing best low i → i < length us - 1 → x ≡ offset period cut (get_or us i nan) → lt x low ≡ false → Nearing best low (i + 1)
  nearing_other best i low x n h e t = record {
    far = omega arith;
    is = sym (step-least best i low x false n h e t);
    low_is = n.low_is;
  }

  pub nearing_end : (best i : ℕ) (low : Float) → Nearing best low i → length us - 1 ≤ i → best ≡ nearest period cut us
  unfolding nearest
  nearing_end best i low n h = let e : i ≡ length offsets = let l = length_offsets in omega (arith, n.far) in n.is ∙ ap (first_least offsets) e

  pub nearest-none : length us < 2 → 0 ≡ nearest period cut us
  unfolding nearest first_least
  nearest-none h = let e : length offsets ≡ 0 = let l = length_offsets in omega arith in sym (ap (first_least offsets) e)

-- ---- a constant step on the seam

-- the points that follow each other
abbrev pub pairs_of : List Float → List (List Float)
pairs_of [] = []
pairs_of (a ∷ []) = []
pairs_of (a ∷ b ∷ us) = (a ∷ b ∷ []) ∷ pairs_of (b ∷ us)

no_pairs : (us : List Float) → length us < 2 → length (pairs_of us) ≡ 0
no_pairs [] h = refl
no_pairs (a ∷ []) h = refl
no_pairs (a ∷ b ∷ us) h = absurd (omega arith)

more_pairs : (us : List Float) → 2 ≤ length us → pairs_of us ≡ take 2 us ∷ pairs_of (drop 1 us)
more_pairs [] h = absurd (omega arith)
more_pairs (a ∷ []) h = absurd (omega arith)
more_pairs (a ∷ b ∷ us) h = refl

pub windows_road : {s : _} (us : List Float) → windows_size s ≡ 2 → windows_rest s ≡ us → YieldsList windows_steps (λ w. w.now) s (pairs_of us)
windows_road {s} us two e =
    subst (λ (xs : List Float). YieldsList windows_steps (λ w. w.now) s (pairs_of xs)) e
    (YieldsList-from_shown_while windows_steps (λ w. w.now) (λ t. pairs_of (windows_rest t)) (λ t. windows_size t ≡ 2)
    (λ s t size step. no_pairs (windows_rest s) (omega (arith, step.1.0)))
    (λ s w t size step. (step.0 ∙ size, rw step.1.2 (rw (step.1.1, size) (more_pairs (windows_rest s) (omega (arith, step.1.0)))))) s two)

module _ (period cut : Float) where
  abbrev pub pair_stands : List Float → Bool
  pair_stands w = step_stands period cut (get_or w 0 nan) (get_or w 1 nan)

  pub any_stands : (us : List Float) → list_any pair_stands (pairs_of us) ≡ stands_at_the_cut period cut us
  unfolding stands_at_the_cut
  any_stands [] = refl
  any_stands (a ∷ []) = refl
  any_stands (a ∷ b ∷ us) = ap (λ (t : Bool). step_stands period cut a b || t) (any_stands (b ∷ us))

-- ---- whether two rings serve

module _ (period : Float) (first later : List Float) where
  pub serve_backward : (t : Bool) → t ≡ begins_backward first → t ≡ true → false ≡ serve period first later
  unfolding serve
  serve_backward t e f = sym (rw (← e, f))

  module _ (b : Bool) (b_is : b ≡ begins_backward first) (forward : b ≡ false) (cut : Float) (cut_is : cut ≡ first_of first) where
    pub serve-first : (t : Bool) → t ≡ stands_at_the_cut period cut first → t ≡ true → false ≡ serve period first later
    unfolding serve
    serve-first t e f = sym (rw (← b_is, forward, ← cut_is, ← e, f))

    pub serve-later : (s t : Bool) → s ≡ stands_at_the_cut period cut first → s ≡ false → t ≡ stands_at_the_cut period cut later → not t ≡ serve period first later
    unfolding serve
    serve-later s t d f e = sym (rw (← b_is, forward, ← cut_is, ← d, f, ← e))

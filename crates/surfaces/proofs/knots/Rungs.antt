-- The laws of the rungs that callers use: how many, which, the first, the last, and the ends.
use Rattle.std.proofs.Common.{◌≡◌, ℕ, zero, suc, ◌+◌, ◌-◌, ◌^◌, ◌<◌, ◌≤◌, max, Bool, true, false, not, T, ◌⊎◌, List, [], ◌∷◌, ◌++◌, length, get_or, drop, sym, refl, ap, ◌∙◌, subst, inl, inr, le_of_suc-le-suc, not-suc-le-zero, arith, length-append, length-drop, get_or-drop}
use mathlib.Core.List.{drop_last}
use lib.Seq.{sets}
use lib.Ieee.{Float, nan, fin, binary64, mul, le, ne, of_bits}
use lib.Ieee.Scale.{finite}
use Rattle.lists.proofs.Stores.{sets-at}
use Rattle.numbers.specs.Constants.{plus_zero, 10^-9}
use Rattle.numbers.specs.Order.{abs_of}
use Rattle.numbers.specs.Rounded.{◌⊕◌, ◌⊖◌, ◌⊗◌, count}
use Rattle.numbers.proofs.Monotone.{of_int_positive}
use Rattle.numbers.proofs.Zeros.{nil, none_of, plus_none, minus_negative_zero, as_one-eq}
use Rattle.surfaces.specs.Rungs.{division, divisions_from, slack_of, kept_after, kept_divisions, ended_on, rungs, EndsOn, EndWritten, inner}
use Rattle.surfaces.proofs.knots.Ended.{ended_is, inner_ended, length_ended, last_added, each_front, each_ended}
use Rattle.surfaces.proofs.knots.Inner.{inner-length}
use Rattle.surfaces.proofs.knots.Kept.{Kept, kept_after_lem, kept-few, kept_each}
use Rattle.surfaces.proofs.knots.Rising.{Stretch}

module _ (lo hi : Float) (n : ℕ) where
  pub from-length : (i k : ℕ) → length (divisions_from lo hi n i k) ≡ k
  unfolding divisions_from
  from-length i zero = refl
  from-length i (suc k) = ap suc (from-length (suc i) k)

  pub from_at : (i k j : ℕ) → j < k → get_or (divisions_from lo hi n i k) j nan ≡ division lo hi n (i + j)
  unfolding divisions_from
  from_at i zero j h = absurd (not-suc-le-zero h)
  from_at i (suc k) zero h = let e : i + 0 ≡ i = omega arith in rw e
  from_at i (suc k) (suc j) h = let e : suc i + j ≡ i + suc j = omega arith in from_at (suc i) k j (le_of_suc-le-suc h) ∙ ap (division lo hi n) e

  pub after : List Float
  after = kept_after (slack_of lo hi) (division lo hi n 0) (divisions_from lo hi n 1 n)

  pub kept : Kept (slack_of lo hi) (division lo hi n 0) (divisions_from lo hi n 1 n) after
  unfolding after
  kept = kept_after_lem (slack_of lo hi) (division lo hi n 0) (divisions_from lo hi n 1 n)

  pub kept_are : kept_divisions lo hi n ≡ division lo hi n 0 ∷ after
  unfolding kept_divisions divisions_from after
  kept_are = refl

  -- ---- where the ends are one as numbers, what is kept; else the upper end in the place of the last of it, or after a lone one
  pub rungs-kept : ne lo hi ≡ false → rungs lo hi n ≡ kept_divisions lo hi n
  unfolding rungs
  rungs-kept h = rw h

  pub rungs-set : ne lo hi ≡ true → rungs lo hi n ≡ ended_on hi (kept_divisions lo hi n)
  unfolding rungs
  rungs-set h = rw h

  -- what holds of both holds of the rungs
  pub rungs_either : (P : List Float → Type 0) → P (division lo hi n 0 ∷ after) → P (ended_on hi (division lo hi n 0 ∷ after)) → P (rungs lo hi n)
  rungs_either P p q = go (ne lo hi) refl
    where
      go : (t : Bool) → ne lo hi ≡ t → P (rungs lo hi n)
      go true h = subst P (sym (rungs-set h ∙ ap (ended_on hi) kept_are)) q
      go false h = subst P (sym (rungs-kept h ∙ kept_are)) p

  -- 02, N2: "`merge_even` now ends on its upper bound itself, whenever the bounds differ"
  rungs-front : ne lo hi ≡ true → rungs lo hi n ≡ (division lo hi n 0 ∷ drop_last after) ++ (hi ∷ [])
  rungs-front h = rungs-set h ∙ ap (ended_on hi) kept_are ∙ ended_is hi (division lo hi n 0) after

  pub rungs-end : (k : ℕ) → k ≡ length (rungs lo hi n) - 1 → EndsOn lo hi k (rungs lo hi n)
  rungs-end k e h =
      let front = division lo hi n 0 ∷ drop_last after in
      let m = ap length (rungs-front h) in
      let a = length-append front (hi ∷ []) in
      (front, omega arith, rungs-front h)

  last_rung : ne lo hi ≡ true → get_or (rungs lo hi n) (length (rungs lo hi n) - 1) nan ≡ hi
  last_rung h = ap (λ (l : List Float). get_or l (length l - 1) nan) (rungs-front h) ∙ last_added hi (division lo hi n 0 ∷ drop_last after)

  -- so it does where it is written
  pub end-written : (from : ℕ) (os out : List Float) → out ≡ sets os 0 (drop from (rungs lo hi n)) → EndWritten lo hi n from out
  end-written from os out e h k at room =
      let xs = drop from (rungs lo hi n) in
      let many : length xs ≡ suc k = length-drop from (rungs lo hi n) ∙ omega arith in
      let last : from + k ≡ length (rungs lo hi n) - 1 = omega arith in
      sets-at os xs out k nan e room (omega arith) ∙ get_or-drop from (rungs lo hi n) k nan
      ∙ ap (λ (j : ℕ). get_or (rungs lo hi n) j nan) last ∙ last_rung h

  -- the inner rungs are those of the divisions kept: no wall of a band moves
  pub inner-kept : inner (rungs lo hi n) ≡ inner (kept_divisions lo hi n)
  inner-kept =
      let first = division lo hi n 0 in
      rungs_either (λ (l : List Float). inner l ≡ inner (kept_divisions lo hi n)) (ap inner (sym kept_are)) (inner_ended hi first after ∙ ap inner (sym kept_are))

  inner_is : inner (rungs lo hi n) ≡ drop_last after
  unfolding inner
  inner_is = inner-kept ∙ ap inner kept_are

  -- a first one, so many inner ones, and the upper end
  pub inner-end : (m : ℕ) → m ≡ length (inner (rungs lo hi n)) → EndsOn lo hi (m + 1) (rungs lo hi n)
  inner-end m e h =
      let front = division lo hi n 0 ∷ drop_last after in
      let i = ap length inner_is in
      (front, omega arith, rungs-front h)

  -- the first division, the inner rungs and the upper end
  pub rungs_ended : ne lo hi ≡ true → rungs lo hi n ≡ division lo hi n 0 ∷ (inner (rungs lo hi n) ++ (hi ∷ []))
  rungs_ended h =
      let first = division lo hi n 0 in
      rungs-set h ∙ ap (ended_on hi) kept_are ∙ ended_is hi first after ∙ ap (λ (l : List Float). first ∷ (l ++ (hi ∷ []))) (sym inner_is)

  -- ---- how many: at least one, and at most n + 1, or two
  pub rungs_some : 0 < length (rungs lo hi n)
  rungs_some = let e = length_ended hi (division lo hi n 0) after in rungs_either (λ (l : List Float). 0 < length l) (omega arith) (omega arith)

  pub rungs-few : length (rungs lo hi n) ≤ max n 1 + 1
  rungs-few =
      let a = kept-few kept in
      let b = from-length 1 n in
      let e = length_ended hi (division lo hi n 0) after in
      rungs_either (λ (l : List Float). length l ≤ max n 1 + 1) (omega arith) (omega arith)

  pub kept-most : length (kept_divisions lo hi n) ≤ n + 1
  kept-most =
      let a = kept-few kept in
      let b = from-length 1 n in
      rw kept_are (omega arith)

  pub inner-few : length (inner (rungs lo hi n)) ≤ n - 1
  inner-few = let a = kept-most in let b = ap length inner-kept ∙ inner-length (kept_divisions lo hi n) in omega arith

  -- ---- which: each inner one is a division, and each other one too or the upper end
  pub record IsDivision (x : Float) : Type 0 where
    pub at : ℕ
    pub most : at ≤ n
    pub is : x ≡ division lo hi n at

  later : (i : ℕ) → i < length (divisions_from lo hi n 1 n) → IsDivision (get_or (divisions_from lo hi n 1 n) i nan)
  later i h = let l : i < n = omega (arith, from-length 1 n) in record { at = 1 + i; most = omega arith; is = from_at 1 n i l }

  after_each : (j : ℕ) → j < length after → IsDivision (get_or after j nan)
  after_each = kept_each IsDivision kept later

  pub inner_each : (j : ℕ) → j < length (inner (rungs lo hi n)) → IsDivision (get_or (inner (rungs lo hi n)) j nan)
  inner_each = rw inner_is (each_front IsDivision after after_each)

  pub rungs_each : (j : ℕ) → j < length (rungs lo hi n) → IsDivision (get_or (rungs lo hi n) j nan) ⊎ (get_or (rungs lo hi n) j nan ≡ hi)
  rungs_each = rungs_either (λ (l : List Float). (j : ℕ) → j < length l → Rung (get_or l j nan)) all (rw (ended_is hi (division lo hi n 0) after) set)
    where
      Rung : Float → Type 0
      Rung x = IsDivision x ⊎ (x ≡ hi)

      first : Rung (division lo hi n 0)
      first = inl (record { at = 0; most = omega arith; is = refl })

      all : (j : ℕ) → j < length (division lo hi n 0 ∷ after) → Rung (get_or (division lo hi n 0 ∷ after) j nan)
      all zero h = first
      all (suc j) h = inl (after_each j (le_of_suc-le-suc h))

      set : (j : ℕ) → j < length (division lo hi n 0 ∷ (drop_last after ++ (hi ∷ []))) → Rung (get_or (division lo hi n 0 ∷ (drop_last after ++ (hi ∷ []))) j nan)
      set zero h = first
      set (suc j) h = each_ended Rung hi (inr refl) after (λ i l. inl (after_each i l)) j (le_of_suc-le-suc h)
      -- ---- of the divisions kept no two neighbours are near, and each division is kept or near the one kept before it

-- ---- the first is lo + 0.0: lo as a number, and 0.0 for -0.0
first-division : (lo hi : Float) (n : ℕ) → Stretch lo hi → n ≤ 2 ^ 53 → division lo hi n 0 ≡ lo ⊕ plus_zero
unfolding division
first-division lo hi n s few =
    let z = none_of (hi ⊖ lo) (count (max n 1)) s.wide (of_int_positive binary64 (max n 1) (omega arith) (omega arith)) in
    ap (λ (q : Float). lo ⊕ q) z.is
    ∙ plus_none lo z.sign s.lower (λ e p. minus_negative_zero hi e z.sign z.size z.expo (subst (λ (x : Float). T (le x hi)) p s.order) (subst (λ (x : Float). hi ⊖ x ≡ fin z.sign z.size z.expo) p z.width))

-- ---- between two ends that differ: the lower end as a number, the inner rungs and the upper end itself
pub rungs-between : (lo hi : Float) (n : ℕ) → Stretch lo hi → n ≤ 2 ^ 53 → ne lo hi ≡ true
    → rungs lo hi n ≡ (lo ⊕ plus_zero) ∷ (inner (rungs lo hi n) ++ (hi ∷ []))
rungs-between lo hi n s few h = rungs_ended lo hi n h ∙ ap (λ (x : Float). x ∷ (inner (rungs lo hi n) ++ (hi ∷ []))) (first-division lo hi n s few)

-- ---- no steps: the first alone, or the two ends; and no width: the first alone
least : le (abs_of (nil false)) (abs_of (nil false) ⊗ 10^-9) ≡ true
unfolding le abs_of mul of_bits
least = refl

itself : (x : Float) → T (finite x) → ne x x ≡ false
unfolding ne
itself x h = ap not (as_one-eq x x h (inl refl))

-- ---- first, inner and last of two or more
init_last : (x : Float) (xs : List Float) → x ∷ xs ≡ drop_last (x ∷ xs) ++ (get_or (x ∷ xs) (length xs) nan ∷ [])
init_last x [] = refl
init_last x (y ∷ ys) = ap (λ (l : List Float). x ∷ l) (init_last y ys)

pub ends : (xs : List Float) → 1 < length xs → xs ≡ get_or xs 0 nan ∷ (inner xs ++ (get_or xs (length xs - 1) nan ∷ []))
unfolding inner
ends [] h = absurd (not-suc-le-zero h)
ends (x ∷ []) h = absurd (not-suc-le-zero (le_of_suc-le-suc h))
ends (x ∷ y ∷ ys) h = let e : length (x ∷ y ∷ ys) - 1 ≡ suc (length ys) = omega arith in rw e (ap (λ (l : List Float). x ∷ l) (init_last y ys))

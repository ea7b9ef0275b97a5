-- The divisions of a stretch never fall, rounding included. So the sort of the Rust leaves them as they are, and what is kept of them never falls either.
use Rattle.std.proofs.Common.{◌≡◌, ℕ, zero, suc, ◌+◌, ◌^◌, ◌≤◌, max, T, List, [], ◌∷◌, refl, ap, ◌∙◌, arith, lit<}
use lib.Ieee.{Float, binary64, le}
use lib.Ieee.Fits.{and_i, and_l, and_r}
use lib.Ieee.Scale.{finite}
use Rattle.numbers.specs.Rounded.{◌⊖◌, ◌⊗◌, ◌⊘◌, count}
use Rattle.numbers.specs.Within.{Within}
use Rattle.numbers.proofs.Signed.{le_trans_float, not_less}
use Rattle.numbers.proofs.Magnitude.{within_finite, sub-pow}
use Rattle.numbers.proofs.Monotone.{add_mono_right, mul_mono_right, div_mono, sub_nonneg, of_int_mono, of_int_finite, of_int_positive}
use Rattle.surfaces.specs.Rungs.{division, divisions_from, divisions, slack_of, kept, kept_divisions}
use Rattle.surfaces.proofs.knots.Kept.{Kept, done, dropped, taken, kept_after_lem}
use Rattle.surfaces.specs.Sorting.{insert, sorted, rising_from, rising}

-- lo ≤ hi, both finite, and so is their difference
pub record Stretch (lo hi : Float) : Type 0 where
  pub lower : T (finite lo)
  pub upper : T (finite hi)
  pub order : T (le lo hi)
  pub wide : T (finite (hi ⊖ lo))

pub stretch_of : (lo hi : Float) → Within (2 ^ 1000) lo → Within (2 ^ 1000) hi → T (le lo hi) → Stretch lo hi
stretch_of lo hi v w h =
    record {
      lower = within_finite (2 ^ 1000) lo v;
      upper = within_finite (2 ^ 1000) hi w;
      order = h;
      wide = within_finite (2 ^ 1001) (hi ⊖ lo) (sub-pow 1000 hi lo (lit< tt) w v);
    }

module _ (lo hi : Float) (n : ℕ) (s : Stretch lo hi) (few : n ≤ 2 ^ 53) where
  -- ---- a division and a later one
  pub division_mono : (i j : ℕ) → i ≤ j → j ≤ 2 ^ 53 → T (le (division lo hi n i) (division lo hi n j))
  unfolding division
  division_mono i j h l =
      let all = count (max n 1) in
      let width = hi ⊖ lo in
      add_mono_right binary64 lo (width ⊗ count i ⊘ all) (width ⊗ count j ⊘ all) s.lower
      (div_mono binary64 all (width ⊗ count i) (width ⊗ count j) (of_int_positive binary64 (max n 1) (omega arith) (omega arith))
      (mul_mono_right binary64 width (count i) (count j) s.wide (sub_nonneg binary64 hi lo s.upper s.lower s.order)
      (of_int_finite binary64 i (omega arith)) (of_int_finite binary64 j l) (of_int_mono binary64 i j h)))

  from_rise : (i k : ℕ) → i + k ≤ 2 ^ 53 → T (rising_from (division lo hi n i) (divisions_from lo hi n (suc i) k))
  unfolding divisions_from
  from_rise i zero l = tt
  from_rise i (suc k) l =
      and_i (le (division lo hi n i) (division lo hi n (suc i))) (rising_from (division lo hi n (suc i)) (divisions_from lo hi n (suc (suc i)) k))
      (division_mono i (suc i) (omega arith) (omega arith)) (from_rise (suc i) k (omega arith))

  pub divisions_rise : T (rising (divisions lo hi n))
  unfolding divisions_from
  divisions_rise = from_rise 0 n (omega arith)

-- ---- a list that never falls is its own sort
insert-first : (x : Float) (xs : List Float) → T (rising_from x xs) → insert x xs ≡ x ∷ xs
insert-first x [] h = refl
insert-first x (y ∷ ys) h = rw (not_less x y (and_l (le x y) (rising_from y ys) h))

sorted-from : (x : Float) (xs : List Float) → T (rising_from x xs) → sorted (x ∷ xs) ≡ x ∷ xs
sorted-from x [] h = refl
sorted-from x (y ∷ ys) h = ap (insert x) (sorted-from y ys (and_r (le x y) (rising_from y ys) h)) ∙ insert-first x (y ∷ ys) h

pub sorted-rising : (xs : List Float) → T (rising xs) → sorted xs ≡ xs
sorted-rising [] h = refl
sorted-rising (x ∷ xs) h = sorted-from x xs h

-- ---- what is kept never falls
pub lower-start : (x y : Float) (ys : List Float) → T (le x y) → T (rising_from y ys) → T (rising_from x ys)
lower-start x y [] h k = tt
lower-start x y (z ∷ zs) h k = and_i (le x z) (rising_from z zs) (le_trans_float x y z h (and_l (le y z) (rising_from z zs) k)) (and_r (le y z) (rising_from z zs) k)

kept_rise : {e last : Float} {xs ks : List Float} → Kept e last xs ks → T (rising_from last xs) → T (rising_from last ks)
kept_rise done h = tt
kept_rise {last = last} (dropped {x = x} {xs = xs} n k) h = kept_rise k (lower-start last x xs (and_l (le last x) (rising_from x xs) h) (and_r (le last x) (rising_from x xs) h))
kept_rise {last = last} (taken {x = x} {xs = xs} {ks = ks} n k) h = and_i (le last x) (rising_from x ks) (and_l (le last x) (rising_from x xs) h) (kept_rise k (and_r (le last x) (rising_from x xs) h))

module _ (lo hi : Float) (n : ℕ) (s : Stretch lo hi) (few : n ≤ 2 ^ 53) where
  pub kept_rises : T (rising (kept_divisions lo hi n))
  unfolding kept_divisions divisions_from
  kept_rises = kept_rise (kept_after_lem (slack_of lo hi) (division lo hi n 0) (divisions_from lo hi n 1 n)) (divisions_rise lo hi n s few)

  -- what `merge_even` of the Rust keeps, its sort included
  pub sort_changes_nothing : kept (slack_of lo hi) (sorted (divisions lo hi n)) ≡ kept_divisions lo hi n
  unfolding kept_divisions
  sort_changes_nothing = ap (kept (slack_of lo hi)) (sorted-rising (divisions lo hi n) (divisions_rise lo hi n s few))

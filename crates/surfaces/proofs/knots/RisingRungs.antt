-- The rungs that end on the upper bound never fall, where no division but the top one passes it.
use Rattle.std.proofs.Common.{ℕ, suc, ◌-◌, ◌^◌, ◌<◌, ◌≤◌, true, T, List, [], ◌∷◌, ◌++◌, length, get_or, sym, subst, suc-le-suc, arith}
use mathlib.Core.List.{drop_last}
use lib.Ieee.{Float, nan, le}
use lib.Ieee.Fits.{and_i, and_l, and_r}
use Rattle.numbers.proofs.Signed.{le_trans_float}
use Rattle.surfaces.specs.Rungs.{division, divisions_from, rungs}
use Rattle.surfaces.specs.Sorting.{rising_from, rising}
use Rattle.surfaces.proofs.knots.Kept.{Kept, done, dropped, taken, kept-few}
use Rattle.surfaces.proofs.knots.Rising.{Stretch, division_mono, divisions_rise, kept_rises, lower-start}
use Rattle.surfaces.proofs.knots.Ended.{ended_is}
use Rattle.surfaces.proofs.knots.Rungs.{from-length, from_at, after, kept, kept_are, rungs_either}

module _ (hi : Float) where
  -- all but the last of xs are at most hi
  abbrev Below : List Float → Type 0
  Below xs = (j : ℕ) → suc j < length xs → T (le (get_or xs j nan) hi)

  ended_rise : {e last : Float} {xs ks : List Float} → Kept e last xs ks → T (rising_from last xs) → T (le last hi) → Below xs
      → T (rising_from last (drop_last ks ++ (hi ∷ [])))
  ended_rise {last = last} done r h b = and_i (le last hi) true h tt
  ended_rise {last = last} (dropped {x = x} {xs = xs} n k) r h b =
      ended_rise k (lower-start last x xs (and_l (le last x) (rising_from x xs) r) (and_r (le last x) (rising_from x xs) r)) h (λ j l. b (suc j) (suc-le-suc l))
  ended_rise {last = last} (taken {x = x} {xs = xs} {ks = []} n k) r h b = and_i (le last hi) true h tt
  ended_rise {last = last} (taken {x = x} {xs = xs} {ks = y ∷ ys} n k) r h b =
      let few = kept-few k in
      and_i (le last x) (rising_from x (drop_last (y ∷ ys) ++ (hi ∷ []))) (and_l (le last x) (rising_from x xs) r)
      (ended_rise k (and_r (le last x) (rising_from x xs) r) (b 0 (omega arith)) (λ j l. b (suc j) (suc-le-suc l)))

module _ (lo hi : Float) (n : ℕ) (s : Stretch lo hi) (few : n ≤ 2 ^ 53) (below : T (le (division lo hi n (n - 1)) hi)) where
  before_top : (i : ℕ) → i ≤ n - 1 → T (le (division lo hi n i) hi)
  before_top i h = le_trans_float _ _ _ (division_mono lo hi n s few i (n - 1) h (omega arith)) below

  divisions-below : Below hi (divisions_from lo hi n 1 n)
  divisions-below j h =
      let l : j < n = omega (arith, from-length lo hi n 1 n) in
      subst (λ (x : Float). T (le x hi)) (sym (from_at lo hi n 1 n j l)) (before_top _ (omega (arith, from-length lo hi n 1 n)))

  pub rungs_rise : T (rising (rungs lo hi n))
  unfolding divisions_from
  rungs_rise =
      let first = division lo hi n 0 in
      rungs_either lo hi n (λ (l : List Float). T (rising l))
      (subst (λ (l : List Float). T (rising l)) (kept_are lo hi n) (kept_rises lo hi n s few))
      (subst (λ (l : List Float). T (rising l)) (sym (ended_is hi first (after lo hi n))) ended)
    where
      ended : T (rising_from (division lo hi n 0) (drop_last (after lo hi n) ++ (hi ∷ [])))
      ended = ended_rise hi (kept lo hi n) (divisions_rise lo hi n s few) (before_top 0 (omega arith)) divisions-below

-- How many points lists of loops have together: no path makes holes of more points than the record has.
use Prim.Native.Nat.{ℕ, zero, suc, ◌+◌, ◌≤◌, ◌<◌}
use mathlib.Core.Path.{◌≡◌, refl, sym, ap, ◌∙◌}
use mathlib.Core.Bool.{Bool, true, false, cond}
use mathlib.Core.List.{List, [], ◌∷◌, ◌++◌, map}
use native.Mathlib.Numerals.{add-one}
use native.Mathlib.Omega.{arith}
use lib.ListN.{length, get_or, take, drop, length-append, take-append-drop}
use lib.Ieee.{Float}
use Rattle.lists.specs.Pieces.{pieces}
use Rattle.closed_region.specs.Outer.{holes_of}
use Rattle.lists.specs.Elements.{only, sum, All, none, and}
use Rattle.records.specs.Result.{Short}
use Rattle.tables.specs.Corners.{corners_from}
use Rattle.call.proofs.Each.{all_so}

module _ {A : Type 0} where
  -- the elements of all lists together
  abbrev pub total : List (List A) → ℕ
  total ls = sum (map length ls)

  pub pieces-total : (ns : List ℕ) (xs : List A) → total (pieces ns xs) ≤ length xs
  unfolding pieces sum
  pieces-total [] xs = omega arith
  pieces-total (n ∷ ns) xs =
      let e : length (take n xs) + length (drop n xs) ≡ length xs = sym (length-append (take n xs) (drop n xs)) ∙ ap length (take-append-drop n xs) in
      let h = pieces-total ns (drop n xs) in
      omega arith

  -- none of them has more than all together
  pub each_short : (ls : List (List A)) → All (λ (l : List A). length l ≤ total ls) ls
  unfolding sum
  each_short [] = none
  each_short (l ∷ ls) = let here : length l ≤ length l + total ls = omega arith in and here (all_so (λ k h. omega arith) (each_short ls))

-- ---- lists less one element

module _ {A : Type 0} where
  abbrev less : ℕ → List A → List A
  less n ls = take n ls ++ drop (suc n) ls

  holes_less : (n : ℕ) (ls : List A) → holes_of n ls ≡ less n ls
  unfolding holes_of
  holes_less n ls = rw (add-one n)

  less_few : (n : ℕ) (ls : List A) → length (less n ls) ≤ length ls
  less_few zero [] = omega arith
  less_few (suc n) [] = omega arith
  less_few zero (l ∷ ls) = omega arith
  less_few (suc n) (l ∷ ls) = let h = less_few n ls in omega arith

  pub holes-few : (n : ℕ) (ls : List A) → length (holes_of n ls) ≤ length ls
  holes-few n ls = rw (holes_less n ls) (less_few n ls)

  less_total : (n : ℕ) (ls : List (List A)) → length (get_or ls n []) + total (take n ls ++ drop (suc n) ls) ≤ total ls
  unfolding sum
  less_total zero [] = omega arith
  less_total (suc n) [] = omega arith
  less_total zero (l ∷ ls) = omega arith
  less_total (suc n) (l ∷ ls) = let h = less_total n ls in omega arith

-- one of them and the others have no more elements than all
pub holes-total : {A : Type 0} (n : ℕ) (ls : List (List A)) → length (get_or ls n []) + total (holes_of n ls) ≤ total ls
holes-total n ls = rw (holes_less n ls) (less_total n ls)

-- ---- those that pass a test

module _ {A : Type 0} where
  pub only-few : (test : A → Bool) (xs : List A) → length (only test xs) ≤ length xs
  unfolding only
  only-few test [] = omega arith
  only-few test (x ∷ xs) = pick (test x) (only-few test xs)
    where
      pick : (t : Bool) → length (only test xs) ≤ length xs → length (cond t (x ∷ only test xs) (only test xs)) ≤ length (x ∷ xs)
      pick true h = omega arith
      pick false h = omega arith

  -- the sizes of those that pass
  pub only_sum : (size : A → ℕ) (test : A → Bool) (xs : List A) → sum (map size (only test xs)) ≤ sum (map size xs)
  unfolding only sum
  only_sum size test [] = omega arith
  only_sum size test (x ∷ xs) = pick (test x) (only_sum size test xs)
    where
      pick : (t : Bool) → sum (map size (only test xs)) ≤ sum (map size xs) → sum (map size (cond t (x ∷ only test xs) (only test xs))) ≤ size x + sum (map size xs)
      pick true h = omega arith
      pick false h = omega arith

  -- none passes
  pub only_none : (test : A → Bool) {xs : List A} → All (λ (x : A). test x ≡ false) xs → only test xs ≡ []
  unfolding only
  only_none test none = refl
  only_none test (and {a} {l} h hs) = ap (λ (t : Bool). cond t (a ∷ only test l) (only test l)) h ∙ only_none test hs

-- ---- corners and counts

pub corners-few : {A : Type 0} (us vs : List Float) (ps : List A) → length (corners_from us vs ps) ≤ length ps
unfolding corners_from
corners-few [] vs ps = omega arith
corners-few (u ∷ us) [] ps = omega arith
corners-few (u ∷ us) (v ∷ vs) [] = omega arith
corners-few (u ∷ us) (v ∷ vs) (p ∷ ps) = let h = corners-few us vs ps in omega arith

pub all_short_lem : (ns : List ℕ) → sum ns < 65536 → All Short ns
unfolding sum
all_short_lem [] h = none
all_short_lem (n ∷ ns) h = let short : Short n = omega arith in and short (all_short_lem ns (omega arith))

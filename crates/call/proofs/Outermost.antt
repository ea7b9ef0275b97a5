-- The number of the outer loop is below the number of the loops.
use Prim.Native.Nat.{ℕ, zero, suc, ◌≤◌, ◌<◌}
use mathlib.Core.Path.{◌≡◌}
use mathlib.Core.Bool.{Bool, true, false, cond}
use mathlib.Core.List.{List, [], ◌∷◌, ◌++◌, map, append-nil}
use native.Mathlib.Nat.{not-suc-le-zero}
use native.Mathlib.Omega.{arith}
use lib.Ieee.{Float, nan, lt}
use lib.ListN.{length, get_or, length-map}
use Rattle.std.specs.Prelude.{unwrap_or}
use Rattle.numbers.specs.Order.{abs_of}
use Rattle.numbers.specs.declared.math.Vec3.{Vec3}
use Rattle.lists.specs.Elements.{All, none, and}
use Rattle.closed_region.specs.Outer.{passing, the_one, enclosing_one, encloses_others, slack_of, last_largest, outer_of}
use Rattle.tables.specs.Corners.{Corners}
use Rattle.call.specs.Paths.{bounds_of, signed_area, outer_number}
use Rattle.call.proofs.Each.{all_append, all_so}

abbrev Below : ℕ → ℕ → Type 0
Below n i = i < n

all_higher : (m n : ℕ) {is : List ℕ} → m ≤ n → All (Below m) is → All (Below n) is
all_higher m n h a = all_so (λ i p. omega arith) a

passing-below : (test : ℕ → Bool) (n : ℕ) → All (Below n) (passing test n)
unfolding passing
passing-below test zero = none
passing-below test (suc n) = by_test (test n) (all_higher n (suc n) (omega arith) (passing-below test n))
  where
    by_test : (t : Bool) → All (Below (suc n)) (passing test n) → All (Below (suc n)) (passing test n ++ cond t (n ∷ []) [])
    by_test true earlier = let last : n < suc n = omega arith in all_append earlier (and last none)
    by_test false earlier = rw (append-nil (passing test n)) earlier

one_below : (is : List ℕ) (otherwise n : ℕ) → All (Below n) is → otherwise < n → unwrap_or (the_one is) otherwise < n
one_below [] otherwise n a h = h
one_below (i ∷ []) otherwise n (and p a) h = p
one_below (i ∷ j ∷ is) otherwise n a h = h

largest_below : (areas : List Float) (n : ℕ) → last_largest areas (suc n) < suc n
unfolding last_largest
largest_below areas zero = by_test (lt (abs_of (get_or areas 0 nan)) (abs_of (get_or areas 0 nan)))
  where
    by_test : (t : Bool) → cond t 0 0 < 1
    by_test true = omega arith
    by_test false = omega arith
largest_below areas (suc n) = by_test (lt (abs_of (get_or areas (suc n) nan)) (abs_of (get_or areas best nan))) (largest_below areas n)
  where
    best : ℕ
    best = last_largest areas (suc n)

    by_test : (t : Bool) → best < suc n → cond t best (suc n) < suc (suc n)
    by_test true h = omega arith
    by_test false h = omega arith

pub outer_below : (ls : List (Corners Vec3)) → 0 < length ls → outer_number ls < length ls
unfolding outer_number outer_of enclosing_one
outer_below [] h = absurd (not-suc-le-zero h)
outer_below (l ∷ ls) h =
    let boxes = map bounds_of (l ∷ ls) in
    let areas = map signed_area (l ∷ ls) in
    let many : length boxes ≡ length (l ∷ ls) = length-map (l ∷ ls) bounds_of in
    let largest : last_largest areas (length areas) < length (l ∷ ls) = rw (length-map (l ∷ ls) signed_area) (largest_below areas (length ls)) in
    let passed = passing-below (encloses_others (slack_of boxes) boxes) (length boxes) in
    one_below (passing (encloses_others (slack_of boxes) boxes) (length boxes)) (last_largest areas (length areas)) (length (l ∷ ls)) (all_higher (length boxes) (length (l ∷ ls)) (omega arith) passed) largest

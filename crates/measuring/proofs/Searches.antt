-- The refusals 8 to 11 as the code finds them.
use Prim.Native.Nat.{ℕ, zero, suc, ◌+◌, ◌-◌, ◌≤◌, ◌<◌}
use mathlib.Core.Path.{◌≡◌, refl, sym, ap, ◌∙◌}
use mathlib.Core.Bool.{Bool, true, false, cond}
use mathlib.Core.List.{List, [], ◌∷◌}
use native.Mathlib.Omega.{arith}
use lib.IntN.{ℤ, pos}
use lib.ListN.{length, get_or, length-map, get_or-map}
use Rattle.numbers.specs.Position.{same}
use Rattle.numbers.specs.declared.math.Vec3.{Vec3}
use Rattle.tables.specs.Corners.{Corner, Corners, positions}
use Rattle.tables.specs.Rows.{none}
use Rattle.lists.proofs.Pieces.{length-pieces}
use Rattle.loops.specs.Rings.{ends_meet}
use Rattle.loops.specs.Steps.{last_of}
use Rattle.lists.specs.Pieces.{pieces}
use Rattle.bands.specs.Given.{wraps}
use Rattle.lists.specs.Elements.{only}
use Rattle.records.specs.Refusals.{nowhere, at, first_where}
use mathlib.Core.Logic.{◌⊎◌, inl, inr}
use native.Mathlib.Nat.{eq-or-lt_of_le}
use Rattle.std.specs.Prelude.{Option, Some, None}
use Rattle.std.specs.Option.{MatchOption}
use Rattle.std.specs.List.{AllWithin, HoldsAt, filter}
use Rattle.records.specs.Answers.{place_of}
use Rattle.records.proofs.Search.{first_holds, first_fails}
use Rattle.call.specs.Later.{wraps_at, open_at, open_among, wrapping_of}
use Rattle.measuring.specs.LastWhere.{last_where}

-- ---- the ends of a loop

module _ {A : Type 0} (test : A → A → Bool) (z : A) where
  last-at : (x : A) (xs : List A) → last_of x xs ≡ get_or (x ∷ xs) (length xs) z
  last-at x [] = refl
  last-at x (y ∷ xs) = last-at y xs

  no_ends : (xs : List A) → length xs ≡ 0 → true ≡ ends_meet test xs
  unfolding ends_meet
  no_ends [] h = refl
  no_ends (x ∷ xs) h = absurd (omega arith)

  ends_are : (xs : List A) → (length xs ≡ 0 → ⊥) → test (get_or xs (length xs - 1) z) (get_or xs 0 z) ≡ ends_meet test xs
  unfolding ends_meet
  ends_are [] h = absurd (h refl)
  ends_are (x ∷ xs) h = let e : length (x ∷ xs) - 1 ≡ length xs = omega arith in rw (e, last-at x xs)

module _ (r : Corners Vec3) (n : ℕ) (n_is : n ≡ length r) where
  many : length (positions r) ≡ length r
  many = length-map r (λ (c : Corner Vec3). c.at)

  pub no_ends_in : n ≡ 0 → true ≡ ends_meet same (positions r)
  no_ends_in h = no_ends same none.at (positions r) (let m = many in omega arith)

  pub ends_in : (n ≡ 0 → ⊥) → (a b : Corner Vec3) → a ≡ get_or r (n - 1) none → b ≡ get_or r 0 none → same a.at b.at ≡ ends_meet same (positions r)
  ends_in h a b ea eb =
      let last : a.at ≡ get_or (positions r) (length (positions r) - 1) none.at =
      ap (λ (c : Corner Vec3). c.at) ea ∙ sym (get_or-map (λ (c : Corner Vec3). c.at) r (n - 1) none)
      ∙ ap (λ (k : ℕ). get_or (positions r) (k - 1) none.at) (n_is ∙ sym many) in
      let first : b.at ≡ get_or (positions r) 0 none.at = ap (λ (c : Corner Vec3). c.at) eb ∙ sym (get_or-map (λ (c : Corner Vec3). c.at) r 0 none) in
      (λ i. same (last i) (first i)) ∙ ends_are same none.at (positions r) (λ e. h (n_is ∙ sym many ∙ e))

-- ---- 8

module _ (counts : List ℕ) (r : Corners Vec3) (ws : List ℤ) where
  -- what `find` says of its answer
  abbrev pub Opening : Option ℕ → Type 0
  Opening p = MatchOption p ((k : ℕ) → 0 ≤ k → k < length counts → open_at (pieces counts r) ws k ≡ false)
      (λ i. (0 ≤ i) × (i < length counts) × (open_at (pieces counts r) ws i ≡ true) × ((k : ℕ) → 0 ≤ k → k < i → open_at (pieces counts r) ws k ≡ false))

  found : (p : Option ℕ) → Opening p → place_of p ≡ first_where (length counts) (open_at (pieces counts r) ws)
  found None h = sym ((first_fails (open_at (pieces counts r) ws) (length counts)).1 (λ j b. h j (omega arith) b))
  found (Some i) h =
      sym ((first_holds (open_at (pieces counts r) ws) (length counts) i).1 (record { inside = h.1; here = h.2; before = λ j b. h.3 j (omega arith) b }))

  pub opening_found : (p : Option ℕ) → Opening p → place_of p ≡ open_among (pieces counts r) ws
  unfolding open_among
  opening_found p h = found p h ∙ ap (λ (n : ℕ). first_where n (open_at (pieces counts r) ws)) (sym (length-pieces counts r))

-- ---- how many wrap

filter_is : (p : ℤ → Bool) (xs : List ℤ) → filter p xs ≡ only p xs
unfolding only
filter_is p [] = refl
filter_is p (x ∷ xs) = by_test (p x) (filter_is p xs)
  where
    by_test : (t : Bool) → filter p xs ≡ only p xs → cond t (x ∷ filter p xs) (filter p xs) ≡ cond t (x ∷ only p xs) (only p xs)
    by_test true e = ap (λ (l : List ℤ). x ∷ l) e
    by_test false e = e

module _ (ws : List ℤ) where
  pub count_is : length (filter wraps ws) ≡ wrapping_of ws
  unfolding wrapping_of
  count_is = ap length (filter_is wraps ws)

  -- ---- the first and the last that wraps, as std finds them

  abbrev None_in : ℕ → ℕ → Type 0
  None_in from to = AllWithin (λ w. wraps w ≡ false) ws from to

  pub first_found : (r : Option ℕ) → MatchOption r (None_in 0 (length ws)) (λ i. (i < length ws) × HoldsAt (λ w. wraps w ≡ true) ws i × None_in 0 i)
      → place_of r ≡ first_where (length ws) (wraps_at ws)
  unfolding wraps_at
  first_found None h = sym ((first_fails (wraps_at ws) (length ws)).1 (λ j b. h j (pos 0) (omega arith) b))
  first_found (Some i) h =
      sym ((first_holds (wraps_at ws) (length ws) i).1 (record { inside = h.0; here = h.1 (pos 0); before = λ j b. h.2 j (pos 0) (omega arith) b }))

  none_last : (n : ℕ) → ((j : ℕ) → j < n → wraps_at ws j ≡ false) → last_where n (wraps_at ws) ≡ nowhere
  unfolding last_where
  none_last zero h = refl
  none_last (suc n) h = rw (h n (omega arith)) (none_last n (λ j b. h j (omega arith)))

  last_at : (n i : ℕ) → i < n → wraps_at ws i ≡ true → ((j : ℕ) → i + 1 ≤ j → j < n → wraps_at ws j ≡ false) → last_where n (wraps_at ws) ≡ at i
  unfolding last_where
  last_at zero i b e h = absurd (omega arith)
  last_at (suc n) i b e h = by_place (eq-or-lt_of_le (omega arith)) (λ l. last_at n i l e (λ j a k. h j a (omega arith)))
    where
      by_place : (i ≡ n) ⊎ (i < n) → (i < n → last_where n (wraps_at ws) ≡ at i) → cond (wraps_at ws n) (at n) (last_where n (wraps_at ws)) ≡ at i
      by_place (inl q) before = rw (ap (wraps_at ws) (sym q) ∙ e) (ap at (sym q))
      by_place (inr l) before = rw (h n (omega arith) (omega arith)) (before l)

  pub last_found : (r : Option ℕ) → MatchOption r (None_in 0 (length ws)) (λ i. (i < length ws) × HoldsAt (λ w. wraps w ≡ true) ws i × None_in (i + 1) (length ws))
      → place_of r ≡ last_where (length ws) (wraps_at ws)
  unfolding wraps_at
  last_found None h = sym (none_last (length ws) (λ j b. h j (pos 0) (omega arith) b))
  last_found (Some i) h = sym (last_at (length ws) i h.0 (h.1 (pos 0)) (λ j a b. h.2 j (pos 0) a b))

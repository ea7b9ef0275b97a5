-- What holds of each element of a list still holds of each after the steps that loops go through.
use Prim.Native.Nat.{ℕ, zero, suc, ◌-◌, ◌≤◌, ◌<◌, suc-le-suc}
use mathlib.Core.Path.{◌≡◌, refl, subst, sym}
use mathlib.Core.Bool.{Bool, true, false, cond, ◌&&◌, ◌||◌}
use mathlib.Core.List.{List, [], ◌∷◌, ◌++◌, map, reverse, reverse_aux, drop_last}
use native.Mathlib.Nat.{zero-lt-suc, not-suc-le-zero, le_of_suc-le-suc}
use native.Mathlib.Omega.{arith}
use borrow.Author.Tests.{eqb-false}
use lib.Dec.{ltb, eqb}
use lib.Ieee.{Float, ne}
use lib.ListN.{length, get_or, take, drop, length-drop}
use Rattle.numbers.specs.Constants.{plus_zero}
use Rattle.lists.proofs.Elements.{length-drop_last, drop_last-take}
use Rattle.loops.specs.Repeats.{keep, kept_from, drop_successive, cut_back, drop_trailing, drop_merging, drop_repeats}
use Rattle.loops.specs.Rings.{begun, closed, turned}
use Rattle.tables.specs.Moves.{unless_zero}
use Rattle.rings.specs.Turns.{turned_unless, begin_ring_at, recut_at, turned_onto, align_at}
use Rattle.lists.specs.Elements.{only, All, none, and}

module _ {A : Type 0} {P : A → Type 0} where
  -- ---- a list and its elements

  pub all_first : {x : A} {xs : List A} → All P (x ∷ xs) → P x
  all_first (and h hs) = h

  pub all_rest : {x : A} {xs : List A} → All P (x ∷ xs) → All P xs
  all_rest (and h hs) = hs

  pub all_get_d : {xs : List A} → All P xs → (k : ℕ) (d : A) → P d → P (get_or xs k d)
  all_get_d none k d p = p
  all_get_d (and h hs) zero d p = h
  all_get_d (and h hs) (suc k) d p = all_get_d hs k d p

  pub all_in : {xs : List A} → All P xs → (k : ℕ) (d : A) → k < length xs → P (get_or xs k d)
  all_in none k d l = absurd (not-suc-le-zero l)
  all_in (and h hs) zero d l = h
  all_in (and h hs) (suc k) d l = all_in hs k d (le_of_suc-le-suc l)

  pub all_at : (xs : List A) (d : A) → ((k : ℕ) → k < length xs → P (get_or xs k d)) → All P xs
  all_at [] d h = none
  all_at (x ∷ xs) d h = and (h 0 (zero-lt-suc (length xs))) (all_at xs d (λ k l. h (suc k) (suc-le-suc l)))

  -- ---- parts

  pub all_append : {xs ys : List A} → All P xs → All P ys → All P (xs ++ ys)
  all_append none q = q
  all_append (and h hs) q = and h (all_append hs q)

  pub all_take : (k : ℕ) {xs : List A} → All P xs → All P (take k xs)
  all_take zero h = none
  all_take (suc k) none = none
  all_take (suc k) (and h hs) = and h (all_take k hs)

  pub all_drop : (k : ℕ) {xs : List A} → All P xs → All P (drop k xs)
  all_drop zero h = h
  all_drop (suc k) none = none
  all_drop (suc k) (and h hs) = all_drop k hs

  pub all_drop_last : (xs : List A) → All P xs → All P (drop_last xs)
  all_drop_last xs h = subst (All P) (sym (drop_last-take xs)) (all_take (length xs - 1) h)

  onto-back : {xs back : List A} → All P xs → All P back → All P (reverse_aux xs back)
  onto-back none q = q
  onto-back (and h hs) q = onto-back hs (and h q)

  pub all_reverse : {xs : List A} → All P xs → All P (reverse xs)
  all_reverse h = onto-back h none

  pub all_if : (t : Bool) {xs ys : List A} → All P xs → All P ys → All P (cond t xs ys)
  all_if true p q = p
  all_if false p q = q

pub all_map : {A B : Type 0} {P : A → Type 0} {Q : B → Type 0} (f : A → B) → ((a : A) → P a → Q (f a)) → {xs : List A} → All P xs → All Q (map f xs)
all_map f to none = none
all_map f to (and {a} h hs) = and (to a h) (all_map f to hs)

pub all_so : {A : Type 0} {P Q : A → Type 0} → ((a : A) → P a → Q a) → {xs : List A} → All P xs → All Q xs
all_so to none = none
all_so to (and {a} h hs) = and (to a h) (all_so to hs)

-- what passes a test, and what holds of all besides
pub all_only : {A : Type 0} {P Q : A → Type 0} (test : A → Bool) → ((a : A) → test a ≡ true → P a → Q a) → {xs : List A} → All P xs → All Q (only test xs)
unfolding only
all_only test to none = none
all_only {A} {P} {Q} test to (and {a} {l} h hs) = pick (test a) refl (all_only test to hs)
  where
    pick : (t : Bool) → test a ≡ t → All Q (only test l) → All Q (cond t (a ∷ only test l) (only test l))
    pick true e rest = and (to a e h) rest
    pick false e rest = rest

-- ---- rings

module _ {A : Type 0} {P : A → Type 0} where
  pub all_unless_zero : (step : Float) (f : A → A) → ((a : A) → P a → P (f a)) → {xs : List A} → All P xs → All P (unless_zero step f xs)
  unfolding unless_zero
  all_unless_zero step f to h = all_if (ne step plus_zero) (all_map f to h) h

  -- Q holds of what stays and of what comes round
  module _ {Q : A → Type 0} (again : A → A) (stays : (a : A) → P a → Q a) (comes : (a : A) → P a → Q (again a)) where
    pub all_begun : (k : ℕ) {xs : List A} → All P xs → All Q (begun again k xs)
    unfolding begun
    all_begun k h = all_append (all_so stays (all_drop k h)) (all_map again comes (all_take k h))

    pub all_closed : {xs : List A} → All P xs → All Q (closed again xs)
    unfolding closed
    all_closed none = none
    all_closed (and {a} h hs) = all_append (and (stays a h) (all_so stays hs)) (and (comes a h) none)

    closed-past : (xs ys : List A) → 0 < length xs → All P xs → All Q ys → All Q (closed again (xs ++ ys))
    unfolding closed
    closed-past [] ys l h hs = absurd (not-suc-le-zero l)
    closed-past (x ∷ xs) ys l h hs = all_append (all_append (all_so stays h) hs) (and (comes x (all_first h)) none)

    -- a ring cut anew at one of its open points closes with a point that stays
    pub all_recut_at : (k : ℕ) (xs : List A) → k ≤ length xs - 2 → All P xs → All Q (recut_at again k xs)
    unfolding turned_unless turned begun
    all_recut_at k xs l h = either (eqb k 0) (ltb (length xs) 2) refl
      where
        points : List A
        points = drop_last xs

        either : (s t : Bool) → eqb k 0 ≡ s → All Q (cond (s || t) xs (closed again (drop k points ++ map again (take k points))))
        either true t e = all_so stays h
        either false true e = all_so stays h
        either false false e =
            let n = eqb-false k 0 e in
            let d = length-drop k points in
            let m = length-drop_last xs in
            let hs = all_drop_last xs h in
            closed-past (drop k points) _ (omega arith) (all_drop k hs) (all_map again comes (all_take k hs))

  module _ (again : A → A) (to : (a : A) → P a → P (again a)) where
    same-begun : (k : ℕ) {xs : List A} → All P xs → All P (begun again k xs)
    same-begun k h = all_begun again (λ a p. p) to k h

    same-closed : {xs : List A} → All P xs → All P (closed again xs)
    same-closed h = all_closed again (λ a p. p) to h

    pub all_begin_ring_at : (k : ℕ) (xs : List A) → All P xs → All P (begin_ring_at again k xs)
    unfolding turned_unless turned
    all_begin_ring_at k xs h = all_if (eqb k 0 || ltb (length xs) 4) h (same-closed (same-begun k (all_drop_last xs h)))

    pub all_align_at : (put : A → A) → ((a : A) → P a → P (put a)) → (k : ℕ) (xs : List A) → All P xs → All P (align_at again put k xs)
    unfolding align_at turned_onto
    all_align_at put onto k xs h = all_if (ltb (length xs) 3) h (same-closed (all_map put onto (same-begun k (all_drop_last xs h))))

-- ---- repeats dropped

module _ {A : Type 0} {P : A → Type 0} (same : A → A → Bool) where
  all_kept : (kept : A) (xs : List A) → P kept → All P xs → All P (kept_from same keep kept xs)
  unfolding kept_from
  all_kept kept [] p h = and p none
  all_kept kept (x ∷ xs) p h = all_if (same kept x) (all_kept kept xs p (all_rest h)) (and p (all_kept x xs (all_first h) (all_rest h)))

  all_successive : (xs : List A) → All P xs → All P (drop_successive same keep xs)
  unfolding drop_successive
  all_successive [] h = none
  all_successive (x ∷ xs) h = all_kept x xs (all_first h) (all_rest h)

  all_cut : (first : A) (back : List A) → P first → All P back → All P (cut_back same keep first back)
  unfolding cut_back
  all_cut first [] p h = and p none
  all_cut first (x ∷ back) p h =
      all_if (ltb 3 (length (first ∷ x ∷ back)) && same first x) (all_cut first back p (all_rest h)) (and p (all_reverse h))

  all_trailing : (xs : List A) → All P xs → All P (drop_trailing same keep xs)
  unfolding drop_trailing
  all_trailing [] h = none
  all_trailing (x ∷ xs) h = all_cut x (reverse xs) (all_first h) (all_reverse (all_rest h))

  pub all_drop_repeats : (xs : List A) → All P xs → All P (drop_repeats same xs)
  unfolding drop_merging
  all_drop_repeats xs h = all_trailing (drop_successive same keep xs) (all_successive xs h)

-- Each box held against the outermost ends finds what every box held against every other would: for any number of boxes, and for ends that are NaNs or
-- infinite too.
use Prim.Native.Nat.{ℕ, zero, suc, ◌+◌, ◌≤◌, ◌<◌}
use native.Mathlib.Omega.{arith}
use native.Mathlib.Decide.{dec_le}
use mathlib.Core.Path.{◌≡◌, refl, ap}
use mathlib.Core.Bool.{Bool, true, false, cond, ◌||◌}
use mathlib.Core.List.{List}
use lib.Dec.{T, eqb, eqb→eq, eqb_refl}
use lib.ListN.{length}
use Rattle.std.specs.Prelude.{Option, Some}
use borrow.Author.Tests.{eqb-true, eqb-false, eq-eqb, ne_eqb}
use lib.Ieee.{Float, le}
use lib.Ieee.Fits.{and_i, and_l, and_r}
use Rattle.numbers.proofs.Monotone.{Zero}
use Rattle.closed_region.specs.declared.boxes.Bounds.{Bounds}
use Rattle.closed_region.specs.declared.outer.Outermost.{Outermost}
use Rattle.closed_region.specs.Outer.{slack_of, encloses, box_at, every, passing, the_one, encloses_other, encloses_others, enclosing_one}
use Rattle.closed_region.specs.ByOutermost.{Fits, empty_box, hull_of, enclosable, one_if_unenclosable, ends_among, unenclosable_among, outermost_of, encloses_outermost, encloses_outermost_at, the_one_against, by_outermost}
use Rattle.closed_region.proofs.outer.Enclosing.{Encloses, Movable, tests, tested, movable, hull_movable, hull_enclosed, hull_each, empty_movable, empty_enclosed, enclosed_enclosable, slack_nonneg}

-- ---- tests
same_test : (a b : Bool) → (T a → T b) → (T b → T a) → a ≡ b
same_test true true f g = refl
same_test true false f g = absurd (f tt)
same_test false true f g = absurd (g tt)
same_test false false f g = refl

module _ (test : ℕ → Bool) where
  every_each : (n j : ℕ) → T (every test n) → j < n → T (test j)
  unfolding every
  every_each zero j t h = absurd (omega arith)
  every_each (suc n) j t h = go (every_each n j (and_l (every test n) (test n) t)) (dec_le (suc j) n)
    where
      go : (j < n → T (test j)) → Dec (j < n) → T (test j)
      go before (yes k) = before k
      go before (no k) = let e : j ≡ n = omega arith in rw e (and_r (every test n) (test n) t)

  each_every : (n : ℕ) → ((j : ℕ) → j < n → T (test j)) → T (every test n)
  unfolding every
  each_every zero f = tt
  each_every (suc n) f = and_i (every test n) (test n) (each_every n (λ j h. f j (omega arith))) (f n (omega arith))

passing-same : (f g : ℕ → Bool) (n : ℕ) → ((j : ℕ) → j < n → f j ≡ g j) → passing f n ≡ passing g n
unfolding passing
passing-same f g zero e = refl
passing-same f g (suc n) e = rw (passing-same f g n (λ j h. e j (omega arith)), e n (omega arith))

module _ (slack : Float) (boxes : List Bounds) where
  abbrev box : ℕ → Bounds
  box j = box_at boxes j

  abbrev ends : ℕ → Bounds
  ends n = ends_among slack boxes n

  -- ---- how many are not enclosable
  abbrev one : ℕ → ℕ
  one j = one_if_unenclosable slack (box j)

  abbrev among : ℕ → ℕ
  among n = unenclosable_among slack boxes n

  enclosable_counted : (j : ℕ) → T (enclosable slack (box j)) → one j ≡ 0
  unfolding one_if_unenclosable
  enclosable_counted j t = go (enclosable slack (box j)) t
    where
      go : (w : Bool) → T w → ◌≡◌ {A = ℕ} (cond w 0 1) 0
      go true t = refl
      go false t = absurd t

  counted_enclosable : (j : ℕ) → one j ≡ 0 → T (enclosable slack (box j))
  unfolding one_if_unenclosable
  counted_enclosable j e = go (enclosable slack (box j)) e
    where
      go : (w : Bool) → ◌≡◌ {A = ℕ} (cond w 0 1) 0 → T w
      go true e = tt
      go false e = absurd (omega arith)

  one-counts : (n j : ℕ) → j < n → one j ≤ among n
  unfolding unenclosable_among
  one-counts zero j h = absurd (omega arith)
  one-counts (suc n) j h = go (one-counts n j) (dec_le (suc j) n)
    where
      go : (j < n → one j ≤ among n) → Dec (j < n) → one j ≤ among n + one n
      go before (yes k) = let l = before k in omega arith
      go before (no k) = let e : j ≡ n = omega arith in rw e (omega arith)

  two-count : (n i j : ℕ) → i < n → j < n → (i ≡ j → ⊥) → one i + one j ≤ among n
  unfolding unenclosable_among
  two-count zero i j h k d = absurd (omega arith)
  two-count (suc n) i j h k d = go (λ p q. two-count n i j p q d) (dec_le (suc i) n) (dec_le (suc j) n)
    where
      go : (i < n → j < n → one i + one j ≤ among n) → Dec (i < n) → Dec (j < n) → one i + one j ≤ among n + one n
      go before (yes p) (yes q) = let l = before p q in omega arith
      go before (yes p) (no q) = let e : j ≡ n = omega arith in let l = one-counts n i p in rw e (omega arith)
      go before (no p) (yes q) = let e : i ≡ n = omega arith in let l = one-counts n j q in rw e (omega arith)
      go before (no p) (no q) = absurd (d (omega arith))

  -- where all others are enclosable
  abbrev Only : ℕ → ℕ → Type 0
  Only i n = (i < n → among n ≡ one i) × (n ≤ i → among n ≡ 0)

  only-counts : (i n : ℕ) → ((j : ℕ) → j < n → (i ≡ j → ⊥) → T (enclosable slack (box j))) → Only i n
  unfolding unenclosable_among
  only-counts i zero f = (λ h. absurd (omega arith), λ h. refl)
  only-counts i (suc n) f =
      let before = only-counts i n (λ j h d. f j (omega arith) d) in
      (λ h. go before (dec_le (suc i) n) h, λ h. none before h)
    where
      last : (i ≡ n → ⊥) → one n ≡ 0
      last d = enclosable_counted n (f n (omega arith) d)

      go : Only i n → Dec (i < n) → i < suc n → among n + one n ≡ one i
      go before (yes k) h = let z = last (λ e. omega arith) in let b = before.0 k in omega arith
      go before (no k) h = let e : i ≡ n = omega arith in let b = before.1 (omega arith) in rw e (omega arith)

      none : Only i n → suc n ≤ i → among n + one n ≡ 0
      none before h = let z = last (λ e. omega arith) in let b = before.1 (omega arith) in omega arith

  -- ---- the outermost ends
  module _ (nonneg : T (le Zero slack)) where
    box_movable : (j : ℕ) → T (enclosable slack (box j)) → Movable slack (box j)
    box_movable j t = let o = box j in movable slack o o (tests slack o o t)

    ends_movable : (n : ℕ) → Movable slack (ends n)
    unfolding ends_among
    ends_movable zero = empty_movable slack nonneg
    ends_movable (suc n) = go (ends_movable n) (enclosable slack (box n)) (box_movable n)
      where
        go : Movable slack (ends n) → (w : Bool) → (T w → Movable slack (box n)) → Movable slack (cond w (hull_of (ends n) (box n)) (ends n))
        go before true m = hull_movable slack (ends n) (box n) before (m tt)
        go before false m = before

    -- what encloses them encloses each enclosable box
    ends_both : (b : Bounds) (n : ℕ) → Encloses slack b (ends (suc n))
        → Encloses slack b (ends n) × (T (enclosable slack (box n)) → Encloses slack b (box n))
    unfolding ends_among
    ends_both b n e = go (enclosable slack (box n)) (box_movable n) e
      where
        go : (w : Bool) → (T w → Movable slack (box n)) → Encloses slack b (cond w (hull_of (ends n) (box n)) (ends n))
            → Encloses slack b (ends n) × (T w → Encloses slack b (box n))
        go true m e = let both = hull_each slack (ends n) (box n) b (ends_movable n) (m tt) e in (both.0, λ t. both.1)
        go false m e = (e, λ t. absurd t)

    ends_each : (b : Bounds) (n : ℕ) → Encloses slack b (ends n) → (j : ℕ) → j < n → T (enclosable slack (box j)) → Encloses slack b (box j)
    ends_each b zero e j h t = absurd (omega arith)
    ends_each b (suc n) e j h t = go (λ k. ends_each b n (ends_both b n e).0 j k t) (dec_le (suc j) n)
      where
        go : (j < n → Encloses slack b (box j)) → Dec (j < n) → Encloses slack b (box j)
        go before (yes k) = before k
        go before (no k) = let i : j ≡ n = omega arith in rw i ((ends_both b n e).1 (rw i at t))

    -- and the other way round
    ends_enclosed : (b : Bounds) → Encloses slack b empty_box → (n : ℕ)
        → ((j : ℕ) → j < n → T (enclosable slack (box j)) → Encloses slack b (box j)) → Encloses slack b (ends n)
    unfolding ends_among
    ends_enclosed b z zero f = z
    ends_enclosed b z (suc n) f = go (enclosable slack (box n)) refl (ends_enclosed b z n (λ j h t. f j (omega arith) t))
      where
        go : (w : Bool) → enclosable slack (box n) ≡ w → Encloses slack b (ends n) → Encloses slack b (cond w (hull_of (ends n) (box n)) (ends n))
        go true q e = hull_enclosed slack (ends n) (box n) b e (f n (omega arith) (rw q tt))
        go false q e = e

    -- ---- one box held against all others
    module _ (fit : (j : ℕ) → Fits (box j)) (i : ℕ) (h : i < length boxes) where
      abbrev n : ℕ
      n = length boxes

      abbrev outer : Bool
      outer = encloses slack (box i) (ends n)

      abbrev alone : Bool
      alone = eqb (among n) (one i)

      enough : T (encloses_outermost_at slack (outermost_of slack boxes) boxes i) → T (encloses_others slack boxes i)
      unfolding encloses_outermost_at encloses_outermost outermost_of encloses_others encloses_other
      enough t = each_every (encloses_other slack boxes i) n (λ j k. go j k (eqb i j) refl)
        where
          go : (j : ℕ) → j < n → (w : Bool) → eqb i j ≡ w → T (w || encloses slack (box i) (box j))
          go j k true e = tt
          go j k false e =
              let count = eqb→eq (among n) (one i) (and_r outer alone t) in
              let both = two-count n i j h k (eqb-false i j e) in
              let all = tests slack (box i) (ends n) (and_l outer alone t) in
              tested slack (box i) (box j) (ends_each (box i) n all j k (counted_enclosable j (omega arith)))

      other : T (encloses_others slack boxes i) → (j : ℕ) → j < n → (i ≡ j → ⊥) → T (encloses slack (box i) (box j))
      unfolding encloses_others encloses_other
      other t j k d = rw (ne_eqb i j d) at (every_each (encloses_other slack boxes i) n j t k)

      needed : (n ≡ 1 → ⊥) → T (encloses_others slack boxes i) → T (encloses_outermost_at slack (outermost_of slack boxes) boxes i)
      unfolding encloses_outermost_at encloses_outermost outermost_of
      needed many t =
          let count = (only-counts i n (λ j k d. enclosed_enclosable slack nonneg (box i) (box j) (fit j) (other t j k d))).0 h in
          let all = ends_enclosed (box i) (another i refl) n (λ j k o. tests slack (box i) (box j) (go j k o (eqb i j) refl)) in
          and_i outer alone (tested slack (box i) (ends n) all) (rw count (eqb_refl (one i)))
        where
          go : (j : ℕ) → j < n → T (enclosable slack (box j)) → (w : Bool) → eqb i j ≡ w → T (encloses slack (box i) (box j))
          go j k o true e = let q : i ≡ j = eqb→eq i j (rw e tt) in rw q o
          go j k o false e = other t j k (eqb-false i j e)

          encloses_ends : (j : ℕ) → j < n → (i ≡ j → ⊥) → Encloses slack (box i) empty_box
          encloses_ends j k d = empty_enclosed slack nonneg (box i) (box j) (tests slack (box i) (box j) (other t j k d))

          another : (k : ℕ) → k ≡ i → Encloses slack (box i) empty_box
          another zero e = encloses_ends 1 (omega arith) (λ q. omega arith)
          another (suc k) e = encloses_ends 0 (omega arith) (λ q. omega arith)

-- ---- the search
-- a box alone has no other to enclose
alone-encloses : (slack : Float) (boxes : List Bounds) → length boxes ≡ 1 → encloses_others slack boxes 0 ≡ true
unfolding encloses_others encloses_other every
alone-encloses slack boxes e = rw e

pub alone_found : (slack : Float) (boxes : List Bounds) → length boxes ≡ 1 → Some 0 ≡ enclosing_one slack boxes
unfolding enclosing_one passing
alone_found slack boxes e = rw (e, alone-encloses slack boxes e)

several_found : (boxes : List Bounds) → ((j : ℕ) → Fits (box_at boxes j)) → (length boxes ≡ 1 → ⊥)
    → the_one_against (slack_of boxes) (outermost_of (slack_of boxes) boxes) boxes ≡ enclosing_one (slack_of boxes) boxes
unfolding enclosing_one
several_found boxes fit many = ap the_one (passing-same held others (length boxes) same)
  where
    slack : Float
    slack = slack_of boxes

    held : ℕ → Bool
    held = encloses_outermost_at slack (outermost_of slack boxes) boxes

    others : ℕ → Bool
    others = encloses_others slack boxes

    same : (i : ℕ) → i < length boxes → held i ≡ others i
    same i h =
        let nonneg = slack_nonneg boxes in
        same_test (held i) (others i) (enough slack boxes nonneg fit i h) (needed slack boxes nonneg fit i h many)

-- 02, N6: "for any number of boxes it is proved to find what every box held against every other would". That the ends fit 64 bits holds of every box
-- that the code passes by value (`longer_side`), and of `nowhere`, which is read past the last one.
pub by_outermost_lem : (boxes : List Bounds) → ((j : ℕ) → Fits (box_at boxes j)) → by_outermost boxes ≡ enclosing_one (slack_of boxes) boxes
unfolding by_outermost
by_outermost_lem boxes fit = go (eqb (length boxes) 1) refl
  where
    several : Option ℕ
    several = the_one_against (slack_of boxes) (outermost_of (slack_of boxes) boxes) boxes

    go : (w : Bool) → eqb (length boxes) 1 ≡ w → cond w (Some 0) several ≡ enclosing_one (slack_of boxes) boxes
    go true e = alone_found (slack_of boxes) boxes (eqb-true (length boxes) 1 e)
    go false e = several_found boxes fit (eqb-false (length boxes) 1 e)

-- ---- the answer for one box, and the code's for two or more
pub one_answer : (boxes : List Bounds) → length boxes ≡ 1 → Some 0 ≡ by_outermost boxes
unfolding by_outermost
one_answer boxes e = rw (eq-eqb (length boxes) 1 e)

pub other_answer : (boxes : List Bounds) → (length boxes ≡ 1 → ⊥) → (slack : Float) → slack ≡ slack_of boxes → (outermost : Outermost) → outermost ≡ outermost_of slack boxes
    → (x : Option ℕ) → x ≡ the_one_against slack outermost boxes → x ≡ by_outermost boxes
unfolding by_outermost
other_answer boxes d slack p outermost q x e = rw (ne_eqb (length boxes) 1 d, ← p, ← q) e

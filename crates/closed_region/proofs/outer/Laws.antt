-- The loops of the outer search, turn by turn.
use Prim.Native.Nat.{ℕ, zero, suc, ◌+◌, ◌≤◌, ◌<◌}
use mathlib.Core.Path.{◌≡◌, refl, sym, ap, ◌∙◌}
use mathlib.Core.Bool.{Bool, true, false, cond, true≢false}
use mathlib.Core.List.{List, [], ◌∷◌, ◌++◌, append-nil, append_assoc}
use native.Mathlib.Omega.{arith}
use native.Mathlib.Numerals.{add-one}
use native.Mathlib.Decide.{dec_le}
use Rattle.std.proofs.Common.{below_more}
use lib.ListN.{length, get_or, get_or-eq_default}
use lib.Ieee.{Float, nan, lt, fits}
use Rattle.std.specs.Prelude.{Option, None, Some, is_some, option_to_list}
use Rattle.numbers.specs.Constants.{plus_zero, 10^-9}
use Rattle.std.specs.Float.{float_with_sign}
use Rattle.numbers.specs.Order.{max_of}
use Rattle.numbers.proofs.order.Laws.{size_is}
use Rattle.numbers.specs.Rounded.{◌⊗◌}
use Rattle.lists.proofs.Folds.{Folding, folding_turn, folding_end}
use Rattle.closed_region.specs.declared.boxes.Bounds.{Bounds}
use Rattle.closed_region.specs.declared.outer.Outermost.{Outermost}
use Rattle.closed_region.specs.Outer.{side_of, slack_of, nowhere, box_at, passing, the_one, last_largest}
use Rattle.closed_region.specs.ByOutermost.{Fits, empty_box, hull_of, enclosable, one_if_unenclosable, ends_among, unenclosable_among, outermost_of, encloses_outermost, encloses_outermost_at}

-- ---- the largest side
module _ (boxes : List Bounds) where
  abbrev larger : Float → Bounds → Float
  larger largest b = max_of largest (side_of b)

  abbrev pub Sides : Float → ℕ → Type 0
  Sides largest i = Folding larger plus_zero boxes largest i

  pub sides_turn : (largest x y : Float) (i : ℕ) → Sides largest i → i < length boxes → x ≡ side_of (box_at boxes i) → y ≡ max_of largest x → Sides y (i + 1)
  sides_turn largest x y i k h e q = folding_turn larger plus_zero boxes nowhere largest y i k h (q ∙ ap (max_of largest) e)

  pub sides-end : (largest : Float) (i : ℕ) → Sides largest i → length boxes ≤ i → largest ⊗ 10^-9 ≡ slack_of boxes
  unfolding slack_of
  sides-end largest i k h = ap (λ (x : Float). x ⊗ 10^-9) (folding_end larger plus_zero boxes largest i k h)

  -- ---- the first i boxes are of 64 bits
  abbrev pub FitBefore : ℕ → Type 0
  FitBefore i = (j : ℕ) → j < i → Fits (box_at boxes j)

  pub fit_turn : (i : ℕ) → FitBefore i → Fits (box_at boxes i) → FitBefore (i + 1)
  fit_turn i k f = below_more _ _ k f

  -- the ends of all boxes, and those that are read past the last one
  pub all_fit : (i : ℕ) → FitBefore i → length boxes ≤ i → (j : ℕ) → Fits (box_at boxes j)
  all_fit i k h j = go (dec_le (suc j) i)
    where
      go : Dec (j < i) → Fits (box_at boxes j)
      go (yes l) = k j l
      go (no l) = let past : length boxes ≤ j = omega arith in rw (get_or-eq_default boxes nowhere past) (unfold fits in record { ulo = tt; uhi = tt; vlo = tt; vhi = tt })

-- ---- the outermost ends, and how many boxes are not enclosable
module _ (slack : Float) (boxes : List Bounds) where
  pub record Taken (ends : Bounds) (unenclosable i : ℕ) : Type 0 where
    pub far : i ≤ length boxes
    pub few : unenclosable ≤ i
    pub outermost : ends ≡ ends_among slack boxes i
    pub left : unenclosable ≡ unenclosable_among slack boxes i

  pub taken : (ends : Bounds) → ends ≡ empty_box → Taken ends 0 0
  taken ends p = record { far = omega arith; few = omega arith; outermost = unfold ends_among in p; left = unfold unenclosable_among in refl }

  module _ (ends : Bounds) (unenclosable i : ℕ) (k : Taken ends unenclosable i) (h : i < length boxes) (t : Bool) (q : t ≡ enclosable slack (box_at boxes i)) where
    pub taken_hull : t ≡ true → (wide : Bounds) → wide ≡ hull_of ends (box_at boxes i) → Taken wide unenclosable (i + 1)
    taken_hull e wide w = record {
      far = omega arith;
      few = omega (arith, k.few);
      outermost = unfold ends_among in rw (add-one, ← q, e, ← k.outermost) w;
      left = unfold unenclosable_among one_if_unenclosable in rw (add-one, ← q, e, ← k.left) (omega arith);
    }

    counts-one : t ≡ false → one_if_unenclosable slack (box_at boxes i) ≡ 1
    unfolding one_if_unenclosable
    counts-one e = rw (← q, e)

    pub taken_not : t ≡ false → Taken ends (unenclosable + 1) (i + 1)
    taken_not e = record {
      far = omega arith;
      few = omega (arith, k.few);
      outermost = unfold ends_among in rw (add-one, ← q, e) k.outermost;
      left = unfold unenclosable_among in rw (add-one i, counts-one e, ← k.left);
    }

  pub taken_all : (ends : Bounds) (unenclosable i : ℕ) → Taken ends unenclosable i → length boxes ≤ i
      → record { ends = ends; unenclosable = unenclosable } ≡ outermost_of slack boxes
  unfolding outermost_of
  taken_all ends unenclosable i k h = let e : i ≡ length boxes = omega (arith, k.far) in rw (k.outermost, k.left, e)

-- ---- a box held against them
pub held_at : (slack : Float) (outermost : Outermost) (boxes : List Bounds) (i : ℕ) (t w : Bool)
    → t ≡ encloses_outermost slack outermost (box_at boxes i) → t ≡ w → encloses_outermost_at slack outermost boxes i ≡ w
unfolding encloses_outermost_at
held_at slack outermost boxes i t w q e = rw (← q, e)

-- ---- the one number below n at which a test passes
further : (test : ℕ → Bool) (n i : ℕ) → i ≤ n → (rest : List ℕ) × (passing test n ≡ passing test i ++ rest)
unfolding passing
further test zero i h = let e : i ≡ 0 = omega arith in ([], rw e)
further test (suc n) i h = go (λ k. further test n i k) (dec_le i n)
  where
    go : (i ≤ n → (rest : List ℕ) × (passing test n ≡ passing test i ++ rest)) → Dec (i ≤ n) → (rest : List ℕ) × (passing test (suc n) ≡ passing test i ++ rest)
    go before (yes k) =
        let f = before k in
        (f.0 ++ cond (test n) (n ∷ []) [], rw f.1 (append_assoc (passing test i) f.0 (cond (test n) (n ∷ []) [])))
    go before (no k) = let e : i ≡ suc n = omega arith in ([], rw e (sym (append-nil (passing test (suc n)))))

the_one_held : (found : Option ℕ) → found ≡ the_one (option_to_list found)
the_one_held None = refl
the_one_held (Some i) = refl

module _ (test : ℕ → Bool) (n : ℕ) where
  pub record Seeking (found : Option ℕ) (i : ℕ) : Type 0 where
    pub far : i ≤ n
    pub held : passing test i ≡ option_to_list found

  pub seeking : Seeking None 0
  seeking = record { far = omega arith; held = unfold passing in refl }

  pub seeking_on : (found : Option ℕ) (i : ℕ) → Seeking found i → i < n → test i ≡ false → Seeking found (i + 1)
  seeking_on found i k h t = record { far = omega arith; held = unfold passing in rw (add-one, t) (append-nil (passing test i) ∙ k.held) }

  pub seeking_one : (found : Option ℕ) (i : ℕ) → Seeking found i → i < n → test i ≡ true → is_some found ≡ false → Seeking (Some i) (i + 1)
  seeking_one None i k h t l = record { far = omega arith; held = unfold passing in rw (add-one, k.held, t) }
  seeking_one (Some j) i k h t l = absurd (true≢false l)

  pub seeking_two : (found : Option ℕ) (i : ℕ) → Seeking found i → i < n → test i ≡ true → is_some found ≡ true → None ≡ the_one (passing test n)
  seeking_two None i k h t l = absurd (true≢false (sym l))
  seeking_two (Some j) i k h t l =
      let f = further test n (suc i) (omega arith) in
      let two : passing test (suc i) ≡ j ∷ i ∷ [] = unfold passing in rw (k.held, t) in
      sym (ap the_one (f.1 ∙ ap (λ (l : List ℕ). l ++ f.0) two))

  pub seeking_end : (found : Option ℕ) (i : ℕ) → Seeking found i → n ≤ i → found ≡ the_one (passing test n)
  seeking_end found i k h = let e : i ≡ n = omega (arith, k.far) in the_one_held found ∙ ap the_one (rw e at (sym k.held))

-- ---- the last of the largest
pub record Largest (areas : List Float) (best i : ℕ) : Type 0 where
  pub far : i ≤ length areas
  pub low : best ≤ i
  pub is : best ≡ last_largest areas i

pub largest : (areas : List Float) → Largest areas 0 0
largest areas = record { far = omega arith; low = omega arith; is = unfold last_largest in refl }

module _ (areas : List Float) (best i : ℕ) (x y : Float) (k : Largest areas best i) (h : i < length areas) (p : x ≡ float_with_sign false (get_or areas i nan)) (q : y ≡ float_with_sign false (get_or areas best nan)) where
  pub largest_stays : lt x y ≡ true → Largest areas best (i + 1)
  largest_stays t = record { far = omega arith; low = omega (arith, k.low); is = unfold last_largest in sym (rw (add-one, ← k.is, ← size_is (get_or areas i nan), ← size_is (get_or areas best nan), ← p, ← q, t)) }

  pub largest_moves : lt x y ≡ false → Largest areas i (i + 1)
  largest_moves t = record { far = omega arith; low = omega arith; is = unfold last_largest in rw (add-one, ← k.is, ← size_is (get_or areas i nan), ← size_is (get_or areas best nan), ← p, ← q, t) }

pub largest_end : (areas : List Float) (best i : ℕ) → Largest areas best i → length areas ≤ i → best ≡ last_largest areas (length areas)
largest_end areas best i k h = let e : i ≡ length areas = omega (arith, k.far) in k.is ∙ rw e

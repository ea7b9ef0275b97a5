-- One value of each loop but the two rings, put one behind the other.
use Prim.Native.Nat.{ℕ, zero, suc, ◌+◌, ◌≤◌, ◌<◌}
use mathlib.Core.Path.{◌≡◌, refl, sym, ap, ◌∙◌}
use mathlib.Core.Bool.{Bool, true, false, not, cond}
use mathlib.Core.List.{List, ◌∷◌}
use native.Mathlib.Numerals.{add-one}
use native.Mathlib.Omega.{arith}
use borrow.Author.Tests.{leb-true, leb-false}
use lib.Dec.{leb}
use lib.ListN.{length, get_or, drop, set, length-drop}
use lib.Seq.{drop-cons}
use Rattle.lists.specs.Placed.{placed}
use Rattle.lists.specs.Places.{places_from, places}
use Rattle.std.specs.List.{filter, range_with_len}
use Rattle.lists.proofs.Filling.{Filling, filling, filling_turn, filling_end}
use Rattle.lists.proofs.Placed.{placed_short}
use Rattle.lists.proofs.Places.{length-places}
use Rattle.holes.specs.Others.{is_ring, others_from, others}
use Rattle.holes.proofs.Others.{others_as_many}
use Rattle.holes.proofs.Picking.{others-first, none-past}

module _ {A : Type 0} where
  first_left : (k : ℕ) (w ys : List A) (x z : A) → drop k w ≡ x ∷ ys → (k < length w) × ((x ≡ get_or w k z) × (drop (suc k) w ≡ ys))
  first_left k w ys x z e =
      let l = length-drop k w in
      let m = ap length e in
      let h : k < length w = omega arith in
      let d = drop-cons w k z h in
      (h, (heads d, tails d))
    where
      heads : drop k w ≡ get_or w k z ∷ drop (suc k) w → x ≡ get_or w k z
      heads d = cc

      tails : drop k w ≡ get_or w k z ∷ drop (suc k) w → drop (suc k) w ≡ ys
      tails d = cc

  module _ (src : List A) (a b : ℕ) where
    -- after i loops, of which k are holes
    pub record Passing (k i : ℕ) : Type 0 where
      pub few : k ≤ i
      pub rest : drop k (others a b src) ≡ others_from a b i (drop i src)
      pub within : k ≤ length (others a b src)

    pub passing : Passing 0 0
    passing = record { few = omega arith; rest = refl; within = omega arith }

    module _ (z : A) (k i : ℕ) (p : Passing k i) (h : i < length src) (t : Bool) (t_is : t ≡ is_ring a b i) where
      next : (s : Bool) → t ≡ s → drop k (others a b src) ≡ cond s (others_from a b (suc i) (drop (suc i) src)) (get_or src i z ∷ others_from a b (suc i) (drop (suc i) src))
      next s e = p.rest ∙ ap (others_from a b i) (drop-cons src i z h) ∙ others-first a b i (get_or src i z) (drop (suc i) src) s (sym t_is ∙ e)

      pub passing-ring : t ≡ true → Passing k (i + 1)
      passing-ring n = rw (add-one i) record { few = let f = p.few in omega arith; rest = next true n; within = p.within }

      module _ (n : t ≡ false) where
        hole : (k < length (others a b src)) × ((get_or src i z ≡ get_or (others a b src) k z) × (drop (suc k) (others a b src) ≡ others_from a b (suc i) (drop (suc i) src)))
        hole = first_left k (others a b src) (others_from a b (suc i) (drop (suc i) src)) (get_or src i z) z (next false n)

        pub hole_within : k < length (others a b src)
        hole_within = hole.0

        pub hole_is : get_or src i z ≡ get_or (others a b src) k z
        hole_is = hole.1.0

        pub passing-hole : Passing (k + 1) (i + 1)
        passing-hole = rw (add-one i) (rw (add-one k) record { few = let f = p.few in omega arith; rest = hole.1.1; within = hole.0 })

    pub passing-end : (k i : ℕ) → Passing k i → length src ≤ i → k ≡ length (others a b src)
    passing-end k i p e =
        let m = ap length (p.rest ∙ none-past a b src i i e) in
        let l = length-drop k (others a b src) in
        let w = p.within in
        omega arith

-- ---- how many there are

-- of n numbers from i on, those that are no ring's
pub holes_in_range : (a b i n : ℕ) → length (filter (λ j. not (is_ring a b j)) (range_with_len i n)) ≡ length (others_from a b i (places_from i n))
unfolding others_from places_from
holes_in_range a b i zero = refl
holes_in_range a b i (suc n) = by (is_ring a b i) (rw (add-one i) (holes_in_range a b (suc i) n))
  where
    by : (t : Bool) → length (filter (λ j. not (is_ring a b j)) (range_with_len (i + 1) n)) ≡ length (others_from a b (suc i) (places_from (suc i) n))
        → length (cond (not t) (i ∷ filter (λ j. not (is_ring a b j)) (range_with_len (i + 1) n)) (filter (λ j. not (is_ring a b j)) (range_with_len (i + 1) n)))
        ≡ length (cond t (others_from a b (suc i) (places_from (suc i) n)) (i ∷ others_from a b (suc i) (places_from (suc i) n)))
    by true rest = rest
    by false rest = ap suc rest

-- ---- picked

module _ {A : Type 0} (at : ℕ) (src : List A) (a b : ℕ) (d₀ : List A) where
  pub record Picking (d : List A) (k i : ℕ) : Type 0 where
    pub fill : Filling at (others a b src) d₀ d k
    pub pass : Passing src a b k i

  module _ (m : ℕ) (fits : Bool) (m_is : m ≡ length (others a b (places (length src)))) (fits_is : fits ≡ leb (at + m) (length d₀)) where
    holes_are : m ≡ length (others a b src)
    holes_are = m_is ∙ others_as_many a b 0 (places (length src)) src (length-places (length src))

    pub picking_none : fits ≡ false → d₀ ≡ placed at (others a b src) d₀
    picking_none n =
        let e = holes_are in
        let more : length d₀ < at + m = leb-false (at + m) (length d₀) (sym fits_is ∙ n) in
        sym (placed_short at (others a b src) d₀ (omega arith))

    pub picking : fits ≡ true → Picking d₀ 0 0
    picking n =
        let e = holes_are in
        let room : at + m ≤ length d₀ = leb-true (at + m) (length d₀) (sym fits_is ∙ n) in
        record { fill = filling at (others a b src) d₀ (omega arith); pass = passing src a b }

  module _ (z : A) (d : List A) (k i : ℕ) (p : Picking d k i) (h : i < length src) (t : Bool) (t_is : t ≡ is_ring a b i) where
    pub picking_ring : t ≡ true → Picking d k (i + 1)
    picking_ring n = record { fill = p.fill; pass = passing-ring src a b z k i p.pass h t t_is n }

    module _ (n : t ≡ false) where
      pub picking_room : (at + k < length d) × (length d ≡ length d₀)
      picking_room = let f = p.fill.room in let l = p.fill.long in let w = hole_within src a b z k i p.pass h t t_is n in (omega arith, l)

      pub picking_hole : (x : A) → x ≡ get_or src i z → Picking (set d (at + k) x) (k + 1) (i + 1)
      picking_hole x e = record {
        fill = filling_turn at (others a b src) d₀ d k x z p.fill (hole_within src a b z k i p.pass h t t_is n) (e ∙ hole_is src a b z k i p.pass h t t_is n);
        pass = passing-hole src a b z k i p.pass h t t_is n;
      }

  pub picking_end : (d : List A) (k i : ℕ) → Picking d k i → length src ≤ i → d ≡ placed at (others a b src) d₀
  picking_end d k i p h = filling_end at (others a b src) d₀ d k p.fill (let e = passing-end src a b k i p.pass h in omega arith)

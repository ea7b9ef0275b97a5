-- What the holes hold of the loops that are left, the first of which has number i: one loop behind the other.
use Prim.Native.Nat.{ℕ, suc, ◌+◌, ◌≤◌}
use mathlib.Core.Path.{◌≡◌, sym, ap, ◌∙◌}
use mathlib.Core.Bool.{Bool, true, false, cond}
use mathlib.Core.List.{List, [], ◌∷◌, ◌++◌, flatten}
use native.Mathlib.Numerals.{add-one}
use native.Mathlib.Omega.{arith}
use lib.ListN.{length, length-append}
use Rattle.lists.specs.Pieces.{pieces}
use Rattle.lists.specs.Placed.{placed}
use Rattle.lists.proofs.Pieces.{pieces_fit}
use Rattle.lists.proofs.Placed.{placed-none, placed_after, length-placed}
use Rattle.holes.specs.Others.{is_ring, others_from}
use Rattle.holes.proofs.Picking.{others-first}

module _ {A : Type 0} (a b : ℕ) where
  abbrev pub later : ℕ → List (List A) → List A
  later i left = flatten (others_from a b i left)

  pub later-none : (i : ℕ) (left : List (List A)) → left ≡ [] → later i left ≡ []
  unfolding flatten others_from
  later-none i left e = ap (later i) e

  step : (i : ℕ) (x : List A) (rest : List (List A)) (t : Bool) → is_ring a b i ≡ t
      → later i (x ∷ rest) ≡ flatten (cond t (others_from a b (suc i) rest) (x ∷ others_from a b (suc i) rest))
  step i x rest t h = ap flatten (others-first a b i x rest t h)

  module _ (i : ℕ) (left : List (List A)) (x : List A) (rest : List (List A)) (e : left ≡ x ∷ rest) where
    pub later-ring : is_ring a b i ≡ true → later i left ≡ later (i + 1) rest
    later-ring h = ap (later i) e ∙ step i x rest true h ∙ ap (λ (j : ℕ). later j rest) (sym (add-one i))

    pub later-hole : is_ring a b i ≡ false → later i left ≡ x ++ later (i + 1) rest
    unfolding flatten
    later-hole h = ap (later i) e ∙ step i x rest false h ∙ ap (λ (j : ℕ). x ++ later j rest) (sym (add-one i))

  -- no more than all loops hold
  later-fit : (i : ℕ) (left : List (List A)) → length (later i left) ≤ length (flatten left)
  unfolding flatten others_from
  later-fit i [] = omega arith
  later-fit i (x ∷ rest) = by (is_ring a b i) (later-fit (suc i) rest)
    where
      by : (t : Bool) → length (later (suc i) rest) ≤ length (flatten rest)
          → length (flatten (cond t (others_from a b (suc i) rest) (x ∷ others_from a b (suc i) rest))) ≤ length (x ++ flatten rest)
      by true behind = omega (arith, behind, length-append x (flatten rest))
      by false behind = omega (arith, behind, length-append x (flatten rest), length-append x (later (suc i) rest))

  pub all-fit : (ns : List ℕ) (xs : List A) → length (later 0 (pieces ns xs)) ≤ length xs
  all-fit ns xs = omega (arith, later-fit 0 (pieces ns xs), pieces_fit ns xs)

  -- ---- picked: what stands in d once they are put behind `here` is `all`

  pub record Picking (all d : List A) (here i : ℕ) (left : List (List A)) : Type 0 where
    pub is : placed here (later i left) d ≡ all
    pub room : here + length (later i left) ≤ length d

  module _ (all d : List A) (here i : ℕ) (left : List (List A)) (x : List A) (rest : List (List A)) (p : Picking all d here i left) (e : left ≡ x ∷ rest) where
    pub picking-ring : is_ring a b i ≡ true → Picking all d here (i + 1) rest
    picking-ring h =
        let ring = later-ring i left x rest e h in
        record { is = ap (λ (w : List A). placed here w d) (sym ring) ∙ p.is; room = omega (arith, p.room, ap length ring) }

    pub picking_room : is_ring a b i ≡ false → here + length x ≤ length d
    picking_room h = omega (arith, p.room, ap length (later-hole i left x rest e h), length-append x (later (i + 1) rest))

    pub picking-hole : is_ring a b i ≡ false → Picking all (placed here x d) (here + length x) (i + 1) rest
    picking-hole h =
        let hole = later-hole i left x rest e h in
        let long = ap length hole ∙ length-append x (later (i + 1) rest) in
        record {
          is = placed_after here x (later (i + 1) rest) d (omega (arith, p.room, long)) ∙ ap (λ (w : List A). placed here w d) (sym hole) ∙ p.is;
          room = omega (arith, p.room, long, length-placed here x d);
        }

  pub picking-end : (all d : List A) (here i : ℕ) (left : List (List A)) → Picking all d here i left → left ≡ [] → d ≡ all
  picking-end all d here i left p e = sym (placed-none here d) ∙ ap (λ (w : List A). placed here w d) (sym (later-none i left e)) ∙ p.is

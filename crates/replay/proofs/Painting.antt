-- The loops that paint bytes and that look at them again.
use Prim.Native.Nat.{ℕ, ◌+◌, ◌%◌, ◌≤◌, ◌<◌}
use mathlib.Core.Path.{◌≡◌, refl, ◌∙◌}
use mathlib.Core.Bool.{true, false}
use mathlib.Core.Logic.{◌⊎◌, inl, inr}
use mathlib.Core.List.{List}
use native.Mathlib.Nat.{eq-or-lt_of_le}
use native.Mathlib.Omega.{arith}
use lib.ListN.{length, get_or, set, length-set}
use lib.Seq.{get_or-set_same, get_or-set_other}
use Rattle.replay.specs.Painted.{Painted}

-- the bytes before i are painted
pub record PaintedTo (old bytes : List ℕ) (i : ℕ) : Type 0 where
  pub long : length bytes ≡ length old
  pub shaded : (k : ℕ) → k < i → get_or bytes k 0 ≡ k % 251

module _ {old : List ℕ} where
  pub paint_start : PaintedTo old old 0
  paint_start = record { long = refl; shaded = λ k h. absurd (omega arith) }

  pub paint_turn : (bytes : List ℕ) (i b : ℕ) → PaintedTo old bytes i → i < length bytes → b ≡ i % 251 → PaintedTo old (set bytes i b) (i + 1)
  paint_turn bytes i b p h e = record {
    long = length-set bytes i b ∙ p.long;
    shaded = λ k l. at k (eq-or-lt_of_le (omega arith));
  }
    where
      at : (k : ℕ) → (k ≡ i) ⊎ (k < i) → get_or (set bytes i b) k 0 ≡ k % 251
      at k (inl same) = rw same (get_or-set_same bytes i b 0 h ∙ e)
      at k (inr less) = get_or-set_other bytes i k b 0 (λ q. absurd (omega arith)) ∙ p.shaded k less

  pub paint_end : (bytes : List ℕ) (i : ℕ) → PaintedTo old bytes i → length bytes ≤ i → Painted 0 bytes
  unfolding Painted
  paint_end bytes i p h k l m = p.shaded k (omega arith)

-- the bytes from `from` up to i are painted
pub record SeenTo (from : ℕ) (bytes : List ℕ) (i : ℕ) : Type 0 where
  pub far : from ≤ i
  pub shaded : (k : ℕ) → from ≤ k → k < i → get_or bytes k 0 ≡ k % 251

module _ {from : ℕ} {bytes : List ℕ} where
  pub seen_start : SeenTo from bytes from
  seen_start = record { far = omega arith; shaded = λ k l m. absurd (omega arith) }

  pub seen_turn : {i : ℕ} → SeenTo from bytes i → get_or bytes i 0 ≡ i % 251 → SeenTo from bytes (i + 1)
  seen_turn {i} s e = record { far = let f = s.far in omega arith; shaded = λ k l m. at k l (eq-or-lt_of_le (omega arith)) }
    where
      at : (k : ℕ) → from ≤ k → (k ≡ i) ⊎ (k < i) → get_or bytes k 0 ≡ k % 251
      at k l (inl same) = rw same e
      at k l (inr less) = s.shaded k l less

  pub seen_end : {i : ℕ} → SeenTo from bytes i → length bytes ≤ i → Painted from bytes
  unfolding Painted
  seen_end s h k l m = s.shaded k l (omega arith)

  pub seen_other : {i : ℕ} → SeenTo from bytes i → i < length bytes → (get_or bytes i 0 ≡ i % 251 → ⊥) → Painted from bytes → false ≡ true
  unfolding Painted
  seen_other {i} s h d p = absurd (d (p i s.far h))

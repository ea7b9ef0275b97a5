-- Stores that are still to be made, one behind the other: what the list holds once they are.
use Prim.Native.Nat.{ℕ, suc, ◌+◌, ◌≤◌}
use mathlib.Core.Path.{◌≡◌, refl, sym, ap, ◌∙◌}
use mathlib.Core.List.{List, [], ◌∷◌}
use native.Mathlib.Numerals.{add-one}
use native.Mathlib.Omega.{arith}
use lib.ListN.{length, set, length-set}
use lib.Seq.{sets, sets-eq}
use Rattle.lists.specs.Placed.{placed}
use Rattle.lists.proofs.Placed.{placed-fits}

module _ {A : Type 0} where
  -- once ws are stored in b, from i on, it is d
  pub record Remaining (d b : List A) (i : ℕ) (ws : List A) : Type 0 where
    pub is : sets b i ws ≡ d
    pub room : i + length ws ≤ length b

  pub remaining : (w b : List A) → length w ≤ length b → Remaining (placed 0 w b) b 0 w
  remaining w b h = record { is = sets-eq w b 0 (omega (arith, h)) ∙ sym (placed-fits 0 w b (omega (arith, h))); room = omega (arith, h) }

  pub remaining_turn : (d b : List A) (i : ℕ) (ws : List A) (w : A) (rest : List A) → Remaining d b i ws → ws ≡ w ∷ rest → Remaining d (set b i w) (i + 1) rest
  remaining_turn d b i ws w rest r e = record {
    is = ap (λ k. sets (set b i w) k rest) (add-one i) ∙ sym (ap (sets b i) e) ∙ r.is;
    room = omega (arith, r.room, ap length e, length-set b i w);
  }

  pub remaining_end : (d b : List A) (i : ℕ) (ws : List A) → Remaining d b i ws → ws ≡ [] → b ≡ d
  remaining_end d b i ws r e = sym (ap (sets b i) e) ∙ r.is

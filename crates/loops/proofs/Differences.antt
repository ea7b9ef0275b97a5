-- Differences of natural numbers, as integers.
use Prim.Native.Nat.{ℕ, ◌+◌}
use mathlib.Core.Path.{◌≡◌, sym, ap, ◌∙◌}
use lib.IntN.{ℤ, pos, neg_ℤ, ◌+ℤ◌, ◌-ℤ◌, +ℤ_assoc, +ℤ_comm, neg_ℤ-+ℤ, neg_ℤ-neg_ℤ}

pub +ℤ_left_comm : (a b c : ℤ) → a +ℤ (b +ℤ c) ≡ b +ℤ (a +ℤ c)
+ℤ_left_comm a b c = sym (+ℤ_assoc a b c) ∙ ap (◌+ℤ c) (+ℤ_comm a b) ∙ +ℤ_assoc b a c

pub difference_of_sums : (m n k l : ℕ) → pos (m + n) -ℤ pos (k + l) ≡ (pos m -ℤ pos k) +ℤ (pos n -ℤ pos l)
difference_of_sums m n k l = ap (pos (m + n) +ℤ◌) (neg_ℤ-+ℤ (pos k) (pos l)) ∙ exchange (pos m) (pos n) (neg_ℤ (pos k)) (neg_ℤ (pos l))
  where
    exchange : (a b c d : ℤ) → (a +ℤ b) +ℤ (c +ℤ d) ≡ (a +ℤ c) +ℤ (b +ℤ d)
    exchange a b c d = +ℤ_assoc a b (c +ℤ d) ∙ ap (a +ℤ◌) (+ℤ_left_comm b c d) ∙ sym (+ℤ_assoc a c (b +ℤ d))

pub difference_negated : (m n : ℕ) → pos n -ℤ pos m ≡ neg_ℤ (pos m -ℤ pos n)
difference_negated m n =
    +ℤ_comm (pos n) (neg_ℤ (pos m)) ∙ ap (neg_ℤ (pos m) +ℤ◌) (sym (neg_ℤ-neg_ℤ (pos n))) ∙ sym (neg_ℤ-+ℤ (pos m) (neg_ℤ (pos n)))

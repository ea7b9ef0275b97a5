-- The rounded root, from a root of 53 digits and what is left of it.
use Rattle.std.proofs.Common.{◌≡◌, ℕ, ◌+◌, ◌-◌, ◌*◌, ◌/◌, ◌^◌, ◌<◌, ◌≤◌, false, sym, ap, ◌∙◌, le_trans, le_of_eq, lt_of_lt_of_le, le-add_right, lt_of_le_of_lt, mul-le-mul_right, mul_assoc, mul-lt-mul_of_pos_right, add-one, arith, pow-add}
use Prim.Native.Nat.{compare, Ordering}
use native.Mathlib.Nat.{div-eq_of_lt-le}
use lib.Ieee.{binary64, size, nearest, units}
use lib.Ieee.Digits.{size-lt, size-le}
use Rattle.numbers.specs.Root.{root_of}
use Rattle.numbers.specs.Sqrt.{root_float}
use Rattle.numbers.proofs.root.Whole.{pow_lt_back, compare_lt, compare_gt, square_lt-back, square_shift, four_pos, root_is}

-- ---- of the root w of (Q * Q + R) * 4 ^ K the leading 53 digits are Q
module _ (X Q R K : ℕ) (e : X ≡ (Q * Q + R) * 4 ^ K) (rest : R ≤ 2 * Q) (least : 2 ^ 52 ≤ Q) (high : Q < 2 ^ 53) where
  from-below : Q * 2 ^ K ≤ root_of X
  from-below =
      let a : Q * 2 ^ K < root_of X + 1 =
      square_lt-back (Q * 2 ^ K) (root_of X + 1)
      (lt_of_le_of_lt (le_trans (le_of_eq (square_shift Q K)) (le_trans (mul-le-mul_right (4 ^ K) (le-add_right (Q * Q) R)) (le_of_eq (sym e)))) (root_is X).high) in
      omega arith

  next : Q * Q + R < (Q + 1) * (Q + 1)
  next = omega arith

  from-above : root_of X < (Q + 1) * 2 ^ K
  from-above =
      square_lt-back (root_of X) ((Q + 1) * 2 ^ K)
      (lt_of_le_of_lt (root_is X).low (lt_of_le_of_lt (le_of_eq e) (lt_of_lt_of_le (mul-lt-mul_of_pos_right next (four_pos K)) (le_of_eq (sym (square_shift (Q + 1) K))))))

  dropped : size (root_of X) - 53 ≡ K
  dropped =
      let a : 52 + K < size (root_of X) =
      pow_lt_back (52 + K) (size (root_of X)) (lt_of_le_of_lt (le_trans (le_of_eq (pow-add 2 52 K)) (le_trans (mul-le-mul_right (2 ^ K) least) from-below)) (size-lt (root_of X))) in
      let b : size (root_of X) ≤ 53 + K =
      size-le (root_of X) (53 + K) (lt_of_lt_of_le from-above (le_trans (mul-le-mul_right (2 ^ K) (upper Q high)) (le_of_eq (sym (pow-add 2 53 K))))) in
      omega arith
    where
      upper : (q : ℕ) → q < 2 ^ 53 → q + 1 ≤ 2 ^ 53
      upper q h = omega arith

  kept : root_of X / 2 ^ K ≡ Q
  kept = div-eq_of_lt-le (2 ^ K) from-below from-above

  pub root_float_lem : root_float X ≡ units binary64 false (nearest Q (compare (4 * X) ((2 * Q + 1) * (2 * Q + 1) * 4 ^ K))) K
  unfolding root_float
  root_float_lem =
      ap (λ (k : ℕ). units binary64 false (nearest (root_of X / 2 ^ k) (compare (4 * X) ((2 * (root_of X / 2 ^ k) + 1) * (2 * (root_of X / 2 ^ k) + 1) * 4 ^ k))) k) dropped
      ∙ ap (λ (q : ℕ). units binary64 false (nearest q (compare (4 * X) ((2 * q + 1) * (2 * q + 1) * 4 ^ K))) K) kept

  four_times : 4 * X ≡ 4 * (Q * Q + R) * 4 ^ K
  four_times = ap (λ (z : ℕ). 4 * z) e ∙ sym (mul_assoc 4 (Q * Q + R) (4 ^ K))

  pub root_down : R ≤ Q → root_float X ≡ units binary64 false Q K
  root_down h =
      root_float_lem
      ∙ ap (λ (o : Ordering). units binary64 false (nearest Q o) K)
      (compare_lt (4 * X) ((2 * Q + 1) * (2 * Q + 1) * 4 ^ K) (lt_of_le_of_lt (le_of_eq four_times) (mul-lt-mul_of_pos_right (below Q R h) (four_pos K))))
    where
      below : (q r : ℕ) → r ≤ q → 4 * (q * q + r) < (2 * q + 1) * (2 * q + 1)
      below q r h = omega arith

  pub root_up : Q < R → root_float X ≡ units binary64 false (Q + 1) K
  root_up h =
      root_float_lem
      ∙ ap (λ (o : Ordering). units binary64 false (nearest Q o) K)
      (compare_gt (4 * X) ((2 * Q + 1) * (2 * Q + 1) * 4 ^ K) (lt_of_lt_of_le (mul-lt-mul_of_pos_right (over Q R h) (four_pos K)) (le_of_eq (sym four_times))))
      ∙ ap (λ (z : ℕ). units binary64 false z K) (sym (add-one Q))
    where
      over : (q r : ℕ) → q < r → (2 * q + 1) * (2 * q + 1) < 4 * (q * q + r)
      over q r h = omega arith

-- Whole numbers: squares, powers of 4 and whole roots.
use Rattle.std.proofs.Common.{◌≡◌, ℕ, zero, suc, ◌+◌, ◌-◌, ◌*◌, ◌/◌, ◌^◌, ◌<◌, ◌≤◌, Bool, true, false, cond, not, T, leb, sym, refl, ap, ◌∙◌, subst, zero-le, lt_of_lt_of_le, lt_of_le_of_lt, le_of_lt, add_assoc, lt_irrefl, mul-le-mul_right, mul_assoc, mul_comm, div-lt_iff_lt-mul, add-mul, mul-le-mul, add_comm, mul-pos, pow-suc, lt_of_not-le, mul-add, not-le_of_lt, mul_left_comm, arith, lit<, lit≤, eqb→eq, leb→le, pow_pos, pow_mono}
use Prim.Native.Nat.{compare, Ordering}
use native.Mathlib.Nat.{mul-mul-mul_comm, mul-lt-mul_of_pos_left, add_left_comm, pow-le-pow_left}
use native.Mathlib.Decide.{dec_le}
use lib.Dec.{nleb→lt, is_le, compare_is_eq}
use lib.Ieee.{size}
use lib.Ieee.Digits.{size-lt}
use Rattle.numbers.specs.Root.{IsRoot, digits, root_of}

pub pow_lt_back : (a b : ℕ) → 2 ^ a < 2 ^ b → a < b
pow_lt_back a b h = go (dec_le b a)
  where
    go : Dec (b ≤ a) → a < b
    go (yes k) = absurd (not-le_of_lt h (pow_mono k))
    go (no k) = lt_of_not-le k

-- ---- `compare`
pub compare_lt : (a b : ℕ) → a < b → compare a b ≡ Ordering.lt
compare_lt a b h = go (compare a b) (nleb→lt a b) (eqb→eq a b)
  where
    go : (o : Ordering) → (T (not (is_le o)) → b < a) → (T (compare_is_eq o) → a ≡ b) → o ≡ Ordering.lt
    go Ordering.lt k e = refl
    go Ordering.eq k e = absurd (lt_irrefl a (subst (λ (z : ℕ). a < z) (sym (e tt)) h))
    go Ordering.gt k e = absurd (not-le_of_lt h (le_of_lt (k tt)))

pub compare_gt : (a b : ℕ) → b < a → compare a b ≡ Ordering.gt
compare_gt a b h = go (compare a b) (leb→le a b)
  where
    go : (o : Ordering) → (T (is_le o) → a ≤ b) → o ≡ Ordering.gt
    go Ordering.lt k = absurd (not-le_of_lt h (k tt))
    go Ordering.eq k = absurd (not-le_of_lt h (k tt))
    go Ordering.gt k = refl

-- ---- squares
pub square_odd : (r : ℕ) → (2 * r + 1) * (2 * r + 1) ≡ 4 * (r * r) + 4 * r + 1
square_odd r = simp (mul-add, add-mul, mul_comm, mul_assoc, mul_left_comm, add_assoc, add_comm, add_left_comm) (omega arith)

pub square_even : (r : ℕ) → (2 * r) * (2 * r) ≡ 4 * (r * r)
square_even r = simp (mul-add, add-mul, mul_comm, mul_assoc, mul_left_comm, add_assoc, add_comm, add_left_comm) (omega arith)

pub square_next : (r : ℕ) → (r + 1) * (r + 1) ≡ r * r + 2 * r + 1
square_next r = simp (mul-add, add-mul, mul_comm, mul_assoc, mul_left_comm, add_assoc, add_comm, add_left_comm) (omega arith)

pub square_lt : {a b : ℕ} → a < b → a * a < b * b
square_lt {a} {b} h = lt_of_le_of_lt (mul-le-mul_right a (le_of_lt h)) (mul-lt-mul_of_pos_left h (lt_of_le_of_lt zero-le h))

pub square_lt-back : (a b : ℕ) → a * a < b * b → a < b
square_lt-back a b h = go (dec_le b a)
  where
    go : Dec (b ≤ a) → a < b
    go (yes k) = absurd (not-le_of_lt h (mul-le-mul k k))
    go (no k) = lt_of_not-le k

-- ---- powers of 4
pub four-pow : (k : ℕ) → 4 ^ k ≡ 2 ^ k * 2 ^ k
four-pow zero = refl
four-pow (suc k) = pow-suc 4 k ∙ ap (λ (z : ℕ). z * 4) (four-pow k) ∙ mul-mul-mul_comm (2 ^ k) (2 ^ k) 2 2 ∙ ap (λ (z : ℕ). z * z) (sym (pow-suc 2 k))

-- (a * 2 ^ k) squared
pub square_shift : (a k : ℕ) → a * 2 ^ k * (a * 2 ^ k) ≡ a * a * 4 ^ k
square_shift a k = mul-mul-mul_comm a (2 ^ k) a (2 ^ k) ∙ ap (λ (z : ℕ). a * a * z) (sym (four-pow k))

pub four_pos : (k : ℕ) → 0 < 4 ^ k
four_pos k = subst (λ (z : ℕ). 0 < z) (sym (four-pow k)) (mul-pos (pow_pos k) (pow_pos k))

pub four_next : (k : ℕ) → (k ≡ 0 → ⊥) → 4 ^ k ≡ 4 ^ (k - 1) * 4
four_next zero h = absurd (h refl)
four_next (suc k) h = pow-suc 4 k ∙ ap (λ (z : ℕ). 4 ^ z * 4) (less k)
  where
    less : (k : ℕ) → k ≡ suc k - 1
    less k = omega arith

-- ---- `root_of` is the root
digits_is : (f n : ℕ) → n < 4 ^ f → IsRoot n (digits f n)
unfolding digits
digits_is zero n h = record { low = omega arith; high = h }
digits_is (suc f) n h =
    go (digits f (n / 4)) (digits_is f (n / 4) ((div-lt_iff_lt-mul (lit< tt)).1 (subst (λ (z : ℕ). n < z) (pow-suc 4 f) h)))
    (leb ((2 * digits f (n / 4) + 1) * (2 * digits f (n / 4) + 1)) n) (leb→le ((2 * digits f (n / 4) + 1) * (2 * digits f (n / 4) + 1)) n) (nleb→lt ((2 * digits f (n / 4) + 1) * (2 * digits f (n / 4) + 1)) n)
  where
    go : (r : ℕ) → IsRoot (n / 4) r → (b : Bool) → (T b → (2 * r + 1) * (2 * r + 1) ≤ n) → (T (not b) → n < (2 * r + 1) * (2 * r + 1)) → IsRoot n (cond b (2 * r + 1) (2 * r))
    go r i true y z =
        let e = square_odd r in
        let g = square_next (2 * r + 1) in
        let k = square_next r in
        let hi = i.high in
        let lo = y tt in
        record { low = lo; high = omega arith }
    go r i false y z =
        let e = square_odd r in
        let g = square_even r in
        let lo = i.low in
        record { low = omega arith; high = z tt }

pub root_is : (n : ℕ) → IsRoot n (root_of n)
unfolding root_of
root_is n = digits_is (size n) n (lt_of_lt_of_le (size-lt n) (pow-le (size n)))
  where
    pow-le : (k : ℕ) → 2 ^ k ≤ 4 ^ k
    pow-le k = pow-le-pow_left (lit≤ tt) k

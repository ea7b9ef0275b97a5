-- An integer as the difference of two natural numbers: sums, the order and sizes of integers are then those of natural numbers. Assumes nothing.
use Rattle.std.proofs.Common.{◌≡◌, ℕ, zero, suc, ◌+◌, ◌-◌, ◌*◌, ◌<◌, ◌≤◌, Bool, true, false, cond, not, T, ltb, leb, ℤ, pos, negsuc, ◌+ℤ◌, ◌-ℤ◌, neg_ℤ, nat_abs, sym, refl, ap, ◌∙◌, subst, le_refl, le_antisymm, arith, ltb→lt, leb→le, nltb→le, le-ltb, lt-ltb, le-leb, leb-false, leb-true}
use lib.IntN.{sub_ℕ, pos-ne-negsuc}
use lib.Signed.{le_z, lt_z}
use borrow.Author.Tests.{lt-leb}

-- z is a - b
pub data Difference (a b : ℕ) : ℤ → Type 0 where
  over : (k : ℕ) → a ≡ b + k → Difference a b (pos k)
  under : (k : ℕ) → b ≡ a + suc k → Difference a b (negsuc k)

ltb_not : (a b : ℕ) → ltb a b ≡ not (leb b a)
ltb_not a b = go (leb b a) refl
  where
    go : (t : Bool) → leb b a ≡ t → ltb a b ≡ not t
    go true e = le-ltb a b (leb-true b a e)
    go false e = lt-ltb a b (leb-false b a e)

-- equal differences
same : {a b c d : ℕ} {z : ℤ} → a + d ≡ c + b → Difference a b z → Difference c d z
same h (over k e) = over k (omega arith)
same h (under k e) = under k (omega arith)

difference_is : (a b : ℕ) → Difference a b (sub_ℕ a b)
difference_is a b = go (ltb a b) (ltb→lt a b) (nltb→le a b)
  where
    go : (t : Bool) → (T t → a < b) → (T (not t) → b ≤ a) → Difference a b (cond t (negsuc (b - suc a)) (pos (a - b)))
    go true l g = let i = l tt in under (b - suc a) (omega arith)
    go false l g = let i = g tt in over (a - b) (omega arith)

pub difference_neg : {a b : ℕ} {z : ℤ} → Difference a b z → Difference b a (neg_ℤ z)
difference_neg (over zero e) = over zero (omega arith)
difference_neg (over (suc k) e) = under k e
difference_neg (under k e) = over (suc k) e

pub difference_add : {a b c d : ℕ} {y z : ℤ} → Difference a b y → Difference c d z → Difference (a + c) (b + d) (y +ℤ z)
difference_add (over k e) (over l f) = over (k + l) (omega arith)
difference_add (over k e) (under l f) = same (omega arith) (difference_is k (suc l))
difference_add (under k e) (over l f) = same (omega arith) (difference_is l (suc k))
difference_add (under k e) (under l f) = under (suc (k + l)) (omega arith)

pub difference_sub : {a b c d : ℕ} {y z : ℤ} → Difference a b y → Difference c d z → Difference (a + d) (b + c) (y -ℤ z)
difference_sub g h = difference_add g (difference_neg h)

pub difference_same : {a b c d : ℕ} {y z : ℤ} → Difference a b y → Difference c d z → a + d ≡ c + b → y ≡ z
difference_same (over k e) (over l f) h = ap pos (omega arith)
difference_same (over k e) (under l f) h = absurd (omega arith)
difference_same (under k e) (over l f) h = absurd (omega arith)
difference_same (under k e) (under l f) h = ap negsuc (omega arith)

pub same_difference : {a b c d : ℕ} {y z : ℤ} → Difference a b y → Difference c d z → y ≡ z → a + d ≡ c + b
same_difference (over k e) (over l f) h = let i : k ≡ l = ap nat_abs h in omega arith
same_difference (over k e) (under l f) h = absurd (pos-ne-negsuc k l h)
same_difference (under k e) (over l f) h = absurd (pos-ne-negsuc l k (sym h))
same_difference (under k e) (under l f) h = let i : suc k ≡ suc l = ap nat_abs h in omega arith

-- ---- the order
leb-same : (a b c d : ℕ) → (a ≤ b → c ≤ d) → (b < a → d < c) → leb a b ≡ leb c d
leb-same a b c d to back = go (leb a b) refl
  where
    go : (t : Bool) → leb a b ≡ t → t ≡ leb c d
    go true e = sym (le-leb c d (to (leb-true a b e)))
    go false e = sym (lt-leb c d (back (leb-false a b e)))

pub difference_le : {a b c d : ℕ} {y z : ℤ} → Difference a b y → Difference c d z → le_z y z ≡ leb (a + d) (c + b)
difference_le {a} {b} {c} {d} (over k e) (over l f) = leb-same k l (a + d) (c + b) (λ h. omega arith) (λ h. omega arith)
difference_le {a} {b} {c} {d} (over k e) (under l f) = sym (lt-leb (a + d) (c + b) (omega arith))
difference_le {a} {b} {c} {d} (under k e) (over l f) = sym (le-leb (a + d) (c + b) (omega arith))
difference_le {a} {b} {c} {d} (under k e) (under l f) = leb-same l k (a + d) (c + b) (λ h. omega arith) (λ h. omega arith)

pub below_not : (y z : ℤ) → lt_z y z ≡ not (le_z z y)
below_not (pos a) (pos b) = ltb_not a b
below_not (pos a) (negsuc b) = refl
below_not (negsuc a) (pos b) = refl
below_not (negsuc a) (negsuc b) = ltb_not b a

-- ---- sizes, doubled: a - b is at most K / 2 above and below zero
pub difference_size : {a b : ℕ} {z : ℤ} (K : ℕ) → Difference a b z → 2 * a ≤ 2 * b + K → 2 * b ≤ 2 * a + K → 2 * nat_abs z ≤ K
difference_size K (over k e) l m = omega arith
difference_size K (under k e) l m = omega arith

-- ---- an integer from - M to M
whole : (M : ℕ) → Difference M 0 (pos M)
whole M = over M (omega arith)

pub at_most : {a b : ℕ} {z : ℤ} (M : ℕ) → Difference a b z → a ≤ b + M → T (le_z z (pos M))
at_most {a} {b} M g h = subst T (sym (difference_le g (whole M) ∙ le-leb (a + 0) (M + b) (omega arith))) tt

pub at_least : {a b : ℕ} {z : ℤ} (M : ℕ) → Difference a b z → b ≤ a + M → T (le_z (neg_ℤ (pos M)) z)
at_least {a} {b} M g h = subst T (sym (difference_le (difference_neg (whole M)) g ∙ le-leb (0 + b) (a + M) (omega arith))) tt

-- ---- sizes of sums
-- every integer is such a difference, of which one part is zero
high : ℤ → ℕ
high (pos n) = n
high (negsuc n) = 0

low : ℤ → ℕ
low (pos n) = 0
low (negsuc n) = suc n

parts : (z : ℤ) → Difference (high z) (low z) z
unfolding high low
parts (pos n) = over n (omega arith)
parts (negsuc n) = under n (omega arith)

high-size : (z : ℤ) → high z ≤ nat_abs z
unfolding high
high-size (pos n) = le_refl n
high-size (negsuc n) = omega arith

low-size : (z : ℤ) → low z ≤ nat_abs z
unfolding low
low-size (pos n) = omega arith
low-size (negsuc n) = le_refl (suc n)

pub difference_most : {a b : ℕ} {z : ℤ} (M : ℕ) → Difference a b z → a ≤ b + M → b ≤ a + M → nat_abs z ≤ M
difference_most M (over k e) l m = omega arith
difference_most M (under k e) l m = omega arith

pub most_difference : {a b : ℕ} {z : ℤ} (M : ℕ) → Difference a b z → nat_abs z ≤ M → (a ≤ b + M) × (b ≤ a + M)
most_difference M (over k e) l = (omega arith, omega arith)
most_difference M (under k e) l = (omega arith, omega arith)

-- where little is left of x - y - z, z is not much larger than x and y together
pub taken-size : (x y z : ℤ) (A B M : ℕ) → nat_abs x ≤ A → nat_abs y ≤ B → nat_abs (x -ℤ y -ℤ z) ≤ M → nat_abs z ≤ A + B + M
taken-size x y z A B M a b m =
    let s = most_difference M (difference_sub (difference_sub (parts x) (parts y)) (parts z)) m in
    let xh = high-size x in
    let xl = low-size x in
    let yh = high-size y in
    let yl = low-size y in
    difference_most (A + B + M) (parts z) (omega arith) (omega arith)

-- an integer from - M to N, where N is no less than M
pub between-size : (z : ℤ) (M N : ℕ) → T (le_z (neg_ℤ (pos M)) z) → T (le_z z (pos N)) → M ≤ N → nat_abs z ≤ N
between-size (pos n) M N l u h = leb→le n N u
between-size (negsuc n) zero N l u h = absurd l
between-size (negsuc n) (suc M) N l u h = let k : n ≤ M = leb→le n M l in omega arith

pub distance-turned : (x y : ℤ) → nat_abs (x -ℤ y) ≡ nat_abs (y -ℤ x)
distance-turned x y = le_antisymm (turned x y) (turned y x)
  where
    turned : (x y : ℤ) → nat_abs (x -ℤ y) ≤ nat_abs (y -ℤ x)
    turned x y =
        let s = most_difference (nat_abs (y -ℤ x)) (difference_sub (parts y) (parts x)) (le_refl (nat_abs (y -ℤ x))) in
        difference_most (nat_abs (y -ℤ x)) (difference_sub (parts x) (parts y)) (omega arith) (omega arith)

-- A vector divided by its length has no component above 2 in size: between |x| and the length n lies a power of two P, with |x| ≤ 2 P and P ≤ n, and each step on it is exact.
-- P is 2 ^ k / 2 ^ 511: where |x| is 2 ^ -510 or less k is 0, since a length is used only above 2 ^ -511.
use Rattle.std.proofs.Common.{◌≡◌, ℕ, zero, suc, ◌+◌, ◌-◌, ◌*◌, ◌/◌, ◌^◌, ◌<◌, ◌≤◌, Bool, true, false, T, ◌⊎◌, ℤ, pos, sym, refl, ap, ◌∙◌, subst, inl, inr, true≢false, le_trans, le_of_eq, lt_of_le_of_lt, le_of_lt, mul-le-mul_right, zero-lt-suc, mul_assoc, mul_comm, mul-le-mul, mul-le-mul_left, mul-lt-mul_of_pos_right, mul-pos, one-mul, lt_of_not-le, le-div_iff_mul-le, zero-mul, mul-one, mul_right_comm, not-le_of_lt, le_of_mul-le-mul_right, arith, lit<, pow_pos, pow-add, ltb-true}
use native.Mathlib.Nat.{mul-mul-mul_comm, pow-succ'}
use native.Mathlib.Decide.{dec_le}
use mathlib.Core.Bool.{false≢true}
use lib.Pow.{pow-lt}
use lib.Ieee.{Float, nan, inf, fin, binary64, up, down, fits, round, add, mul, div, lt, le, unlike, of_bits}
use lib.Ieee.Fits.{up_pos, down_pos, round-fits}
use lib.Ieee.Exact.{HasValue, round_exact}
use lib.Ieee.Order.{round_mono, le_of_values}
use lib.Ieee.Scale.{finite}
use Rattle.numbers.specs.Sqrt.{sqrt_of}
use Rattle.numbers.specs.Nearest.{NearestRoot}
use Rattle.numbers.specs.Constants.{one, shortest}
use Rattle.numbers.specs.Within.{Within, NonNeg}
use Rattle.numbers.proofs.root.Nearest.{sqrt-nearest}
use Rattle.numbers.proofs.Reals.{fits-digits, fits_under, exact}
use Rattle.numbers.proofs.Magnitude.{round_within, held_small}
use Rattle.numbers.proofs.Signed.{le_trans_float, above, rounded_mono}
use Rattle.numbers.proofs.Monotone.{add_rounded, div-at}
use Rattle.numbers.proofs.Fractions.{Under, round_under, below-value}

-- ---- powers of two between 2 ^ -511 and 2 ^ 1023 are values of binary64, with their squares up to 2 ^ 1023 and their reciprocals
-- 2 ^ k / 2 ^ 511
abbrev Pow : ℕ → Float
Pow k = round binary64 false (2 ^ k) (2 ^ 511)

pow_is : (k : ℕ) → k ≤ 600 → HasValue (Pow k) false (2 ^ k) (2 ^ 511)
pow_is k h =
    round_exact binary64 false (2 ^ k) (2 ^ 511) 1 (k + 563) (pow_pos 511) (lit< tt)
    (lt_of_le_of_lt (le_of_eq (one-mul (2 ^ (k + 563)))) (pow-lt {i = k + 563} {j = 2098} (omega arith)))
    (sym (pow-add 2 k 1074) ∙ ap (λ (z : ℕ). 2 ^ z) (sum k) ∙ pow-add 2 (k + 563) 511 ∙ ap (λ (z : ℕ). z * 2 ^ 511) (sym (one-mul (2 ^ (k + 563)))))
  where
    sum : (k : ℕ) → k + 1074 ≡ k + 563 + 511
    sum k = omega arith

square_is : (k : ℕ) → k ≤ 600 → HasValue (round binary64 false (2 ^ k * 2 ^ k) (2 ^ 511 * 2 ^ 511)) false (2 ^ k * 2 ^ k) (2 ^ 511 * 2 ^ 511)
square_is k h =
    round_exact binary64 false (2 ^ k * 2 ^ k) (2 ^ 511 * 2 ^ 511) 1 (k + k + 52) (lit< tt) (lit< tt)
    (lt_of_le_of_lt (le_of_eq (one-mul (2 ^ (k + k + 52)))) (pow-lt {i = k + k + 52} {j = 2098} (omega arith)))
    (ap (λ (z : ℕ). z * 2 ^ 1074) (sym (pow-add 2 k k)) ∙ sym (pow-add 2 (k + k) 1074) ∙ ap (λ (z : ℕ). 2 ^ z) (sum k) ∙ pow-add 2 (k + k + 52) 1022 ∙ ap (λ (z : ℕ). z * 2 ^ 1022) (sym (one-mul (2 ^ (k + k + 52)))))
  where
    sum : (k : ℕ) → k + k + 1074 ≡ k + k + 52 + 1022
    sum k = omega arith

recip_is : (k : ℕ) → k ≤ 600 → HasValue (round binary64 false (2 ^ 511) (2 ^ k)) false (2 ^ 511) (2 ^ k)
recip_is k h =
    round_exact binary64 false (2 ^ 511) (2 ^ k) 1 (1585 - k) (pow_pos k) (lit< tt)
    (lt_of_le_of_lt (le_of_eq (one-mul (2 ^ (1585 - k)))) (pow-lt {i = 1585 - k} {j = 2098} (omega arith)))
    (ap (λ (z : ℕ). 2 ^ z) (sum k h) ∙ pow-add 2 (1585 - k) k ∙ ap (λ (z : ℕ). z * 2 ^ k) (sym (one-mul (2 ^ (1585 - k)))))
  where
    sum : (k : ℕ) → k ≤ 600 → 1585 ≡ 1585 - k + k
    sum k h = omega arith

-- ---- the power of two at a / c: the least k with a / c ≤ 2 * 2 ^ k / 2 ^ 511
record Near (a c K : ℕ) : Type 0 where
  k : ℕ
  most : k ≤ K
  twice : a * 2 ^ 511 ≤ 2 ^ suc k * c
  once : (k ≡ 0) ⊎ (2 ^ k * c ≤ a * 2 ^ 511)

near : (a c K : ℕ) → a * 2 ^ 511 ≤ 2 ^ suc K * c → Near a c K
near a c zero h = record { k = 0; most = omega arith; twice = h; once = inl refl }
near a c (suc K) h = go (dec_le (a * 2 ^ 511) (2 ^ suc K * c)) (λ l. near a c K l)
  where
    go : Dec (a * 2 ^ 511 ≤ 2 ^ suc K * c) → (a * 2 ^ 511 ≤ 2 ^ suc K * c → Near a c K) → Near a c (suc K)
    go (yes l) f = let r = f l in record { k = r.k; most = (let m = r.most in omega arith); twice = r.twice; once = r.once }
    go (no l) f = record { k = suc K; most = omega arith; twice = h; once = inr (le_of_lt (lt_of_not-le l)) }

-- ---- n is finite, not negative and at least 2 ^ k / 2 ^ 511
abbrev pub Over : ℕ → Float → Type 0
Over k nan = ⊥
Over k (inf s) = ⊥
Over k (fin true m e) = ⊥
Over k (fin false m e) = 2 ^ k * down e ≤ m * up e * 2 ^ 511

value_over : (n : Float) (N k : ℕ) → HasValue n false N (2 ^ 1074) → 2 ^ (k + 563) ≤ N → Over k n
value_over nan N k v h = v
value_over (inf s) N k v h = v
value_over (fin true m e) N k v h = absurd (true≢false v.0)
value_over (fin false m e) N k v h =
    le_of_mul-le-mul_right {m = 2 ^ k * down e} {n = m * up e * 2 ^ 511} {k = 2 ^ 563}
    (le_trans (le_of_eq (mul_right_comm (2 ^ k) (down e) (2 ^ 563) ∙ ap (λ (z : ℕ). z * down e) (sym (pow-add 2 k 563))))
    (le_trans (mul-le-mul_right (down e) h) (le_of_eq (sym v.1 ∙ sym (mul_assoc (m * up e) (2 ^ 511) (2 ^ 563))))))
    (pow_pos 563)

scaled : (y : Float) (k : ℕ) → HasValue y false (2 ^ k) (2 ^ 511) → HasValue y false (2 ^ (k + 563)) (2 ^ 1074)
scaled nan k v = v
scaled (inf s) k v = v
scaled (fin s m e) k v = (v.0, sym (mul_assoc (m * up e) (2 ^ 511) (2 ^ 563)) ∙ ap (λ (z : ℕ). z * 2 ^ 563) v.1 ∙ mul_right_comm (2 ^ k) (down e) (2 ^ 563) ∙ ap (λ (z : ℕ). z * down e) (sym (pow-add 2 k 563)))

four : 4 ^ 1074 ≡ 2 ^ 511 * 2 ^ 511 * (2 ^ 563 * 2 ^ 563)
four = refl

doubled : (Y : ℕ) → (Y + Y) * (Y + Y) ≡ 4 * (Y * Y)
doubled Y = omega arith

clash : (X Y N : ℕ) → Y * Y ≤ X → N < Y → 4 * X ≤ (Y + N) * (Y + N) → ⊥
clash X Y N a b c =
    let k : Y + N < Y + Y = omega arith in
    let l : (Y + Y) * (Y + Y) ≤ (Y + N) * (Y + N) = le_trans (le_of_eq (doubled Y)) (le_trans (mul-le-mul_left 4 a) c) in
    not-le_of_lt (lt_of_le_of_lt (mul-le-mul_left (Y + N) (le_of_lt k)) (mul-lt-mul_of_pos_right k (lt_of_le_of_lt Prim.Native.Nat.zero-le k))) l

-- the root of at least 4 ^ k / 4 ^ 511 is at least 2 ^ k / 2 ^ 511
root_over : (m : ℕ) (e : ℤ) (k : ℕ) → T (fits binary64 (fin false (suc m) e)) → k ≤ 600 → 2 ^ k * 2 ^ k * down e ≤ suc m * up e * (2 ^ 511 * 2 ^ 511) → Over k (sqrt_of (fin false (suc m) e))
root_over m e k f h l = go (dec_le (2 ^ (k + 563)) at.0)
  where
    at : NearestRoot (suc m * up e * 4 ^ 1074 / down e) (sqrt_of (fin false (suc m) e))
    at = sqrt-nearest m e f

    low : 2 ^ (k + 563) * 2 ^ (k + 563) ≤ suc m * up e * 4 ^ 1074 / down e
    low =
        (le-div_iff_mul-le (down_pos e)).1
        (le_trans (le_of_eq (ap (λ (z : ℕ). z * down e) (ap (λ (z : ℕ). z * z) (pow-add 2 k 563) ∙ mul-mul-mul_comm (2 ^ k) (2 ^ 563) (2 ^ k) (2 ^ 563)) ∙ mul_right_comm (2 ^ k * 2 ^ k) (2 ^ 563 * 2 ^ 563) (down e)))
        (le_trans (mul-le-mul_right (2 ^ 563 * 2 ^ 563) l)
        (le_of_eq (mul_assoc (suc m * up e) (2 ^ 511 * 2 ^ 511) (2 ^ 563 * 2 ^ 563) ∙ ap (λ (z : ℕ). suc m * up e * z) (sym four)))))

    go : Dec (2 ^ (k + 563) ≤ at.0) → Over k (sqrt_of (fin false (suc m) e))
    go (yes g) = value_over (sqrt_of (fin false (suc m) e)) at.0 k at.1 g
    go (no g) =
        absurd (clash (suc m * up e * 4 ^ 1074 / down e) (2 ^ (k + 563)) at.0 low (lt_of_not-le g)
        (le_of_lt ((at.2 (Pow k) (2 ^ (k + 563)) (round-fits binary64 false (2 ^ k) (2 ^ 511)) (scaled (Pow k) k (pow_is k h))).1 (lt_of_not-le g))))

-- a length that passed its test
least_over : (n : Float) → lt shortest n ≡ true → T (finite n) → Over 0 n
unfolding lt of_bits
least_over nan h f = f
least_over (inf s) h f = f
least_over (fin true m e) h f = absurd (false≢true h)
least_over (fin false m e) h f = le_trans (le_of_lt (ltb-true (1 * 1 * down e) (m * up e * 2 ^ 511) h)) (le_of_eq refl)

one_is : one ≡ fin false 1 (pos 0)
unfolding of_bits
one_is = refl

-- 1 / n for an n of at least 2 ^ k / 2 ^ 511
recip_under : (n : Float) (k : ℕ) → k ≤ 600 → Over k n → Under (2 ^ 511) (2 ^ k) (div binary64 one n)
recip_under nan k h o = absurd o
recip_under (inf s) k h o = absurd o
recip_under (fin true m e) k h o = absurd o
recip_under (fin false zero e) k h o = absurd (not-le_of_lt (mul-pos (pow_pos k) (down_pos e)) (le_trans o (le_of_eq (ap (λ (z : ℕ). z * 2 ^ 511) (zero-mul (up e))))))
recip_under (fin false (suc m) e) k h o =
    subst (Under (2 ^ 511) (2 ^ k)) (sym (ap (λ (z : Float). div binary64 z (fin false (suc m) e)) one_is ∙ div-at binary64 false 1 (pos 0) m e))
    (round_under false (1 * 1 * down e) (suc m * up e * 1) (2 ^ 511) (2 ^ k) (mul-pos (mul-pos (zero-lt-suc m) (up_pos e)) (zero-lt-suc 0)) (pow_pos k) (recip_is k h)
    (le_trans (le_of_eq (ap (λ (z : ℕ). z * 2 ^ k) (one-mul (down e)) ∙ mul_comm (down e) (2 ^ k))) (le_trans o (le_of_eq (mul_comm (suc m * up e) (2 ^ 511) ∙ ap (λ (z : ℕ). 2 ^ 511 * z) (sym (mul-one (suc m * up e))))))))

-- ---- a product of what is at most 2 * 2 ^ k / 2 ^ 511 and what is at most 2 ^ 511 / 2 ^ k
product_within : (x d : Float) (k : ℕ) → Under (2 ^ suc k) (2 ^ 511) x → Under (2 ^ 511) (2 ^ k) d → Within 2 (mul binary64 x d)
unfolding mul
product_within nan d k v w = absurd v
product_within (inf s) d k v w = absurd v
product_within (fin s m e) nan k v w = absurd w
product_within (fin s m e) (inf t) k v w = absurd w
product_within (fin s m e) (fin t n g) k v w =
    round_within 2 (unlike s t) (m * up e * (n * up g)) (down e * down g) (held_small 2 (lit< tt)) (mul-pos (down_pos e) (down_pos g))
    (le_of_mul-le-mul_right {m = m * up e * (n * up g)} {n = 2 * (down e * down g)} {k = 2 ^ 511 * 2 ^ k}
    (le_trans (le_of_eq (mul-mul-mul_comm (m * up e) (n * up g) (2 ^ 511) (2 ^ k)))
    (le_trans (mul-le-mul v w) (le_of_eq (ap (λ (z : ℕ). z * down e * (2 ^ 511 * down g)) (pow-succ' 2 k) ∙ shuffle (2 ^ k) (down e) (2 ^ 511) (down g)))))
    (mul-pos (pow_pos 511) (pow_pos k)))
  where
    shuffle : (p c q d : ℕ) → 2 * p * c * (q * d) ≡ 2 * (c * d) * (q * p)
    shuffle p c q d = omega arith

-- ---- a sum of what is not negative is at least each part
self_rounded : (m : ℕ) (e : ℤ) → T (fits binary64 (fin false m e)) → HasValue (round binary64 false (m * up e) (down e)) false (m * up e) (down e)
self_rounded m e f =
    let g = fits-digits binary64 false m e f in
    exact binary64 false m e 0 (m * up e) (down e) g.0 g.1 (down_pos e) (ap (λ (z : ℕ). z * down e) (sym (mul-one (m * up e)))) (fits_under binary64 false m e f)

part : (a b dq dr : ℕ) → a * (dq * dr) + (0 * dr + 0 * dq) * dq ≤ (a * dr + b * dq) * dq + 0 * (dq * dr)
part a b dq dr = omega arith

part' : (a b dq dr : ℕ) → a * (dr * dq) + (0 * dq + 0 * dr) * dq ≤ (b * dq + a * dr) * dq + 0 * (dr * dq)
part' a b dq dr = omega arith

pub add-above_left : (q r : Float) → T (fits binary64 q) → T (finite q) → T (finite r) → NonNeg q → NonNeg r → T (le q (add binary64 q r))
add-above_left nan r f p p' n n' = absurd p
add-above_left (inf s) r f p p' n n' = absurd p
add-above_left (fin true m e) r f p p' n n' = absurd (true≢false n)
add-above_left (fin false m e) nan f p p' n n' = absurd p'
add-above_left (fin false m e) (inf t) f p p' n n' = absurd p'
add-above_left (fin false m e) (fin true o g) f p p' n n' = absurd (true≢false n')
add-above_left (fin false m e) (fin false o g) f p p' n n' =
    let q = round binary64 false (m * up e) (down e) in
    le_trans_float (fin false m e) q (add binary64 (fin false m e) (fin false o g))
    (le_of_values (fin false m e) q (m * up e) (down e) (m * up e) (down e) (down_pos e) (down_pos e) (refl, refl) (self_rounded m e f) (le_of_eq refl))
    (rounded_mono binary64 q (add binary64 (fin false m e) (fin false o g)) (m * up e) 0 (down e) (m * up e * down g + o * up g * down e) (0 * down g + 0 * down e) (down e * down g)
    (down_pos e) (mul-pos (down_pos e) (down_pos g)) (above (m * up e) (omega arith) refl) (add_rounded binary64 (fin false m e) (fin false o g) tt tt)
    (part (m * up e) (o * up g) (down e) (down g)))

pub add-above_right : (q r : Float) → T (fits binary64 r) → T (finite q) → T (finite r) → NonNeg q → NonNeg r → T (le r (add binary64 q r))
add-above_right nan r f p p' n n' = absurd p
add-above_right (inf s) r f p p' n n' = absurd p
add-above_right (fin true m e) r f p p' n n' = absurd (true≢false n)
add-above_right (fin false m e) nan f p p' n n' = absurd p'
add-above_right (fin false m e) (inf t) f p p' n n' = absurd p'
add-above_right (fin false m e) (fin true o g) f p p' n n' = absurd (true≢false n')
add-above_right (fin false m e) (fin false o g) f p p' n n' =
    let q = round binary64 false (o * up g) (down g) in
    le_trans_float (fin false o g) q (add binary64 (fin false m e) (fin false o g))
    (le_of_values (fin false o g) q (o * up g) (down g) (o * up g) (down g) (down_pos g) (down_pos g) (refl, refl) (self_rounded o g f) (le_of_eq refl))
    (rounded_mono binary64 q (add binary64 (fin false m e) (fin false o g)) (o * up g) 0 (down g) (m * up e * down g + o * up g * down e) (0 * down g + 0 * down e) (down e * down g)
    (down_pos g) (mul-pos (down_pos e) (down_pos g)) (above (o * up g) (omega arith) refl) (add_rounded binary64 (fin false m e) (fin false o g) tt tt)
    (part' (o * up g) (m * up e) (down g) (down e)))

-- ---- one component
square_at : (s : Bool) (m : ℕ) (e : ℤ) → mul binary64 (fin s m e) (fin s m e) ≡ round binary64 false (m * up e * (m * up e)) (down e * down e)
unfolding mul
square_at true m e = refl
square_at false m e = refl

-- S is at least the square of 2 ^ k / 2 ^ 511, and so its root is at least that
sum_over : (S : Float) (k : ℕ) → k ≤ 600 → T (fits binary64 S) → T (finite S) → NonNeg S → T (le (round binary64 false (2 ^ k * 2 ^ k) (2 ^ 511 * 2 ^ 511)) S) → Over k (sqrt_of S)
sum_over nan k h f p n l = absurd p
sum_over (inf s) k h f p n l = absurd p
sum_over (fin true m e) k h f p n l = absurd (true≢false n)
sum_over (fin false zero e) k h f p n l =
    absurd (not-le_of_lt (mul-pos (mul-pos (pow_pos k) (pow_pos k)) (down_pos e))
    (le_trans (below-value (round binary64 false (2 ^ k * 2 ^ k) (2 ^ 511 * 2 ^ 511)) zero e (2 ^ k * 2 ^ k) (2 ^ 511 * 2 ^ 511) (lit< tt) (square_is k h) l) (le_of_eq (ap (λ (z : ℕ). z * (2 ^ 511 * 2 ^ 511)) (zero-mul (up e))))))
sum_over (fin false (suc m) e) k h f p n l = root_over m e k f h (below-value (round binary64 false (2 ^ k * 2 ^ k) (2 ^ 511 * 2 ^ 511)) (suc m) e (2 ^ k * 2 ^ k) (2 ^ 511 * 2 ^ 511) (lit< tt) (square_is k h) l)

-- x, S its square and more, n the root of S
pub part_within : (x S n : Float) → Within (2 ^ 37) x → T (fits binary64 S) → T (finite S) → NonNeg S → T (le (mul binary64 x x) S) → n ≡ sqrt_of S
    → lt shortest n ≡ true → T (finite n) → Within 2 (mul binary64 x (div binary64 one n))
part_within nan S n w f p q l r t g = absurd w
part_within (inf s) S n w f p q l r t g = absurd w
part_within (fin s m e) S n w f p q l r t g = product_within (fin s m e) (div binary64 one n) at.k at.twice (recip_under n at.k short over)
  where
    at : Near (m * up e) (down e) 547
    at = near (m * up e) (down e) 547 (le_trans (mul-le-mul_right (2 ^ 511) w) (le_of_eq (mul_right_comm (2 ^ 37) (down e) (2 ^ 511))))

    short : at.k ≤ 600
    short = let z = at.most in omega arith

    over : Over at.k n
    over = go at.once
      where
        go : (at.k ≡ 0) ⊎ (2 ^ at.k * down e ≤ m * up e * 2 ^ 511) → Over at.k n
        go (inl z) = subst (λ (k : ℕ). Over k n) (sym z) (least_over n t g)
        go (inr z) =
            subst (Over at.k) (sym r)
            (sum_over S at.k short f p q
            (le_trans_float (round binary64 false (2 ^ at.k * 2 ^ at.k) (2 ^ 511 * 2 ^ 511)) (mul binary64 (fin s m e) (fin s m e)) S
            (subst (λ (y : Float). T (le (round binary64 false (2 ^ at.k * 2 ^ at.k) (2 ^ 511 * 2 ^ 511)) y)) (sym (square_at s m e))
            (round_mono binary64 (2 ^ at.k * 2 ^ at.k) (2 ^ 511 * 2 ^ 511) (m * up e * (m * up e)) (down e * down e) (lit< tt) (mul-pos (down_pos e) (down_pos e))
            (le_trans (le_of_eq (mul-mul-mul_comm (2 ^ at.k) (2 ^ at.k) (down e) (down e))) (le_trans (mul-le-mul z z) (le_of_eq (mul-mul-mul_comm (m * up e) (2 ^ 511) (m * up e) (2 ^ 511)))))))
            l))

-- Facts of reals by their values, which the laws of rounding, roots, angles and sizes share.
use Rattle.std.proofs.Common.{◌≡◌, ℕ, zero, suc, ◌+◌, ◌-◌, ◌*◌, ◌/◌, ◌%◌, ◌^◌, ◌<◌, ◌≤◌, min, Bool, true, false, cond, not, ◌&&◌, T, eqb, ltb, leb, ℤ, pos, negsuc, sym, refl, ap, ◌∙◌, subst, true≢false, le_trans, le_of_eq, lt_of_lt_of_le, lt_of_le_of_lt, lt_irrefl, zero-lt-suc, mul_assoc, mul_comm, lt_of_mul-lt-mul_right, mul-lt-mul_of_pos_right, mul-pos, one-mul, lt_of_not-le, zero-mul, mul-one, sub-add_cancel, mul_right_comm, not-le_of_lt, le-mul_of_pos_right, mul_left_comm, arith, eqb→eq, ltb→lt, lt→ltb, leb→le, pow_pos, pow-add, ltb-false, ltb-true}
use native.Mathlib.Nat.{eq_of_mul-eq-mul_right, pow-succ'}
use native.Mathlib.Decide.{dec_le}
use mathlib.Core.Bool.{false≢true}
use lib.Pow.{pow-lt}
use lib.Ieee.{Float, nan, inf, fin, Format, binary64, prec, emax, low, up, down, round, neg, lt, fits, of_bits, div, to_unsigned, units, odd}
use lib.Ieee.Fits.{up_pos, down_pos, and_l, and_r, round-fits}
use lib.Ieee.Exact.{HasValue, round_exact}
use lib.Ieee.Nearest.{div_same}
use lib.Ieee.Back.{whole_unique}
use lib.Ieee.Order.{transfer}
use lib.Ieee.Positive.{num, den}

-- ---- zero, as a value and as the code writes it
abbrev pub Zero : Float
Zero = fin false 0 (pos 0)

abbrev pub Nought : Float
Nought = of_bits binary64 0

-- 0 / 0 is the NaN that the code writes, and 1 / 0 its plus infinity
pub nought_by_nought : div binary64 Nought Nought ≡ of_bits binary64 0x7ff8_0000_0000_0000
unfolding of_bits div
nought_by_nought = refl

pub one_by_nought : div binary64 (of_bits binary64 0x3ff0_0000_0000_0000) Nought ≡ of_bits binary64 0x7ff0_0000_0000_0000
unfolding of_bits div
one_by_nought = refl

-- ---- what `fits` says of a finite value: few digits, and no exponent below the least
pow_le_back : (a b : ℕ) → 2 ^ a ≤ 2 ^ b → a ≤ b
pow_le_back a b h = go (dec_le a b)
  where
    go : Dec (a ≤ b) → a ≤ b
    go (yes k) = k
    go (no f) = absurd (not-le_of_lt (pow-lt (lt_of_not-le f)) h)

pub fits-digits : (f : Format) (s : Bool) (m : ℕ) (e : ℤ) → T (fits f (fin s m e)) → (m < 2 ^ prec f) × (down e ≤ 2 ^ low f)
unfolding fits
fits-digits f s zero e t = (
  pow_pos (prec f),
  le_trans (le-mul_of_pos_right (down e) (up_pos e)) (le_trans (le_of_eq (mul_comm (down e) (up e) ∙ eqb→eq (up e * down e) 1 t)) (pow_pos (low f))),
)
fits-digits f s (suc m) e t =
    let a = and_l (eqb (suc m % 2) 1 && ltb (suc m) (2 ^ prec f) && leb (down e) (2 ^ low f)) (ltb (suc m * up e) (2 ^ suc (emax f) * down e)) t in
    let b = and_l (eqb (suc m % 2) 1 && ltb (suc m) (2 ^ prec f)) (leb (down e) (2 ^ low f)) a in (
      ltb→lt (suc m) (2 ^ prec f) (and_r (eqb (suc m % 2) 1) (ltb (suc m) (2 ^ prec f)) b),
      leb→le (down e) (2 ^ low f) (and_r (eqb (suc m % 2) 1 && ltb (suc m) (2 ^ prec f)) (leb (down e) (2 ^ low f)) a),
    )

-- 2 ^ e in units of the format's smallest value is 2 ^ j
pub place : (l : ℕ) (e : ℤ) → down e ≤ 2 ^ l → (j : ℕ) × (up e * 2 ^ l ≡ 2 ^ j * down e)
place l (pos k) h = (k + l, sym (pow-add 2 k l) ∙ sym (mul-one (2 ^ (k + l))))
place l (negsuc k) h = (l - suc k, one-mul (2 ^ l) ∙ sym (sym (pow-add 2 (l - suc k) (suc k)) ∙ ap (λ (x : ℕ). 2 ^ x) (sub-add_cancel (pow_le_back (suc k) l h))))

-- ---- `round` is exact at m * 2 ^ e * 2 ^ t, for m and e of a value that fits
pub exact : (f : Format) (s : Bool) (m : ℕ) (e : ℤ) (t num den : ℕ) → m < 2 ^ prec f → down e ≤ 2 ^ low f → 0 < den
    → num * down e ≡ m * up e * 2 ^ t * den → num < 2 ^ suc (emax f) * den → HasValue (round f s num den) s num den
exact f s m e t num den M E D h fine =
    let l = 2 ^ low f in
    let j = place (low f) e E in
    let q = m * 2 ^ (j.0 + t) in
    let eq : num * l ≡ q * den =
    eq_of_mul-eq-mul_right (down e) (down_pos e) (num * l) (q * den)
    (mul_right_comm num l (down e)
    ∙ ap (λ (x : ℕ). x * l) h
    ∙ simp (mul_assoc, mul_comm, mul_left_comm, pow-add) (simp (mul_assoc, mul_comm, mul_left_comm) at (ap (λ (x : ℕ). x * (m * 2 ^ t * den)) j.1))) in
    round_exact f s num den m (j.0 + t) D M
    (lt_of_mul-lt-mul_right den
    (lt_of_le_of_lt (le_of_eq (sym eq))
    (lt_of_lt_of_le (mul-lt-mul_of_pos_right fine (pow_pos (low f)))
    (le_of_eq (simp (pow-add, mul_assoc, mul_comm, mul_left_comm))))))
    eq

-- ---- a float that is a / c, cut to an unsigned integer, and in range of the cut
pub cut-value : (x : Float) (a c : ℕ) → 0 < c → HasValue x false a c → to_unsigned 64 x ≡ min (a / c) (2 ^ 64 - 1)
unfolding to_unsigned
cut-value nan a c C v = absurd v
cut-value (inf s) a c C v = absurd v
cut-value (fin true m e) a c C v = absurd (true≢false v.0)
cut-value (fin false m e) a c C v = ap (λ (z : ℕ). min z (2 ^ 64 - 1)) (div_same (m * up e) (down e) a c (down_pos e) C v.1)

pub in_range : (x : Float) (a c : ℕ) → 0 < c → HasValue x false a c → a < 2 ^ 64 * c → T (lt (fin true 1 (pos 0)) x) × T (lt x (fin false 1 (pos 64)))
unfolding lt
in_range nan a c C v h = absurd v
in_range (inf s) a c C v h = absurd v
in_range (fin true m e) a c C v h = absurd (true≢false v.0)
in_range (fin false m e) a c C v h = (
  lt→ltb 0 (1 * down e + m * up e * 1) (omega (arith, down_pos e)),
  lt→ltb (m * up e * 1) (2 ^ 64 * down e)
      (lt_of_mul-lt-mul_right c
      (lt_of_le_of_lt (le_of_eq (ap (λ (z : ℕ). z * c) (mul-one (m * up e)) ∙ v.1))
      (lt_of_lt_of_le (mul-lt-mul_of_pos_right h (down_pos e)) (le_of_eq (mul_right_comm (2 ^ 64) c (down e)))))),
)

-- ---- comparisons by values
pub lt-true : (x y : Float) (a c b d : ℕ) → 0 < c → 0 < d → HasValue x false a c → HasValue y false b d → lt x y ≡ true → a * d < b * c
unfolding lt
lt-true nan y a c b d C D v w t = absurd v
lt-true (inf s) y a c b d C D v w t = absurd v
lt-true (fin true m e) y a c b d C D v w t = absurd (true≢false v.0)
lt-true (fin false m e) nan a c b d C D v w t = absurd w
lt-true (fin false m e) (inf s) a c b d C D v w t = absurd w
lt-true (fin false m e) (fin true n g) a c b d C D v w t = absurd (true≢false w.0)
lt-true (fin false m e) (fin false n g) a c b d C D v w t = go (dec_le (b * c) (a * d))
  where
    go : Dec (b * c ≤ a * d) → a * d < b * c
    go (yes h) = absurd (not-le_of_lt (ltb-true (m * up e * down g) (n * up g * down e) t) (transfer (n * up g) (m * up e) (down g) (down e) b a d c D C w.1 v.1 h))
    go (no h) = lt_of_not-le h

pub lt-false : (x y : Float) (a c b d : ℕ) → HasValue x false a c → HasValue y false b d → lt x y ≡ false → b * c ≤ a * d
unfolding lt
lt-false nan y a c b d v w t = absurd v
lt-false (inf s) y a c b d v w t = absurd v
lt-false (fin true m e) y a c b d v w t = absurd (true≢false v.0)
lt-false (fin false m e) nan a c b d v w t = absurd w
lt-false (fin false m e) (inf s) a c b d v w t = absurd w
lt-false (fin false m e) (fin true n g) a c b d v w t = absurd (true≢false w.0)
lt-false (fin false m e) (fin false n g) a c b d v w t =
    transfer b a d c (n * up g) (m * up e) (down g) (down e) (down_pos g) (down_pos e) (sym w.1) (sym v.1) (ltb-false (m * up e * down g) (n * up g * down e) t)

-- ---- a value that fits is below 2 ^ 1024, and a whole one is its own rounding
pub fits_under : (f : Format) (s : Bool) (m : ℕ) (e : ℤ) → T (fits f (fin s m e)) → m * up e < 2 ^ suc (emax f) * down e
unfolding fits
fits_under f s zero e t = lt_of_le_of_lt (le_of_eq (zero-mul (up e))) (mul-pos (pow_pos (suc (emax f))) (down_pos e))
fits_under f s (suc m) e t =
    ltb→lt (suc m * up e) (2 ^ suc (emax f) * down e) (and_r (eqb (suc m % 2) 1 && ltb (suc m) (2 ^ prec f) && leb (down e) (2 ^ low f)) (ltb (suc m * up e) (2 ^ suc (emax f) * down e)) t)

pub whole_back : (s : Bool) (m k : ℕ) → T (fits binary64 (fin s m (pos k))) → round binary64 s (m * 2 ^ k) 1 ≡ fin s m (pos k)
whole_back s m k t =
    let g = fits-digits binary64 s m (pos k) t in
    whole_unique binary64 (round binary64 s (m * 2 ^ k) 1) (fin s m (pos k)) s (m * 2 ^ k) (round-fits binary64 s (m * 2 ^ k) 1) t
    (exact binary64 s m (pos k) 0 (m * 2 ^ k) 1 g.0 g.1 (zero-lt-suc 0) (simp mul-one) (fits_under binary64 s m (pos k) t))
    (refl, refl)

-- ---- signs
odd_neg : (d : ℕ) (s : Bool) (q k l : ℕ) → neg (odd d (not s) q k l) ≡ odd d s q k l
unfolding odd neg
odd_neg d true zero k l = refl
odd_neg d false zero k l = refl
odd_neg d true (suc q) k l = refl
odd_neg d false (suc q) k l = refl

cond-neg : (b : Bool) (x y : Float) (x' y' : Float) → neg x ≡ x' → neg y ≡ y' → neg (cond b x y) ≡ cond b x' y'
cond-neg true x y x' y' p q = p
cond-neg false x y x' y' p q = q

pub inf_neg : (s : Bool) → neg (inf (not s)) ≡ inf s
unfolding neg
inf_neg true = refl
inf_neg false = refl

units-neg : (f : Format) (s : Bool) (q k : ℕ) → neg (units f (not s) q k) ≡ units f s q k
unfolding units
units-neg f s q k = cond-neg (ltb (q * 2 ^ k) (2 ^ (low f + suc (emax f)))) (odd (suc (prec f)) (not s) q k (low f)) (inf (not s)) (odd (suc (prec f)) s q k (low f)) (inf s) (odd_neg (suc (prec f)) s q k (low f)) (inf_neg s)

pub round-neg : (f : Format) (s : Bool) (a b : ℕ) → neg (round f (not s) a b) ≡ round f s a b
unfolding round
round-neg f s a b = units-neg f s _ _

-- ---- the tests against 0.0
pub above : (x : Float) → lt Nought x ≡ true → T (lt Zero x)
unfolding of_bits
above x t = subst T (sym t) tt

pub neg-above : (x : Float) → lt x Nought ≡ true → T (lt Zero (neg x))
unfolding lt of_bits neg
neg-above nan t = absurd (false≢true t)
neg-above (inf true) t = tt
neg-above (inf false) t = absurd (false≢true t)
neg-above (fin true m e) t = let h : 0 < m * up e * 1 + 0 * down e = ltb-true 0 (m * up e * 1 + 0 * down e) t in lt→ltb (0 * down e) (m * up e * 1) (omega arith)
neg-above (fin false m e) t = let h : m * up e * 1 < 0 * down e = ltb-true (m * up e * 1) (0 * down e) t in absurd (no h)
  where
    no : m * up e * 1 < 0 * down e → ⊥
    no h = omega arith

-- a zero that fits has the exponent 0
pub flat : (e : ℤ) → up e * down e ≡ 1 → e ≡ pos 0
flat (pos zero) h = refl
flat (pos (suc k)) h = absurd (two_up (2 ^ k) (pow_pos k) (sym (pow-succ' 2 k) ∙ sym (mul-one (2 ^ suc k)) ∙ h))
  where
    two_up : (p : ℕ) → 0 < p → 2 * p ≡ 1 → ⊥
    two_up p h e = omega arith
flat (negsuc k) h = absurd (two_up (2 ^ k) (pow_pos k) (sym (pow-succ' 2 k) ∙ sym (one-mul (2 ^ suc k)) ∙ h))
  where
    two_up : (p : ℕ) → 0 < p → 2 * p ≡ 1 → ⊥
    two_up p h e = omega arith

-- a value with digits is not zero
pub not_zero : (m : ℕ) (e : ℤ) → suc m * up e ≤ 0 → ⊥
not_zero m e h = lt_irrefl 0 (lt_of_lt_of_le (mul-pos (zero-lt-suc m) (up_pos e)) h)

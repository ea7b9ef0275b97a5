-- How far one rounded operation is off: the one absolute error law, and what it says of sums, differences, products and quotients, in units of the least real. An exact value is a pair, p over and q under zero. Assumes nothing.
use Rattle.std.proofs.Common.{◌≡◌, ℕ, zero, suc, ◌+◌, ◌-◌, ◌*◌, ◌/◌, ◌%◌, ◌^◌, ◌<◌, ◌≤◌, Bool, true, false, not, T, ℤ, ◌-ℤ◌, nat_abs, sym, ap, ◌∙◌, subst, le_trans, le_of_eq, le_refl, lt_of_lt_of_le, le_of_lt, mul-le-mul_right, mod-lt, mul_comm, div-lt_iff_lt-mul, mul-lt-mul_of_pos_right, mul-pos, pow-suc, div-add-mod', mul_right_comm, le_of_mul-le-mul_right, arith, eqb→eq, leb→le, pow_pos, pow_mono, pow-add}
use Prim.Native.Nat.{compare, Ordering}
use lib.Dec.{is_le, compare_is_eq, nleb→lt}
use lib.Ieee.{Float, nan, inf, fin, binary64, up, down, size, nearest, round, fits}
use lib.Ieee.Digits.{size-le}
use lib.Ieee.Fits.{down_pos, round_is}
use lib.Ieee.Exact.{HasValue, units_val}
use lib.Ieee.Nearest.{closest}
use lib.Ieee.Order.{drop, kept}
use lib.Ieee.Scale.{grid, finite, round_under}
use Rattle.numbers.specs.Round.{round_away, floor_of}
use Rattle.numbers.specs.Rounded.{◌⊕◌, ◌⊖◌, ◌⊗◌, ◌⊘◌}
use Rattle.numbers.specs.Units.{scale, units, RoundingError, SumError}
use Rattle.numbers.specs.WholeNumbers.{Nearest, Whole, downward}
use Rattle.numbers.proofs.Integers.{Difference, difference_add, difference_sub, difference_most, most_difference}
use Rattle.numbers.proofs.Magnitude.{held_pow, round_within, within_finite}
use Rattle.numbers.proofs.Monotone.{Positive}
use Rattle.numbers.proofs.Signed.{keep, turn, Rounded, above, under}
use Rattle.numbers.proofs.Units.{Counts, value-counts, real-counts, counts-units, add-counts, sub-counts, mul-counts, div-counts}
use Rattle.numbers.proofs.rounding.Meaning.{round-nearest, floor_means}

-- ---- a is at most K / 2 over b, and at most L / 2 under it
pub record Off (a b K L : ℕ) : Type 0 where
  pub over : 2 * a ≤ 2 * b + K
  pub under : 2 * b ≤ 2 * a + L

off_turned : (a b K L : ℕ) → Off a b K L → Off b a L K
off_turned a b K L h = record { over = h.under; under = h.over }

-- the same, all taken u times
pub off_less : (a b K L u : ℕ) → 0 < u → Off (a * u) (b * u) (K * u) (L * u) → Off a b K L
off_less a b K L u U h = record { over = less (2 * a) (2 * b + K) (omega (arith, h.over)); under = less (2 * b) (2 * a + L) (omega (arith, h.under)) }
  where
    less : (x y : ℕ) → x * u ≤ y * u → x ≤ y
    less x y l = le_of_mul-le-mul_right {m = x} {n = y} {k = u} l U

-- ---- the nearest whole number to a / b, times b, is at most b / 2 from a
nearest_off : (q r b : ℕ) (o : Ordering) → r < b → (T (is_le o) → r * 2 ≤ b) → (T (not (is_le o)) → b < r * 2) → (T (compare_is_eq o) → r * 2 ≡ b) → Off (nearest q o * b) (q * b + r) b b
nearest_off q r b Ordering.lt R l g e = let h = l tt in record { over = omega arith; under = omega arith }
nearest_off q r b Ordering.gt R l g e = let h = g tt in record { over = omega arith; under = omega arith }
nearest_off q r b Ordering.eq R l g e = tie (q % 2) (omega arith) (e tt)
  where
    tie : (t : ℕ) → t ≤ 1 → r * 2 ≡ b → Off ((q + t) * b) (q * b + r) b b
    tie zero h k = record { over = omega arith; under = omega arith }
    tie (suc zero) h k = record { over = omega arith; under = omega arith }
    tie (suc (suc t)) h k = absurd (omega arith)

closest_off : (a b : ℕ) → 0 < b → Off (closest a b * b) a b b
closest_off a b B =
    subst (λ (z : ℕ). Off (closest a b * b) z b b) (div-add-mod' a b)
    (nearest_off (a / b) (a % b) b (compare (a % b * 2) b) (mod-lt a B) (leb→le (a % b * 2) b) (nleb→lt (a % b * 2) b) (eqb→eq (a % b * 2) b))

-- ---- a / c below 2 ^ k, rounded once: at most 2 ^ (k - 53) / 2 off, which is half of 2 ^ (k + 1021) units
module _ (k a c : ℕ) (K : k < 1024) (C : 0 < c) (small : a < 2 ^ k * c) where
  abbrev error : ℕ
  error = 2 ^ (k + 1021)

  -- how many digits are dropped
  few : drop 53 (a * scale) c ≤ k + 1021
  few = room (size (a * scale / c)) (size-le (a * scale / c) (k + 1074) ((div-lt_iff_lt-mul C).1 below))
    where
      below : a * scale < 2 ^ (k + 1074) * c
      below =
          lt_of_lt_of_le (mul-lt-mul_of_pos_right small (pow_pos 1074))
          (le_of_eq (mul_right_comm (2 ^ k) c scale ∙ ap (λ (z : ℕ). z * c) (sym (pow-add 2 k 1074))))

      room : (z : ℕ) → z ≤ k + 1074 → z - 53 ≤ k + 1021
      room z h = omega arith

  grid_off : Off (grid binary64 a c * c) (a * scale) (error * c) (error * c)
  grid_off =
      let d = drop 53 (a * scale) c in
      let p = 2 ^ d in
      let n = closest (a * scale) (c * p) in
      let most : c * p ≤ error * c = le_trans (le_of_eq (mul_comm c p)) (mul-le-mul_right c (pow_mono few)) in
      let h : Off (n * (c * p)) (a * scale) (c * p) (c * p) = closest_off (a * scale) (c * p) (mul-pos C (pow_pos d)) in
      more (n * (c * p)) (n * p * c) (a * scale) (c * p) (error * c) (turned n c p) most h
    where
      turned : (n c p : ℕ) → n * (c * p) ≡ n * p * c
      turned n c p = omega arith

      more : (a b d K L : ℕ) → a ≡ b → K ≤ L → Off a d K K → Off b d L L
      more a b d K L e l h = record { over = omega (arith, h.over); under = omega (arith, h.under) }

  round-value : (s : Bool) → HasValue (round binary64 s a c) s (grid binary64 a c) scale
  round-value s =
      subst (λ (z : Float). HasValue z s (grid binary64 a c) scale) (sym (round_is binary64 s a c))
      (units_val binary64 s (kept 53 (a * scale) c) (drop 53 (a * scale) c) (round_under binary64 a c finite_so))
    where
      finite_so : T (finite (round binary64 false a c))
      finite_so = within_finite (2 ^ k) (round binary64 false a c) (round_within (2 ^ k) false a c (held_pow k K) C (le_of_lt small))

-- ---- the absolute error law of one rounding
pub round_error : RoundingError
round_error k s a c K C small =
    let h = subst (λ (z : ℕ). Off (grid binary64 a c * c) (a * scale) (z * c) (z * c)) (twice k) (grid_off k a c K C small) in
    record {
      n = grid binary64 a c;
      exact = round-value k a c K C small s;
      over = halved _ _ (2 ^ (k + 1020)) c h.over;
      under = halved _ _ (2 ^ (k + 1020)) c h.under;
    }
  where
    twice : (k : ℕ) → 2 ^ (k + 1021) ≡ 2 * 2 ^ (k + 1020)
    twice k =
        let e : k + 1021 ≡ suc (k + 1020) = omega arith in
        ap (λ (z : ℕ). 2 ^ z) e ∙ pow-suc 2 (k + 1020) ∙ mul_comm (2 ^ (k + 1020)) 2

    halved : (x y e c : ℕ) → 2 * x ≤ 2 * y + 2 * e * c → x ≤ y + e * c
    halved x y e c h = omega arith

-- ---- x is a whole number of units, high - low, and at most E / 2 units from (p - q) / c units
pub record Approximates (x : Float) (p q c E : ℕ) : Type 0 where
  pub high : ℕ
  pub low : ℕ
  pub counts : Counts scale x high low
  pub off : Off (high * c + q) (low * c + p) (E * c) (E * c)

-- (p - q) / c is below 2 ^ k in size
pub record Close (k p q c : ℕ) : Type 0 where
  pub over : p < q + 2 ^ k * c
  pub under : q < p + 2 ^ k * c

small_of : (p q a b : ℕ) → p ≡ q + a → p < q + b → a < b
small_of p q a b e h = omega arith

side : (n a p q c u E : ℕ) → p ≡ q + a → n * c ≤ a * u + E * c → a * u ≤ n * c + E * c → Off (n * c + q * u) (0 * c + p * u) (2 * E * c) (2 * E * c)
side n a p q c u E e l m = let i = ap (λ (z : ℕ). z * u) e in record { over = omega arith; under = omega arith }

-- the law for (p - q) / c, of either sign
module _ (k : ℕ) (K : k < 1024) where
  abbrev E : ℕ
  E = 2 ^ (k + 1020)

  rounding_error : (x : Float) (p q c : ℕ) → 0 < c → Rounded binary64 x p q c → Close k p q c → Approximates x (p * scale) (q * scale) c (2 * E)
  rounding_error x p q c C (above a e h) l =
      let r = round_error k false a c K C (small_of p q a (2 ^ k * c) e l.over) in
      let value = value-counts scale (round binary64 false a c) false r.n r.exact in
      record {
        high = r.n;
        low = 0;
        counts = subst (λ (z : Float). Counts scale z r.n 0) (sym h) value;
        off = side r.n a p q c scale E e r.over r.under;
      }
  rounding_error x p q c C (under a e h) l =
      let r = round_error k true a c K C (small_of q p a (2 ^ k * c) e l.under) in
      let value = value-counts scale (round binary64 true a c) true r.n r.exact in
      record {
        high = 0;
        low = r.n;
        counts = subst (λ (z : Float). Counts scale z 0 r.n) (sym h) value;
        off = off_turned (r.n * c + p * scale) (0 * c + q * scale) (2 * E * c) (2 * E * c) (side r.n a q p c scale E e r.over r.under);
      }

  -- the same of p - q units
  units_error : (x : Float) (p q : ℕ) → Rounded binary64 x p q scale → Close k p q scale → Approximates x p q 1 (2 * E)
  units_error x p q r l =
      let h = rounding_error x p q scale (pow_pos 1074) r l in
      record {
        high = h.high;
        low = h.low;
        counts = h.counts;
        off = off_less (h.high * 1 + q) (h.low * 1 + p) (2 * E * 1) (2 * E * 1) scale (pow_pos 1074) (joined h.high h.low scale (2 * E) h.off);
      }
    where
      joined : (a b u e : ℕ) → Off (a * u + q * u) (b * u + p * u) (e * u) (e * u) → Off ((a * 1 + q) * u) ((b * 1 + p) * u) (e * 1 * u) (e * 1 * u)
      joined a b u e h = record { over = omega (arith, h.over); under = omega (arith, h.under) }

-- ---- the operations, by the counts of their operands
module _ (k : ℕ) (K : k < 1024) {x y : Float} {p q p' q' : ℕ} (h : Counts scale x p q) where
  module _ (i : Counts scale y p' q') where
    sum_error : Close k (p + p') (q + q') scale → Approximates (x ⊕ y) (p + p') (q + q') 1 (2 * 2 ^ (k + 1020))
    sum_error = units_error k K (x ⊕ y) (p + p') (q + q') (add-counts h i)

    pub difference_error : Close k (p + q') (q + p') scale → Approximates (x ⊖ y) (p + q') (q + p') 1 (2 * 2 ^ (k + 1020))
    difference_error = units_error k K (x ⊖ y) (p + q') (q + p') (sub-counts h i)

    -- by a real above zero
    pub quotient_error : Positive y → 0 < p' → Close k p q p' → Approximates (x ⊘ y) (p * scale) (q * scale) p' (2 * 2 ^ (k + 1020))
    quotient_error P many = rounding_error k K (x ⊘ y) p q p' many (div-counts h i P many)

  -- times a whole number
  module _ (i : Counts 1 y p' q') where
    pub product_error : Close k (p * p' + q * q') (p * q' + q * p') scale → Approximates (x ⊗ y) (p * p' + q * q') (p * q' + q * p') 1 (2 * 2 ^ (k + 1020))
    product_error = units_error k K (x ⊗ y) (p * p' + q * q') (p * q' + q * p') (mul-counts h i)

-- ---- r is a whole number, high - low, at most K / 2 units over p - q units and at most L / 2 under
pub record WholeNear (r : Float) (p q K L : ℕ) : Type 0 where
  pub high : ℕ
  pub low : ℕ
  pub counts : Counts 1 r high low
  pub off : Off (high * scale + q) (low * scale + p) K L

module _ {P : ℕ → ℕ → ℕ → Type 0} (s : Bool) (m : ℕ) (e : ℤ) (r : Float) (p q K L : ℕ) (w : Whole P s m e r) where
  abbrev n : ℕ
  n = w.n

  whole_near : Off ((keep s n * scale + q) * down e) ((turn s n * scale + p) * down e) (K * down e) (L * down e) → WholeNear r p q K L
  whole_near h = record {
    high = keep s n;
    low = turn s n;
    counts = value-counts 1 r s n w.exact;
    off = off_less (keep s n * scale + q) (turn s n * scale + p) K L (down e) (down_pos e) h;
  }

-- to the nearest whole number: at most a half over or under
pub round-near : (x : Float) (p q : ℕ) → T (fits binary64 x) → Counts scale x p q → WholeNear (round_away x) p q scale scale
round-near nan p q f c = absurd c.sound
round-near (inf s) p q f c = absurd c.sound
round-near (fin s m e) p q f c =
    let w = round-nearest s m e f in
    whole_near s m e (round_away (fin s m e)) p q scale scale w (part s (m * up e) (down e) w.n scale w.is c.over c.under)
  where
    part : (s : Bool) (a d n u : ℕ) → Nearest a d n → keep s a * u ≡ p * d → turn s a * u ≡ q * d → Off ((keep s n * u + q) * d) ((turn s n * u + p) * d) (u * d) (u * d)
    part false a d n u h i j =
        let l = mul-le-mul_right u h.low in
        let g = mul-le-mul_right u (le_of_lt h.high) in
        record { over = omega arith; under = omega arith }
    part true a d n u h i j =
        let l = mul-le-mul_right u h.low in
        let g = mul-le-mul_right u (le_of_lt h.high) in
        record { over = omega arith; under = omega arith }

-- down to a whole number: not over, and at most 1 under
pub floor-near : (x : Float) (p q : ℕ) → T (fits binary64 x) → Counts scale x p q → WholeNear (floor_of x) p q 0 (2 * scale)
floor-near nan p q f c = absurd c.sound
floor-near (inf s) p q f c = absurd c.sound
floor-near (fin s m e) p q f c =
    let w = floor_means s m e f in
    whole_near s m e (floor_of (fin s m e)) p q 0 (2 * scale) w (part s (m * up e) (down e) w.n scale w.is c.over c.under)
  where
    part : (s : Bool) (a d n u : ℕ) → downward s a d n → keep s a * u ≡ p * d → turn s a * u ≡ q * d → Off ((keep s n * u + q) * d) ((turn s n * u + p) * d) (0 * d) (2 * u * d)
    part false a d n u h i j =
        let l = mul-le-mul_right u h.low in
        let g = mul-le-mul_right u (le_of_lt h.high) in
        record { over = omega arith; under = omega arith }
    part true a d n u h i j =
        let l = mul-le-mul_right u (le_of_lt h.low) in
        let g = mul-le-mul_right u h.high in
        record { over = omega arith; under = omega arith }

-- ---- sums and differences, in integers
close_of : (k c : ℕ) {p q : ℕ} {z : ℤ} → Difference p q z → nat_abs z < 2 ^ k * c → Close k p q c
close_of k c {p} {q} {z} d few =
    let s = most_difference (nat_abs z) d (le_refl (nat_abs z)) in
    record { over = omega arith; under = omega arith }

-- what approximates p - q units, which z is
in_units : (x : Float) (p q E : ℕ) (z : ℤ) → Difference p q z → Approximates x p q 1 (2 * E) → T (finite x) × (nat_abs (units x -ℤ z) ≤ E)
in_units x p q E z d a =
    let w = difference_sub (counts-units x a.high a.low a.counts) d in
    (a.counts.sound, difference_most E w (halved a.high a.low p q a.off.over) (halved a.low a.high q p a.off.under))
  where
    halved : (h l p q : ℕ) → 2 * (h * 1 + q) ≤ 2 * (l * 1 + p) + 2 * E * 1 → h + q ≤ l + p + E
    halved h l p q m = omega arith

pub add_error : SumError
add_error k x y K h i =
    let a = real-counts x h in
    let b = real-counts y i in
    let d = counts-units x a.high a.low a.counts in
    let g = counts-units y b.high b.low b.counts in
    let s = difference_add d g in
    let t = difference_sub d g in
    let E = 2 ^ (k + 1020) in (
      λ few. in_units (x ⊕ y) (a.high + b.high) (a.low + b.low) E _ s (sum_error k K a.counts b.counts (close_of k scale s few)),
      λ few. in_units (x ⊖ y) (a.high + b.low) (a.low + b.high) E _ t (difference_error k K a.counts b.counts (close_of k scale t few)),
    )

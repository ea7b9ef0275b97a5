-- Bounds by a fraction b / c, from above and from below: rounding does not pass one that is a value of the format.
use Rattle.std.proofs.Common.{◌≡◌, ℕ, zero, suc, ◌+◌, ◌*◌, ◌^◌, ◌<◌, ◌≤◌, Bool, true, false, cond, T, eqb, ◌⊎◌, ℤ, sym, ap, ◌∙◌, subst, inl, inr, true≢false, le_trans, le_of_eq, mul-le-mul_right, zero-lt-suc, mul_assoc, mul_comm, mul-le-mul_left, mul-pos, zero-mul, mul-one, mul_right_comm, not-le_of_lt, le_of_mul-le-mul_right, mul_left_comm, arith, lit≤}
use lib.Dec.{eqb-suc-zero}
use lib.Ieee.{Float, nan, inf, fin, binary64, up, down, round, neg, div, le, unlike, of_bits, of_int}
use lib.Ieee.Fits.{up_pos, down_pos}
use lib.Ieee.Exact.{HasValue}
use lib.Ieee.Back.{round_whole}
use lib.Ieee.Order.{round_mono, kept, drop}
use Rattle.numbers.specs.Constants.{TAU}
use Rattle.numbers.specs.Rounded.{◌⊘◌, count}
use Rattle.numbers.specs.Within.{Within, Held}
use Rattle.numbers.proofs.Reals.{round-neg}
use Rattle.numbers.proofs.Signed.{le→cross, top_le}
use Rattle.numbers.proofs.Magnitude.{units_shape, round_within, neg_within}

-- x is finite, and at most b / c in size
abbrev pub Under : ℕ → ℕ → Float → Type 0
Under b c nan = ⊥
Under b c (inf s) = ⊥
Under b c (fin s m e) = m * up e * c ≤ b * down e

-- x is finite, and at least b / c in size
abbrev pub AtLeast : ℕ → ℕ → Float → Type 0
AtLeast b c nan = ⊥
AtLeast b c (inf s) = ⊥
AtLeast b c (fin s m e) = b * down e ≤ m * up e * c

-- ---- rounding does not pass b / c, where that is a value of the format

-- a / d is at most y, where y is n / g and also b / c
crossed : (a d n g b c : ℕ) → 0 < g → a * g ≤ n * d → n * c ≡ b * g → a * c ≤ b * d
crossed a d n g b c G l e =
    le_of_mul-le-mul_right {m = a * c} {n = b * d} {k = g}
    (le_trans (le_of_eq (mul_right_comm a c g)) (le_trans (mul-le-mul_right c l) (le_of_eq (mul_right_comm n d c ∙ ap (λ (z : ℕ). z * d) e ∙ mul_right_comm b g d)))) G

below-under : (b c : ℕ) (m : ℕ) (e : ℤ) (y : Float) → HasValue y false b c → T (le (fin false m e) y) → Under b c (fin false m e)
below-under b c m e nan v t = absurd v
below-under b c m e (inf s) v t = absurd v
below-under b c m e (fin true n g) v t = absurd (true≢false v.0)
below-under b c m e (fin false n g) v t =
    let k : m * up e * down g + 0 * down e ≤ n * up g * down e + 0 * down g = (le→cross (fin false m e) (fin false n g) tt tt t).holds in
    crossed (m * up e) (down e) (n * up g) (down g) b c (down_pos g) (omega arith) v.1

positive_under : (a d b c : ℕ) → 0 < d → 0 < c → HasValue (round binary64 false b c) false b c → a * c ≤ b * d → Under b c (round binary64 false a d)
unfolding round
positive_under a d b c D C v h =
    go (units_shape false (kept 53 (a * 2 ^ 1074) d) (drop 53 (a * 2 ^ 1074) d)) (round_mono binary64 a d b c D C h)
  where
    top : (y : Float) → HasValue y false b c → T (le (inf false) y) → ⊥
    top y v t = subst (λ (z : Float). HasValue z false b c) (top_le y t) v

    go : ((m : ℕ) × (e : ℤ) × (round binary64 false a d ≡ fin false m e)) ⊎ (round binary64 false a d ≡ inf false) → T (le (round binary64 false a d) (round binary64 false b c)) → Under b c (round binary64 false a d)
    go (inl w) t = subst (Under b c) (sym w.2) (below-under b c w.0 w.1 (round binary64 false b c) v (subst (λ (x : Float). T (le x (round binary64 false b c))) w.2 t))
    go (inr w) t = absurd (top (round binary64 false b c) v (subst (λ (x : Float). T (le x (round binary64 false b c))) w t))

under-neg : (b c : ℕ) (x : Float) → Under b c x → Under b c (neg x)
unfolding neg
under-neg b c nan u = u
under-neg b c (inf s) u = u
under-neg b c (fin s m e) u = u

pub round_under : (s : Bool) (a d b c : ℕ) → 0 < d → 0 < c → HasValue (round binary64 false b c) false b c → a * c ≤ b * d → Under b c (round binary64 s a d)
round_under false a d b c D C v h = positive_under a d b c D C v h
round_under true a d b c D C v h = subst (Under b c) (round-neg binary64 true a d) (under-neg b c (round binary64 false a d) (positive_under a d b c D C v h))

-- tests `x <= k` and `-k <= x` against k = b / c, which no NaN passes
pub under_tests : (b c : ℕ) (k x : Float) → HasValue k false b c → T (le x k) → T (le (neg k) x) → Under b c x
unfolding neg
under_tests b c nan x v p q = absurd v
under_tests b c (inf s) x v p q = absurd v
under_tests b c (fin true n g) x v p q = absurd (true≢false v.0)
under_tests b c (fin false n g) nan v p q = absurd (unfold le in p)
under_tests b c (fin false n g) (inf true) v p q = absurd (unfold le in q)
under_tests b c (fin false n g) (inf false) v p q = absurd (unfold le in p)
under_tests b c (fin false n g) (fin false m e) v p q = below-under b c m e (fin false n g) v p
under_tests b c (fin false n g) (fin true m e) v p q =
    let k : 0 * down e + m * up e * down g ≤ 0 * down g + n * up g * down e = (le→cross (fin true n g) (fin true m e) tt tt q).holds in
    crossed (m * up e) (down e) (n * up g) (down g) b c (down_pos g) (omega arith) v.1

-- ---- and does not fall below it

-- what is at least y, where y is b / c
pub below-value : (y : Float) (m : ℕ) (e : ℤ) (b c : ℕ) → 0 < c → HasValue y false b c → T (le y (fin false m e)) → b * down e ≤ m * up e * c
below-value nan m e b c C v t = absurd v
below-value (inf s) m e b c C v t = absurd v
below-value (fin true n g) m e b c C v t = absurd (true≢false v.0)
below-value (fin false n g) m e b c C v t =
    let k : n * up g * down e + 0 * down g ≤ m * up e * down g + 0 * down e = (le→cross (fin false n g) (fin false m e) tt tt t).holds in
    let k' : n * up g * down e ≤ m * up e * down g = omega arith in
    le_of_mul-le-mul_right {m = b * down e} {n = m * up e * c} {k = down g}
    (le_trans (le_of_eq (mul_right_comm b (down e) (down g) ∙ ap (λ (z : ℕ). z * down e) (sym v.1) ∙ mul_right_comm (n * up g) c (down e)))
    (le_trans (mul-le-mul_right c k') (le_of_eq (mul_right_comm (m * up e) (down g) c))))
    (down_pos g)

at-least-neg : (b c : ℕ) (x : Float) → AtLeast b c x → AtLeast b c (neg x)
unfolding neg
at-least-neg b c nan h = h
at-least-neg b c (inf s) h = h
at-least-neg b c (fin s m e) h = h

positive_at-least : (a d b c B : ℕ) → 0 < d → 0 < c → HasValue (round binary64 false b c) false b c → b * d ≤ a * c → Within B (round binary64 false a d) → AtLeast b c (round binary64 false a d)
unfolding round
positive_at-least a d b c B D C v h w = go (units_shape false (kept 53 (a * 2 ^ 1074) d) (drop 53 (a * 2 ^ 1074) d)) (round_mono binary64 b c a d C D h) w
  where
    go : ((m : ℕ) × (e : ℤ) × (round binary64 false a d ≡ fin false m e)) ⊎ (round binary64 false a d ≡ inf false) → T (le (round binary64 false b c) (round binary64 false a d)) → Within B (round binary64 false a d) → AtLeast b c (round binary64 false a d)
    go (inl y) t w = subst (AtLeast b c) (sym y.2) (below-value (round binary64 false b c) y.0 y.1 b c C v (subst (λ (x : Float). T (le (round binary64 false b c) x)) y.2 t))
    go (inr y) t w = absurd (subst (Within B) y w)

pub round-at-least : (s : Bool) (a d b c B : ℕ) → 0 < d → 0 < c → HasValue (round binary64 false b c) false b c → b * d ≤ a * c → Within B (round binary64 s a d) → AtLeast b c (round binary64 s a d)
round-at-least false a d b c B D C v h w = positive_at-least a d b c B D C v h w
round-at-least true a d b c B D C v h w =
    subst (AtLeast b c) (round-neg binary64 true a d)
    (at-least-neg b c (round binary64 false a d)
    (positive_at-least a d b c B D C v h (subst (Within B) (round-neg binary64 false a d) (neg_within B (round binary64 true a d) w))))

-- ---- a quotient by what is at least a whole number

pub quotient_within : (B n : ℕ) (x y : Float) → Held B → 0 < n → Within (B * n) x → AtLeast n 1 y → Within B (x ⊘ y)
unfolding div
quotient_within B n nan y h p v w = absurd v
quotient_within B n (inf s) y h p v w = absurd v
quotient_within B n (fin s m e) nan h p v w = absurd w
quotient_within B n (fin s m e) (inf t) h p v w = absurd w
quotient_within B n (fin s m e) (fin t zero d) h p v w = absurd (not-le_of_lt (mul-pos p (down_pos d)) (le_trans w (le_of_eq (ap (λ (z : ℕ). z * 1) (zero-mul (up d))))))
quotient_within B n (fin s m e) (fin t (suc k) d) h p v w =
    subst (λ (b : Bool). Within B (cond b (cond (eqb m 0) nan (inf (unlike s t))) (round binary64 (unlike s t) (m * up e * down d) (suc k * up d * down e)))) (sym (eqb-suc-zero k))
    (round_within B (unlike s t) (m * up e * down d) (suc k * up d * down e) h (mul-pos (mul-pos (zero-lt-suc k) (up_pos d)) (down_pos e))
    (le_trans (mul-le-mul_right (down d) v)
    (le_trans (le_of_eq (turn B n (down e) (down d))) (mul-le-mul_left B (mul-le-mul_right (down e) (le_trans w (le_of_eq (mul-one (suc k * up d)))))))))
  where
    turn : (B n e d : ℕ) → B * n * e * d ≡ B * (n * d * e)
    turn B n e d = simp (mul_assoc, mul_comm, mul_left_comm)

value-at-least : (x : Float) (n : ℕ) → HasValue x false n 1 → AtLeast n 1 x × Within n x
value-at-least nan n v = absurd v
value-at-least (inf s) n v = absurd v
value-at-least (fin s m e) n v = (le_of_eq (sym v.1), le_of_eq (sym (mul-one (m * up e)) ∙ v.1))

module _ (n : ℕ) (few : n ≤ 2 ^ 53) where
  whole_value : HasValue (count n) false n 1
  unfolding of_int
  whole_value = round_whole binary64 false n few

  pub count-at-least : AtLeast n 1 (count n)
  count-at-least = (value-at-least (count n) n whole_value).0

  pub count_within : Within n (count n)
  count_within = (value-at-least (count n) n whole_value).1

-- ---- TAU is at most 7

pub turn_within : Within 7 TAU
unfolding of_bits
turn_within = lit≤ tt

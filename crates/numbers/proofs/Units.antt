-- What `units` says of a real: it is exact, it keeps the order, and it turns a sum that is not rounded into a sum of integers. Assumes nothing.
use Rattle.std.proofs.Common.{◌≡◌, ℕ, zero, suc, ◌+◌, ◌-◌, ◌*◌, ◌/◌, ◌^◌, ◌<◌, ◌≤◌, Bool, true, false, not, T, leb, ℤ, pos, nat_abs, sym, refl, ap, ◌∙◌, subst, le_trans, le_of_eq, lt_of_lt_of_le, lt_of_le_of_lt, lt_irrefl, mul-le-mul_right, zero-lt-suc, mul_assoc, mul_comm, lt_of_mul-lt-mul_right, mul-lt-mul_of_pos_right, mul-pos, zero-mul, mul-one, mul_right_comm, le_of_mul-le-mul_right, mul-div_cancel, le-add_left, arith, pow_pos, leb-false, leb-true}
use native.Mathlib.Nat.{eq_of_mul-eq-mul_right}
use lib.Signed.{le_z}
use lib.Ieee.{Float, nan, inf, fin, Format, binary64, up, down, round, fits, le, lt}
use lib.Ieee.Fits.{up_pos, down_pos}
use lib.Ieee.Exact.{HasValue}
use lib.Ieee.Positive.{den, den_pos}
use lib.Ieee.Scale.{finite, round_same}
use Rattle.numbers.specs.Rounded.{◌⊕◌, ◌⊖◌, ◌⊗◌, ◌⊘◌}
use Rattle.numbers.specs.Units.{scale, signed, units, distance, FiniteReal, UnitsExact, UnitsOrder, UnitsSum}
use Rattle.numbers.specs.Within.{Within, Held}
use Rattle.numbers.proofs.Integers.{Difference, over, difference_neg, difference_add, difference_sub, difference_same, same_difference, difference_le, difference_most, most_difference, below_not}
use Rattle.numbers.proofs.Magnitude.{round_within}
use Rattle.numbers.proofs.Monotone.{Positive, add_rounded, sub_rounded, mul_rounded, div_rounded}
use Rattle.numbers.proofs.Reals.{fits-digits, fits_under, place, exact}
use Rattle.numbers.proofs.Signed.{keep, turn, plus, less, Rounded, above, under, le→cross, cross→le, finite_number, not_less, le_of_not_less}

-- ---- every finite real is a whole number of units
pub fits-value : (s : Bool) (m : ℕ) (e : ℤ) → T (fits binary64 (fin s m e)) → (n : ℕ) × HasValue (fin s m e) s n scale
fits-value s m e f =
    let j = place 1074 e (fits-digits binary64 s m e f).1 in
    (m * 2 ^ j.0, (refl, mul_assoc m (up e) scale ∙ ap (λ (z : ℕ). m * z) j.1 ∙ sym (mul_assoc m (2 ^ j.0) (down e))))

pub units_exact : UnitsExact
unfolding units
units_exact s m e f =
    let v = fits-value s m e f in
    (v.0, v.1, ap (λ (z : ℕ). signed s (z / down e)) v.1.1 ∙ ap (signed s) (mul-div_cancel v.0 (down_pos e)))

-- ---- x is finite, and exactly (p - q) / c
pub record Counts (c : ℕ) (x : Float) (p q : ℕ) : Type 0 where
  pub sound : T (finite x)
  pub over : plus x * c ≡ p * den x
  pub under : less x * c ≡ q * den x

pub value-counts : (c : ℕ) (x : Float) (s : Bool) (n : ℕ) → HasValue x s n c → Counts c x (keep s n) (turn s n)
value-counts c nan s n v = absurd v
value-counts c (inf t) s n v = absurd v
value-counts c (fin t m e) s n v = subst (λ (z : Bool). Counts c (fin t m e) (keep z n) (turn z n)) v.0 (at t)
  where
    at : (t : Bool) → Counts c (fin t m e) (keep t n) (turn t n)
    at false = record { sound = tt; over = v.1; under = zero-mul c ∙ sym (zero-mul (down e)) }
    at true = record { sound = tt; over = zero-mul c ∙ sym (zero-mul (down e)); under = v.1 }

pub record Counted (x : Float) : Type 0 where
  pub high : ℕ
  pub low : ℕ
  pub counts : Counts scale x high low

pub real-counts : (x : Float) → FiniteReal x → Counted x
real-counts nan h = absurd h.finite
real-counts (inf s) h = absurd h.finite
real-counts (fin s m e) h =
    let v = fits-value s m e h.fits in
    record { high = keep s v.0; low = turn s v.0; counts = value-counts scale (fin s m e) s v.0 v.1 }

-- such a count in units is what `units` gives
sized : (m : ℕ) (e : ℤ) (p q : ℕ) → m * up e * scale ≡ p * down e → 0 * scale ≡ q * down e → Difference p q (pos (m * up e * scale / down e))
sized m e p q h k =
    let i : m * up e * scale / down e ≡ p = ap (λ (z : ℕ). z / down e) h ∙ mul-div_cancel p (down_pos e) in
    let j : 0 ≡ q = eq_of_mul-eq-mul_right (down e) (down_pos e) 0 q (zero-mul (down e) ∙ sym (zero-mul scale) ∙ k) in
    over (m * up e * scale / down e) (omega arith)

pub counts-units : (x : Float) (p q : ℕ) → Counts scale x p q → Difference p q (units x)
unfolding units
counts-units nan p q c = absurd c.sound
counts-units (inf s) p q c = absurd c.sound
counts-units (fin false m e) p q c = sized m e p q c.over c.under
counts-units (fin true m e) p q c = difference_neg (sized m e q p c.under c.over)

-- ---- a bound of a real bounds its count
within_count : (B c a d p : ℕ) → 0 < d → a * c ≡ p * d → a ≤ B * d → p ≤ B * c
within_count B c a d p D e h =
    le_of_mul-le-mul_right {m = p} {n = B * c} {k = d} (le_trans (le_of_eq (sym e)) (le_trans (mul-le-mul_right c h) (le_of_eq (mul_right_comm B d c)))) D

pub counts_within : (B c : ℕ) (x : Float) (p q : ℕ) → Counts c x p q → Within B x → (p ≤ B * c) × (q ≤ B * c)
counts_within B c nan p q k w = absurd w
counts_within B c (inf s) p q k w = absurd w
counts_within B c (fin s m e) p q k w = (
  within_count B c (plus (fin s m e)) (down e) p (down_pos e) k.over (part s).0,
  within_count B c (less (fin s m e)) (down e) q (down_pos e) k.under (part s).1,
)
  where
    part : (s : Bool) → (keep s (m * up e) ≤ B * down e) × (turn s (m * up e) ≤ B * down e)
    part false = (w, omega arith)
    part true = (omega arith, w)

-- ---- fractions across, by their counts
across : (a b d g c m n : ℕ) → a * c ≡ m * d → b * c ≡ n * g → (a * g + b * d) * c ≡ (m + n) * (d * g)
across a b d g c m n e f =
    let i = ap (λ (z : ℕ). z * g) e in
    let j = ap (λ (z : ℕ). z * d) f in
    omega arith

-- A is a and B is b, both taken c / d times: they are in the same order
le_across : (a b A B c d : ℕ) → 0 < d → a * c ≡ A * d → b * c ≡ B * d → a ≤ b → A ≤ B
le_across a b A B c d D e f h = le_of_mul-le-mul_right {m = A} {n = B} {k = d} (le_trans (le_of_eq (sym e)) (le_trans (mul-le-mul_right c h) (le_of_eq f))) D

-- ---- the order
module _ (x y : Float) (p q p' q' : ℕ) (a : Counts scale x p q) (b : Counts scale y p' q') where
  left : (plus x * den y + less y * den x) * scale ≡ (p + q') * (den x * den y)
  left = across (plus x) (less y) (den x) (den y) scale p q' a.over b.under

  right : (plus y * den x + less x * den y) * scale ≡ (p' + q) * (den x * den y)
  right = across (plus y) (less x) (den y) (den x) scale p' q b.over a.under ∙ ap (λ (z : ℕ). (p' + q) * z) (mul_comm (den y) (den x))

  le→counts : T (le x y) → p + q' ≤ p' + q
  le→counts h = le_across _ _ (p + q') (p' + q) scale (den x * den y) (mul-pos (den_pos x) (den_pos y)) left right (le→cross x y a.sound b.sound h).holds

  counts→le : p + q' ≤ p' + q → T (le x y)
  counts→le h = cross→le x y a.sound b.sound (record { holds = le_across (p + q') (p' + q) _ _ (den x * den y) scale (pow_pos 1074) (sym left) (sym right) h })

  counts-le : le x y ≡ leb (p + q') (p' + q)
  counts-le = go (le x y) refl (leb (p + q') (p' + q)) refl
    where
      go : (t : Bool) → le x y ≡ t → (l : Bool) → leb (p + q') (p' + q) ≡ l → t ≡ l
      go true e true f = refl
      go false e false f = refl
      go true e false f = absurd (lt_irrefl (p + q') (lt_of_le_of_lt (le→counts (subst T (sym e) tt)) (leb-false (p + q') (p' + q) f)))
      go false e true f = absurd (subst T e (counts→le (leb-true (p + q') (p' + q) f)))

le-units : (x y : Float) → FiniteReal x → FiniteReal y → le x y ≡ le_z (units x) (units y)
le-units x y h k =
    let a = real-counts x h in
    let b = real-counts y k in
    counts-le x y a.high a.low b.high b.low a.counts b.counts
    ∙ sym (difference_le (counts-units x a.high a.low a.counts) (counts-units y b.high b.low b.counts))

-- between finite reals `lt` is what is not `le` the other way round
lt_not : (x y : Float) → T (finite x) → T (finite y) → lt x y ≡ not (le y x)
lt_not x y h k = go (le y x) refl (lt x y) refl
  where
    go : (t : Bool) → le y x ≡ t → (l : Bool) → lt x y ≡ l → lt x y ≡ not t
    go true e l f = not_less y x (subst T (sym e) tt)
    go false e true f = f
    go false e false f = absurd (subst T e (le_of_not_less y x (finite_number y k) (finite_number x h) f))

pub units_order : UnitsOrder
units_order x y h k = (le-units x y h k, lt_not x y h.finite k.finite ∙ ap not (le-units y x k h) ∙ sym (below_not (units x) (units y)))

-- ---- equal fractions round alike
-- p - q = a, p / c = P / d and q / c = Q / d make a / c = (P - Q) / d
split : (p q a P Q c d : ℕ) → 0 < c → p ≡ q + a → p * d ≡ P * c → q * d ≡ Q * c → (P ≡ Q + (P - Q)) × (a * d ≡ (P - Q) * c)
split p q a P Q c d C e i j =
    let k = ap (λ (z : ℕ). z * d) e in
    let l : Q ≤ P = le_of_mul-le-mul_right {m = Q} {n = P} {k = c} (omega arith) C in
    let w : P ≡ Q + (P - Q) = omega arith in
    let v = ap (λ (z : ℕ). z * c) w in
    (w, omega arith)

rounded_same : (f : Format) (x : Float) (p q c P Q d : ℕ) → 0 < c → 0 < d → Rounded f x p q c → p * d ≡ P * c → q * d ≡ Q * c → Rounded f x P Q d
rounded_same f x p q c P Q d C D (above a e h) i j = let s = split p q a P Q c d C e i j in above (P - Q) s.0 (h ∙ round_same f false a c (P - Q) d C D s.1)
rounded_same f x p q c P Q d C D (under a e h) i j = let s = split q p a Q P c d C e j i in under (Q - P) s.0 (h ∙ round_same f true a c (Q - P) d C D s.1)

-- ---- the operations, each rounded once, by the counts of their operands
module _ {x y : Float} {p q p' q' : ℕ} (h : Counts scale x p q) where
  module _ (k : Counts scale y p' q') where
    some : 0 < den x * den y
    some = mul-pos (den_pos x) (den_pos y)

    pub add-counts : Rounded binary64 (x ⊕ y) (p + p') (q + q') scale
    add-counts =
        let over = across (plus x) (plus y) (den x) (den y) scale p p' h.over k.over in
        let under = across (less x) (less y) (den x) (den y) scale q q' h.under k.under in
        rounded_same binary64 (x ⊕ y) (plus x * den y + plus y * den x) (less x * den y + less y * den x) (den x * den y) (p + p') (q + q') scale some (pow_pos 1074)
        (add_rounded binary64 x y h.sound k.sound) over under

    pub sub-counts : Rounded binary64 (x ⊖ y) (p + q') (q + p') scale
    sub-counts =
        let over = across (plus x) (less y) (den x) (den y) scale p q' h.over k.under in
        let under = across (less x) (plus y) (den x) (den y) scale q p' h.under k.over in
        rounded_same binary64 (x ⊖ y) (plus x * den y + less y * den x) (less x * den y + plus y * den x) (den x * den y) (p + q') (q + p') scale some (pow_pos 1074)
        (sub_rounded binary64 x y h.sound k.sound) over under

    -- by a real above zero
    module _ (P : Positive y) (many : 0 < p') where
      digits : 0 < plus y
      digits = subst (λ (z : Float). 0 < plus z) (sym P.is) (mul-pos (zero-lt-suc P.size) (up_pos P.expo))

      through : (a b d g u m n : ℕ) → 0 < u → a * u ≡ m * d → b * u ≡ n * g → a * g * n ≡ m * (b * d)
      through a b d g u m n U e f =
          eq_of_mul-eq-mul_right u U (a * g * n) (m * (b * d))
          (let i = ap (λ (z : ℕ). z * (g * n)) e in
          let j = ap (λ (z : ℕ). z * (m * d)) f in
          omega arith)

      pub div-counts : Rounded binary64 (x ⊘ y) p q p'
      div-counts =
          let over = through (plus x) (plus y) (den x) (den y) scale p p' (pow_pos 1074) h.over k.over in
          let under = through (less x) (plus y) (den x) (den y) scale q p' (pow_pos 1074) h.under k.over in
          rounded_same binary64 (x ⊘ y) (plus x * den y) (less x * den y) (plus y * den x) p q p' (mul-pos digits (den_pos x)) many (div_rounded binary64 x y h.sound P) over under

  -- times a whole number
  module _ (k : Counts 1 y p' q') where
    times : (a b d g u m n : ℕ) → a * u ≡ m * d → b * 1 ≡ n * g → a * b * u ≡ m * n * (d * g)
    times a b d g u m n e f =
        let i = ap (λ (z : ℕ). z * b) e in
        let j = ap (λ (z : ℕ). z * (m * d)) f in
        omega arith

    two : (a b c d e u : ℕ) → a * u ≡ b * e → c * u ≡ d * e → (a + c) * u ≡ (b + d) * e
    two a b c d e u f g = omega arith

    pub mul-counts : Rounded binary64 (x ⊗ y) (p * p' + q * q') (p * q' + q * p') scale
    mul-counts =
        let d = den x * den y in
        let over-over = times (plus x) (plus y) (den x) (den y) scale p p' h.over k.over in
        let under-under = times (less x) (less y) (den x) (den y) scale q q' h.under k.under in
        let over-under = times (plus x) (less y) (den x) (den y) scale p q' h.over k.under in
        let under-over = times (less x) (plus y) (den x) (den y) scale q p' h.under k.over in
        rounded_same binary64 (x ⊗ y) (plus x * plus y + less x * less y) (plus x * less y + less x * plus y) d (p * p' + q * q') (p * q' + q * p') scale
        (mul-pos (den_pos x) (den_pos y)) (pow_pos 1074) (mul_rounded binary64 x y h.sound k.sound)
        (two (plus x * plus y) (p * p') (less x * less y) (q * q') d scale over-over under-under)
        (two (plus x * less y) (p * q') (less x * plus y) (q * p') d scale over-under under-over)

-- what a finite real holds, of either sign, is not rounded
held : (t s : Bool) (m : ℕ) (e : ℤ) (n : ℕ) → T (fits binary64 (fin s m e)) → HasValue (fin s m e) s n scale → HasValue (round binary64 t n scale) t n scale
held t s m e n f v =
    let d = fits-digits binary64 s m e f in
    exact binary64 t m e 0 n scale d.0 d.1 (pow_pos 1074) (sym v.1 ∙ ap (λ (z : ℕ). z * scale) (sym (mul-one (m * up e)))) below
  where
    below : n < 2 ^ 1024 * scale
    below =
        lt_of_mul-lt-mul_right (down e)
        (lt_of_le_of_lt (le_of_eq (sym v.1))
        (lt_of_lt_of_le (mul-lt-mul_of_pos_right (fits_under binary64 s m e f) (pow_pos 1074)) (le_of_eq (mul_right_comm (2 ^ 1024) (down e) scale))))

-- (p - q) / scale, rounded once, where a finite real z has that value
rounded_exact : (r z : Float) (p q : ℕ) → FiniteReal z → Rounded binary64 r p q scale → Difference p q (units z) → T (finite r) × (units r ≡ units z)
rounded_exact r nan p q h k d = absurd h.finite
rounded_exact r (inf s) p q h k d = absurd h.finite
rounded_exact r (fin s m e) p q h k d = by k
  where
    v : (n : ℕ) × HasValue (fin s m e) s n scale
    v = fits-value s m e h.fits

    n : ℕ
    n = v.0

    z_is : Difference (keep s n) (turn s n) (units (fin s m e))
    z_is = counts-units (fin s m e) (keep s n) (turn s n) (value-counts scale (fin s m e) s n v.1)

    -- of either sign, with the size of z
    counted_so : (t : Bool) → r ≡ round binary64 t n scale → Counts scale r (keep t n) (turn t n)
    counted_so t g = value-counts scale r t n (subst (λ (x : Float). HasValue x t n scale) (sym g) (held t s m e n h.fits v.1))

    so : (t : Bool) → Counts scale r (keep t n) (turn t n) → keep t n + turn s n ≡ keep s n + turn t n → T (finite r) × (units r ≡ units (fin s m e))
    so t k j = (k.sound, difference_same (counts-units r (keep t n) (turn t n) k) z_is j)

    -- above zero, or below: of one size, and then of one sign or zero
    up_size : (s : Bool) (a n : ℕ) → a + turn s n ≡ keep s n → a ≡ n
    up_size false a n e = omega arith
    up_size true a n e = omega arith

    down_size : (s : Bool) (a n : ℕ) → turn s n ≡ keep s n + a → a ≡ n
    down_size false a n e = omega arith
    down_size true a n e = omega arith

    by : Rounded binary64 r p q scale → T (finite r) × (units r ≡ units (fin s m e))
    by (above a g k) =
        let i : p + turn s n ≡ keep s n + q = same_difference d z_is refl in
        let j : a ≡ n = up_size s a n (omega arith) in
        so false (counted_so false (k ∙ ap (λ (c : ℕ). round binary64 false c scale) j)) (omega arith)
    by (under a g k) =
        let i : p + turn s n ≡ keep s n + q = same_difference d z_is refl in
        let j : a ≡ n = down_size s a n (omega arith) in
        so true (counted_so true (k ∙ ap (λ (c : ℕ). round binary64 true c scale) j)) (omega arith)

pub units_sum : UnitsSum
units_sum x y z h k l =
    let a = real-counts x h in
    let b = real-counts y k in
    let d = counts-units x a.high a.low a.counts in
    let g = counts-units y b.high b.low b.counts in
    let sum = rounded_exact (x ⊕ y) z (a.high + b.high) (a.low + b.low) l (add-counts a.counts b.counts) in
    let difference = rounded_exact (x ⊖ y) z (a.high + b.low) (a.low + b.high) l (sub-counts a.counts b.counts) in (
      λ e. sum (subst (Difference (a.high + b.high) (a.low + b.low)) (sym e) (difference_add d g)),
      λ e. difference (subst (Difference (a.high + b.low) (a.low + b.high)) (sym e) (difference_sub d g)),
    )

-- ---- bounds of reals as bounds of their counts
pub within_units : (B : ℕ) (x : Float) → FiniteReal x → Within B x → nat_abs (units x) ≤ B * scale
within_units B x h w =
    let a = real-counts x h in
    let most = counts_within B scale x a.high a.low a.counts w in
    let over = le_trans most.0 (le-add_left (B * scale) a.low) in
    let under = le_trans most.1 (le-add_left (B * scale) a.high) in
    difference_most (B * scale) (counts-units x a.high a.low a.counts) over under

signed-size : (s : Bool) (n : ℕ) → nat_abs (signed s n) ≡ n
signed-size false n = refl
signed-size true zero = refl
signed-size true (suc n) = refl

pub units_within : (B : ℕ) (x : Float) → FiniteReal x → nat_abs (units x) ≤ B * scale → Within B x
units_within B nan h l = absurd h.finite
units_within B (inf s) h l = absurd h.finite
units_within B (fin s m e) h l =
    let v = units_exact s m e h.fits in
    let few : v.0 ≤ B * scale = subst (λ (z : ℕ). z ≤ B * scale) (ap nat_abs v.2 ∙ signed-size s v.0) l in
    le_of_mul-le-mul_right {m = m * up e} {n = B * down e} {k = scale}
    (le_trans (le_of_eq v.1.1) (le_trans (mul-le-mul_right (down e) few) (le_of_eq (mul_right_comm B scale (down e))))) (pow_pos 1074)

-- a rounded difference does not pass a bound of the exact one that is a real
pub distance_within : (B : ℕ) (x y : Float) → Held B → FiniteReal x → FiniteReal y → distance x y ≤ B * scale → Within B (x ⊖ y)
distance_within B x y K h k l =
    let a = real-counts x h in
    let b = real-counts y k in
    let d = difference_sub (counts-units x a.high a.low a.counts) (counts-units y b.high b.low b.counts) in
    by (a.high + b.low) (a.low + b.high) (most_difference (B * scale) d l) (sub-counts a.counts b.counts)
  where
    few : (p q c M : ℕ) → p ≡ q + c → p ≤ q + M → c ≤ M
    few p q c M e l = omega arith

    by : (p q : ℕ) → (p ≤ q + B * scale) × (q ≤ p + B * scale) → Rounded binary64 (x ⊖ y) p q scale → Within B (x ⊖ y)
    by p q m (above c e r) = subst (Within B) (sym r) (round_within B false c scale K (pow_pos 1074) (few p q c (B * scale) e m.0))
    by p q m (under c e r) = subst (Within B) (sym r) (round_within B true c scale K (pow_pos 1074) (few q p c (B * scale) e m.1))

-- Rounding to whole numbers, by values.
use Rattle.std.proofs.Common.{◌≡◌, ℕ, zero, suc, ◌+◌, ◌-◌, ◌*◌, ◌/◌, ◌%◌, ◌^◌, ◌<◌, ◌≤◌, min, Bool, true, false, T, ℤ, pos, negsuc, sym, refl, ap, ◌∙◌, subst, true≢false, le_trans, le_of_eq, lt_of_lt_of_le, mul-le-mul_right, mod-lt, zero-lt-suc, mul_assoc, mul_comm, div-lt_iff_lt-mul, add-mul, mul-pos, one-mul, div-add-mod', mul-one, not-le_of_lt, le-mul_of_pos_right, div-one, two-mul, arith, lit≤, eqb→eq, pow_pos, ltb-false, ltb-true}
use native.Mathlib.Nat.{add-div_right, div-div-eq-div-mul, div-eq_of_lt-le}
use mathlib.Core.Bool.{false≢true}
use Rattle.std.specs.Float as library
use lib.Ieee.{Float, nan, inf, fin, binary64, emax, up, down, round, add, neg, lt, fits, of_bits, to_unsigned, of_int}
use lib.Ieee.Fits.{down_pos}
use lib.Ieee.Exact.{HasValue}
use lib.Ieee.Scale.{round_same}
use lib.Ieee.Back.{round_whole}
use lib.Ieee.Positive.{num, den, den_pos}
use Rattle.numbers.specs.Round.{cut, cut_up, nearest_up, round_away, floor_of, ceil_of}
use Rattle.numbers.proofs.Reals.{Zero, Nought, fits-digits, exact, cut-value, in_range, lt-true, lt-false, whole_back, round-neg, inf_neg, flat, not_zero}

-- ---- above zero and below 2 ^ 53
abbrev pub Big : Float
Big = of_bits binary64 0x4340_0000_0000_0000

pub record Small (x : Float) : Type 0 where
  pub value : HasValue x false (num x) (den x)
  pub under : num x < 2 ^ 53 * den x
  pub digits : (m : ℕ) × (e : ℤ) × (x ≡ fin false m e)

pub small : (x : Float) → T (lt Zero x) → lt x Big ≡ true → Small x
unfolding lt of_bits
small nan p t = absurd p
small (inf true) p t = absurd p
small (inf false) p t = absurd (false≢true t)
small (fin true m e) p t = absurd p
small (fin false m e) p t = record { value = (refl, refl); under = subst (λ (z : ℕ). z < 2 ^ 53 * down e) (mul-one (m * up e)) (ltb-true (m * up e * 1) (2 ^ 53 * down e) t); digits = (m, e, refl) }

pub single_range : (x : Float) → Small x → T (lt (fin true 1 (pos 0)) x) × T (lt x (fin false 1 (pos 64)))
single_range x k = in_range x (num x) (den x) (den_pos x) k.value (wide64' (num x) (den x) k.under)
  where
    wide64' : (n d : ℕ) → n < 2 ^ 53 * d → n < 2 ^ 64 * d
    wide64' n d h = omega arith

-- the double
doubled : (m : ℕ) (e : ℤ) → add binary64 (fin false m e) (fin false m e) ≡ round binary64 false (2 * (m * up e)) (down e)
unfolding add
doubled m e =
    round_same binary64 false (m * up e * down e + m * up e * down e) (down e * down e) (2 * (m * up e)) (down e) (mul-pos (down_pos e) (down_pos e)) (down_pos e)
    (ap (λ (z : ℕ). z * down e) (sym (add-mul (m * up e) (m * up e) (down e)) ∙ ap (λ (z : ℕ). z * down e) (sym (two-mul (m * up e)))) ∙ mul_assoc (2 * (m * up e)) (down e) (down e))

twice_under : (n d : ℕ) → n < 2 ^ 53 * d → 2 * n < 2 ^ 54 * d
twice_under n d h = omega arith

wide : (n d : ℕ) → n < 2 ^ 54 * d → n < 2 ^ suc (emax binary64) * d
wide n d h = lt_of_lt_of_le h (mul-le-mul_right d (lit≤ tt))

wide64 : (n d : ℕ) → n < 2 ^ 54 * d → n < 2 ^ 64 * d
wide64 n d h = omega arith

pub double_value : (x : Float) → T (fits binary64 x) → Small x → HasValue (add binary64 x x) false (2 * num x) (den x)
double_value nan t k = absurd k.value
double_value (inf s) t k = absurd k.value
double_value (fin true m e) t k = absurd (true≢false k.value.0)
double_value (fin false m e) t k =
    let g = fits-digits binary64 false m e t in
    subst (λ (y : Float). HasValue y false (2 * (m * up e)) (down e)) (sym (doubled m e))
    (exact binary64 false m e 1 (2 * (m * up e)) (down e) g.0 g.1 (down_pos e)
    (ap (λ (z : ℕ). z * down e) (mul_comm 2 (m * up e)))
    (wide (2 * (m * up e)) (down e) (twice_under (m * up e) (down e) k.under)))

pub double_range : (x : Float) → T (fits binary64 x) → Small x → T (lt (fin true 1 (pos 0)) (add binary64 x x)) × T (lt (add binary64 x x) (fin false 1 (pos 64)))
double_range x t k = in_range (add binary64 x x) (2 * num x) (den x) (den_pos x) (double_value x t k) (wide64 (2 * num x) (den x) (twice_under (num x) (den x) k.under))

-- ---- the answers below 2 ^ 53
capped : (q : ℕ) → q < 2 ^ 54 → min q (2 ^ 64 - 1) ≡ q
capped q h = omega arith

pub cut_small : (x : Float) → Small x → (to_unsigned 64 x ≡ num x / den x) × (num x / den x < 2 ^ 53)
cut_small x k =
    let q : num x / den x < 2 ^ 53 = (div-lt_iff_lt-mul (den_pos x)).1 k.under in
    (cut-value x (num x) (den x) (den_pos x) k.value ∙ capped (num x / den x) (omega arith), q)

pub cut_double : (x : Float) → T (fits binary64 x) → Small x → (to_unsigned 64 (add binary64 x x) ≡ 2 * num x / den x) × (2 * num x / den x < 2 ^ 54)
cut_double x t k =
    let q : 2 * num x / den x < 2 ^ 54 = (div-lt_iff_lt-mul (den_pos x)).1 (twice_under (num x) (den x) k.under) in
    (cut-value (add binary64 x x) (2 * num x) (den x) (den_pos x) (double_value x t k) ∙ capped (2 * num x / den x) q, q)

half_more : (n d : ℕ) → 0 < d → (2 * n / d + 1) / 2 ≡ nearest_up n d
half_more n d D = ap (λ (z : ℕ). z / 2) (sym (add-div_right (2 * n) D)) ∙ div-div-eq-div-mul (2 * n + d) d 2 ∙ ap (λ (z : ℕ). (2 * n + d) / z) (mul_comm d 2)

pub half_up_is : (x : Float) → T (fits binary64 x) → Small x → (t : ℕ) → t ≡ to_unsigned 64 (add binary64 x x) → of_int binary64 (pos ((t + 1) / 2)) ≡ round_away x
unfolding round_away of_int
half_up_is nan f k t e = absurd k.value
half_up_is (inf s) f k t e = absurd k.value
half_up_is (fin true m e') f k t e = absurd (true≢false k.value.0)
half_up_is (fin false m e') f k t e =
    ap (λ (z : ℕ). round binary64 false z 1) (ap (λ (z : ℕ). (z + 1) / 2) (e ∙ (cut_double (fin false m e') f k).0) ∙ half_more (m * up e') (down e') (down_pos e'))

pub floor_positive_is : (x : Float) → Small x → (t : ℕ) → t ≡ to_unsigned 64 x → of_int binary64 (pos t) ≡ floor_of x
unfolding floor_of of_int
floor_positive_is nan k t e = absurd k.value
floor_positive_is (inf s) k t e = absurd k.value
floor_positive_is (fin true m e') k t e = absurd (true≢false k.value.0)
floor_positive_is (fin false m e') k t e = ap (λ (z : ℕ). round binary64 false z 1) (e ∙ (cut_small (fin false m e') k).0)

up_more : (n d q : ℕ) → 0 < d → q ≡ n / d → q * d < n → q + 1 ≡ cut_up n d
up_more n d q D e h =
    let a : q * d + n % d ≡ n = ap (λ (z : ℕ). z * d + n % d) e ∙ div-add-mod' n d in
    let b : n % d < d = mod-lt n D in
    sym (div-eq_of_lt-le {k = q + 1} d
    (le_trans (le_of_eq (add-mul q 1 d ∙ ap (λ (z : ℕ). q * d + z) (one-mul d))) (omega arith))
    (lt_of_lt_of_le (omega arith) (le_of_eq (sym (add-mul (q + 1) 1 d ∙ ap (λ (z : ℕ). z + 1 * d) (add-mul q 1 d))))))

up_same : (n d q : ℕ) → 0 < d → q ≡ n / d → n ≤ q * d → q ≡ cut_up n d
up_same n d q D e h =
    let a : q * d + n % d ≡ n = ap (λ (z : ℕ). z * d + n % d) e ∙ div-add-mod' n d in
    sym (div-eq_of_lt-le {k = q} d (omega arith) (lt_of_lt_of_le (omega arith) (le_of_eq (sym (add-mul q 1 d ∙ ap (λ (z : ℕ). q * d + z) (one-mul d))))))

-- the cut, as a float again, is exact
back-value : (x : Float) → Small x → (t : ℕ) → t ≡ to_unsigned 64 x → HasValue (of_int binary64 (pos t)) false t 1
unfolding of_int
back-value x k t e = let g = cut_small x k in let h : t ≡ num x / den x = e ∙ g.0 in round_whole binary64 false t (omega arith)

pub ceil_positive_more : (x : Float) → Small x → (t : ℕ) (f : Float) → t ≡ to_unsigned 64 x → f ≡ of_int binary64 (pos t) → lt f x ≡ true → of_int binary64 (pos (t + 1)) ≡ ceil_of x
unfolding ceil_of of_int
ceil_positive_more nan k t f e h l = absurd k.value
ceil_positive_more (inf s) k t f e h l = absurd k.value
ceil_positive_more (fin true m e') k t f e h l = absurd (true≢false k.value.0)
ceil_positive_more (fin false m e') k t f e h l =
    let v : HasValue f false t 1 = subst (λ (y : Float). HasValue y false t 1) (sym h) (back-value (fin false m e') k t e) in
    let lt' : t * down e' < m * up e' * 1 = lt-true f (fin false m e') t 1 (m * up e') (down e') (zero-lt-suc 0) (down_pos e') v (refl, refl) l in
    ap (λ (z : ℕ). round binary64 false z 1) (up_more (m * up e') (down e') t (down_pos e') (e ∙ (cut_small (fin false m e') k).0) (omega arith))

pub ceil_positive_same : (x : Float) → Small x → (t : ℕ) (f : Float) → t ≡ to_unsigned 64 x → f ≡ of_int binary64 (pos t) → lt f x ≡ false → f ≡ ceil_of x
unfolding ceil_of of_int
ceil_positive_same nan k t f e h l = absurd k.value
ceil_positive_same (inf s) k t f e h l = absurd k.value
ceil_positive_same (fin true m e') k t f e h l = absurd (true≢false k.value.0)
ceil_positive_same (fin false m e') k t f e h l =
    let v : HasValue f false t 1 = subst (λ (y : Float). HasValue y false t 1) (sym h) (back-value (fin false m e') k t e) in
    let le' : m * up e' * 1 ≤ t * down e' = lt-false f (fin false m e') t 1 (m * up e') (down e') v (refl, refl) l in
    h ∙ ap (λ (z : ℕ). round binary64 false z 1) (up_same (m * up e') (down e') t (down_pos e') (e ∙ (cut_small (fin false m e') k).0) (omega arith))

-- ---- from 2 ^ 53 on a real is whole
odd_half : (n : ℕ) → (2 * n + 1) / 2 ≡ n
odd_half n = omega arith

none_up : (n : ℕ) → (n + (1 - 1)) / 1 ≡ n
none_up n = omega arith

pub big : (x : Float) → T (fits binary64 x) → T (lt Zero x) → lt x Big ≡ false → (round_away x ≡ x) × (floor_of x ≡ x) × (ceil_of x ≡ x)
unfolding lt of_bits round_away floor_of ceil_of
big nan f p t = absurd p
big (inf true) f p t = absurd p
big (inf false) f p t = (refl, refl, refl)
big (fin true m e) f p t = absurd p
big (fin false m (pos k)) f p t =
    let w = whole_back false m k f in (
      ap (λ (z : ℕ). round binary64 false z 1) (odd_half (m * 2 ^ k)) ∙ w,
      ap (λ (z : ℕ). round binary64 false z 1) (div-one (m * 2 ^ k)) ∙ w,
      ap (λ (z : ℕ). round binary64 false z 1) (none_up (m * 2 ^ k)) ∙ w,
    )
big (fin false m (negsuc k)) f p t =
    let a : 2 ^ 53 * 2 ^ suc k ≤ m * 1 * 1 = ltb-false (m * 1 * 1) (2 ^ 53 * 2 ^ suc k) t in
    let b : 2 ^ 53 ≤ 2 ^ 53 * 2 ^ suc k = le-mul_of_pos_right (2 ^ 53) (pow_pos (suc k)) in
    let c : m < 2 ^ 53 = (fits-digits binary64 false m (negsuc k) f).0 in
    absurd (not-le_of_lt c (le_trans b (le_trans a (le_of_eq (mul-one (m * 1) ∙ mul-one m)))))

-- ---- signs
pub neg-round : (x : Float) → neg (round_away (neg x)) ≡ round_away x
unfolding round_away neg
neg-round nan = refl
neg-round (inf s) = inf_neg s
neg-round (fin s m e) = round-neg binary64 s (nearest_up (m * up e) (down e)) 1

pub neg_ceil : (x : Float) → neg (ceil_of (neg x)) ≡ floor_of x
unfolding ceil_of floor_of neg
neg_ceil nan = refl
neg_ceil (inf s) = inf_neg s
neg_ceil (fin true m e) = round-neg binary64 true (cut_up (m * up e) (down e)) 1
neg_ceil (fin false m e) = round-neg binary64 false (cut (m * up e) (down e)) 1

pub neg-floor : (x : Float) → neg (floor_of (neg x)) ≡ ceil_of x
unfolding ceil_of floor_of neg
neg-floor nan = refl
neg-floor (inf s) = inf_neg s
neg-floor (fin true m e) = round-neg binary64 true (cut (m * up e) (down e)) 1
neg-floor (fin false m e) = round-neg binary64 false (cut_up (m * up e) (down e)) 1

-- ---- zeros
stay_zero : (s : Bool) (e : ℤ) → e ≡ pos 0 → (round_away (fin s 0 e) ≡ fin s 0 e) × (floor_of (fin s 0 e) ≡ fin s 0 e) × (ceil_of (fin s 0 e) ≡ fin s 0 e)
unfolding round_away floor_of ceil_of
stay_zero true e h = subst (λ (g : ℤ). (round_away (fin true 0 g) ≡ fin true 0 g) × (floor_of (fin true 0 g) ≡ fin true 0 g) × (ceil_of (fin true 0 g) ≡ fin true 0 g)) (sym h) (refl, refl, refl)
stay_zero false e h = subst (λ (g : ℤ). (round_away (fin false 0 g) ≡ fin false 0 g) × (floor_of (fin false 0 g) ≡ fin false 0 g) × (ceil_of (fin false 0 g) ≡ fin false 0 g)) (sym h) (refl, refl, refl)

pub still : (x : Float) → T (fits binary64 x) → lt Nought x ≡ false → lt x Nought ≡ false → (round_away x ≡ x) × (floor_of x ≡ x) × (ceil_of x ≡ x)
unfolding lt of_bits round_away floor_of ceil_of fits
still nan f p t = (refl, refl, refl)
still (inf true) f p t = (refl, refl, refl)
still (inf false) f p t = (refl, refl, refl)
still (fin true zero e) f p t = stay_zero true e (flat e (eqb→eq (up e * down e) 1 f))
still (fin false zero e) f p t = stay_zero false e (flat e (eqb→eq (up e * down e) 1 f))
still (fin true (suc m) e) f p t = let h : suc m * up e * 1 + 0 * down e ≤ 0 = ltb-false 0 (suc m * up e * 1 + 0 * down e) t in absurd (not_zero m e (omega arith))
still (fin false (suc m) e) f p t = let h : suc m * up e * 1 ≤ 0 * down e = ltb-false (0 * down e) (suc m * up e * 1) p in absurd (not_zero m e (omega arith))

-- ---- the library's `round`, `floor` and `ceil` of a real are those of specs/Round.antt

pub round_is : (x : Float) → library.float_round binary64 x ≡ round_away x
unfolding round_away library.round_with
round_is nan = refl
round_is (inf s) = refl
round_is (fin false m e) = refl
round_is (fin true m e) = refl

-- The library takes the 1 off the sum, and `cut_up` off b.
up_is : (a b : ℕ) → 0 < b → library.ratio_ceil a b ≡ cut_up a b
up_is a b h = let same : a + b - 1 ≡ a + (b - 1) = omega arith in ap (λ (n : ℕ). n / b) same

pub floor_is : (x : Float) → library.floor binary64 x ≡ floor_of x
unfolding floor_of library.round_with
floor_is nan = refl
floor_is (inf s) = refl
floor_is (fin false m e) = refl
floor_is (fin true m e) = ap (λ (n : ℕ). round binary64 true n 1) (up_is (m * up e) (down e) (down_pos e))

pub ceil_is : (x : Float) → library.ceil binary64 x ≡ ceil_of x
unfolding ceil_of library.round_with
ceil_is nan = refl
ceil_is (inf s) = refl
ceil_is (fin false m e) = ap (λ (n : ℕ). round binary64 false n 1) (up_is (m * up e) (down e) (down_pos e))
ceil_is (fin true m e) = refl

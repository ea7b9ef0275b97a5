-- How many steps of at least c a length of at most A takes, as a whole number taken up: at most A * L, where c is at least 1 / L.
use Rattle.std.proofs.Common.{◌≡◌, ℕ, ◌+◌, ◌-◌, ◌*◌, ◌^◌, ◌<◌, ◌≤◌, min, Bool, true, false, cond, T, ◌⊎◌, ℤ, pos, sym, refl, ap, ◌∙◌, subst, inl, inr, true≢false, le_trans, le_of_eq, mul_assoc, mul_comm, add-mul, lt_of_mul-lt-mul_right, mul-le-mul_left, one-mul, le_of_mul-le-mul_right, mul_left_comm, div-one, arith, lit<, lit≤, ltb-false}
use mathlib.Core.Bool.{false≢true}
use lib.Ieee.{Float, nan, inf, fin, binary64, up, down, div, unlike, lt, fits, to_unsigned}
use lib.Ieee.Fits.{down_pos, div-fits}
use lib.Ieee.Exact.{HasValue}
use lib.Ieee.Scale.{finite}
use Rattle.numbers.specs.Order.{abs_of, max_of}
use Rattle.numbers.specs.Round.{cut_up, ceil_of}
use Rattle.numbers.specs.Within.{Within, Held, Beyond, NonNeg}
use Rattle.numbers.proofs.Magnitude.{div_within}
use Rattle.numbers.proofs.Reals.{cut-value}
use Rattle.numbers.proofs.rounding.Meaning.{cut-above, ceil_exact, ceil_means}

abs_within : (B : ℕ) (x : Float) → Within B x → Within B (abs_of x)
unfolding abs_of
abs_within B nan w = w
abs_within B (inf s) w = absurd w
abs_within B (fin s m e) w = w

-- ---- a real of size at most B, taken up and cast
up_within : (a b B n : ℕ) → 0 < b → a ≤ B * b → n * b < a + b → n ≤ B
up_within a b B n p h k =
    let q : n * b < (B + 1) * b = (let d : (B + 1) * b ≡ B * b + b = add-mul B 1 b ∙ ap (λ (z : ℕ). B * b + z) (one-mul b) in omega arith) in
    let r : n < B + 1 = lt_of_mul-lt-mul_right b q in
    omega arith

negative_cast : (r : Float) (n : ℕ) → HasValue r true n 1 → to_unsigned 64 r ≡ 0
unfolding to_unsigned
negative_cast nan n v = refl
negative_cast (inf s) n v = absurd v
negative_cast (fin true m e) n v = refl
negative_cast (fin false m e) n v = absurd (false≢true v.0)

-- the least whole number that is at least x, where the integers reach it
pub ceil_cast : (m : ℕ) (e : ℤ) → T (fits binary64 (fin false m e)) → to_unsigned 64 (ceil_of (fin false m e)) ≡ min (cut_up (m * up e) (down e)) (2 ^ 64 - 1)
ceil_cast m e f =
    let n = cut_up (m * up e) (down e) in
    cut-value (ceil_of (fin false m e)) n 1 (lit< tt) (ceil_exact m e f) ∙ ap (λ (q : ℕ). min q (2 ^ 64 - 1)) (div-one n)

pub cast_within : (B : ℕ) (x : Float) → T (fits binary64 x) → Within B x → to_unsigned 64 (ceil_of x) ≤ B
cast_within B nan f w = absurd w
cast_within B (inf s) f w = absurd w
cast_within B (fin true m e) f w =
    let c = ceil_means true m e f in
    subst (λ (z : ℕ). z ≤ B) (sym (negative_cast (ceil_of (fin true m e)) c.n c.exact)) (omega arith)
cast_within B (fin false m e) f w =
    let n = cut_up (m * up e) (down e) in
    let few : n ≤ B = up_within (m * up e) (down e) B n (down_pos e) w (cut-above (m * up e) (down e) (down_pos e)).low in
    subst (λ (z : ℕ). z ≤ B) (sym (ceil_cast m e f)) (least n few)
  where
    least : (n : ℕ) → n ≤ B → min n (2 ^ 64 - 1) ≤ B
    least n h = omega arith

-- ---- what is not less than c is at least 1 / L too, or is no finite number
pub not_less_beyond : (L : ℕ) (c y : Float) → Beyond L c → NonNeg c → lt y c ≡ false → Beyond L y ⊎ (finite y ≡ false)
unfolding lt
not_less_beyond L nan y b p h = absurd b
not_less_beyond L (inf s) y b p h = absurd b
not_less_beyond L (fin true m e) y b p h = absurd (true≢false p)
not_less_beyond L (fin false m e) nan b p h = inr refl
not_less_beyond L (fin false m e) (inf s) b p h = inr refl
not_less_beyond L (fin false m e) (fin true k d) b p h = absurd (none (ltb-false 0 (k * up d * down e + m * up e * down d) h))
  where
    none : k * up d * down e + m * up e * down d ≤ 0 → ⊥
    none z =
        let y : m * up e * down d ≤ 0 * down d = omega arith in
        let x : m * up e ≤ 0 = le_of_mul-le-mul_right y (down_pos d) in
        let w : L * (m * up e) ≤ L * 0 = mul-le-mul_left L x in
        let q = down_pos e in
        omega arith
not_less_beyond L (fin false m e) (fin false k d) b p h =
    inl (le_of_mul-le-mul_right (le_trans (mul-le-mul_left (down d) b) (le_trans (le_of_eq (turn (down d) L (m * up e))) (le_trans (mul-le-mul_left L (ltb-false (k * up d * down e) (m * up e * down d) h)) (le_of_eq (sym (mul_assoc L (k * up d) (down e))))))) (down_pos e))
  where
    turn : (d L a : ℕ) → d * (L * a) ≡ L * (a * d)
    turn d L a = simp (mul_assoc, mul_comm, mul_left_comm)

over_infinite : (B : ℕ) (x y : Float) → Within B x → finite y ≡ false → to_unsigned 64 (ceil_of (div binary64 x y)) ≤ 0
unfolding div ceil_of to_unsigned fits
over_infinite B nan y w h = absurd w
over_infinite B (inf s) y w h = absurd w
over_infinite B (fin s m e) nan w h = omega arith
over_infinite B (fin s m e) (inf t) w h = cast_within 0 (fin (unlike s t) 0 (pos 0)) tt (lit≤ tt)
over_infinite B (fin s m e) (fin t k d) w h = absurd (true≢false h)

pub step_count : (A L : ℕ) (x y c : Float) → Held (A * L) → Within A x → Beyond L c → NonNeg c → to_unsigned 64 (ceil_of (div binary64 (abs_of x) (max_of y c))) ≤ A * L
step_count A L x y c h w b p = go (lt y c) refl
  where
    far : (z : Float) → Beyond L z ⊎ (finite z ≡ false) → to_unsigned 64 (ceil_of (div binary64 (abs_of x) z)) ≤ A * L
    far z (inl q) = cast_within (A * L) (div binary64 (abs_of x) z) (div-fits binary64 (abs_of x) z) (div_within A L (abs_of x) z h (abs_within A x w) q)
    far z (inr q) = le_trans (over_infinite A (abs_of x) z (abs_within A x w) q) (omega arith)

    go : (t : Bool) → lt y c ≡ t → to_unsigned 64 (ceil_of (div binary64 (abs_of x) (cond t c y))) ≤ A * L
    go true e = far c (inl b)
    go false e = far y (not_less_beyond L c y b p e)

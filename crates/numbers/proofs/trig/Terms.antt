-- Both series of sin and cos end between 1 / 2 and 1 where r is at most 1 in size.
use Rattle.std.proofs.Common.{◌≡◌, ℕ, zero, suc, ◌+◌, ◌-◌, ◌*◌, ◌^◌, ◌<◌, ◌≤◌, true, false, T, ℤ, pos, negsuc, sym, refl, ap, ◌∙◌, subst, true≢false, le_trans, le_of_eq, mul-le-mul_right, zero-lt-suc, mul-le-mul, mul-pos, one-mul, mul-one, arith, lit<, lit≤}
use lib.Ieee.{Float, nan, inf, fin, binary64, up, down, round, sub, mul, div, le, of_bits, of_int}
use lib.Ieee.Fits.{up_pos, down_pos}
use lib.Ieee.Exact.{HasValue}
use lib.Ieee.Back.{round_whole}
use Rattle.numbers.specs.Constants.{one}
use Rattle.numbers.specs.Trig.{divisor_of, series_from}
use Rattle.numbers.specs.declared.trig.Series.{Series}
use Rattle.numbers.specs.declared.trig.Series.TheVariants.{Sine, Cosine}
use Rattle.numbers.specs.Within.{Within, NonNeg}
use Rattle.numbers.proofs.Magnitude.{held_small, mul_within}
use Rattle.numbers.proofs.Squares.{round_nonneg, square_nonneg}
use Rattle.numbers.proofs.Signed.{le→cross, cross→le}
use Rattle.numbers.proofs.Monotone.{Zero, sub_anti_right, div-at, of_int_positive}
use Rattle.numbers.proofs.Fractions.{Under, round_under}

-- ---- between 0 and 1, and between 1 / 2 and 1
pub record Frac (c : Float) : Type 0 where
  pub m : ℕ
  pub e : ℤ
  pub is : c ≡ fin false m e
  pub most : m * up e ≤ down e

pub record Upper (c : Float) : Type 0 where
  pub frac : Frac c
  pub half : down frac.e ≤ frac.m * up frac.e * 2

to_frac : (x : Float) → NonNeg x → Within 1 x → Frac x
to_frac nan n w = absurd w
to_frac (inf s) n w = absurd w
to_frac (fin true m e) n w = absurd (true≢false n)
to_frac (fin false m e) n w = record { m = m; e = e; is = refl; most = le_trans w (le_of_eq (one-mul (down e))) }

one_is : one ≡ fin false 1 (pos 0)
unfolding of_bits
one_is = refl

pub one_frac : Frac one
one_frac = record { m = 1; e = pos 0; is = one_is; most = lit≤ tt }

product_frac : (w c : Float) → Frac w → Frac c → Frac (mul binary64 w c)
product_frac w c v u =
    subst Frac (ap (λ (z : Float). mul binary64 z (fin false u.m u.e)) (sym v.is) ∙ ap (mul binary64 w) (sym u.is))
    (to_frac (mul binary64 (fin false v.m v.e) (fin false u.m u.e))
    (unfold mul in round_nonneg (v.m * up v.e * (u.m * up u.e)) (down v.e * down u.e))
    (mul_within 1 1 (fin false v.m v.e) (fin false u.m u.e) (held_small 1 (lit< tt)) (le_trans v.most (le_of_eq (sym (one-mul (down v.e))))) (le_trans u.most (le_of_eq (sym (one-mul (down u.e)))))))

pub half_is : HasValue (round binary64 false 1 2) false 1 2
unfolding round
half_is = (refl, refl)

-- a quotient of such a number by n ≥ 2 is at most 1 / 2
whole_at : (n : ℕ) → n ≤ 2 ^ 53 → HasValue (of_int binary64 (pos n)) false n 1
unfolding of_int
whole_at n h = round_whole binary64 false n h

small : (a d k g n : ℕ) → 2 ≤ n → a ≤ d → k * 1 ≡ n * g → a * g * 2 ≤ 1 * (k * d)
small a d k g n h l e =
    let p : k ≡ n * g = sym (mul-one k) ∙ e in
    let q : 2 * g * d ≤ n * g * d = mul-le-mul_right d (mul-le-mul_right g h) in
    let r : a * (g * 2) ≤ d * (g * 2) = mul-le-mul_right (g * 2) l in
    rw p (finish a d g (n * g * d) r q)
  where
    finish : (a d g x : ℕ) → a * (g * 2) ≤ d * (g * 2) → 2 * g * d ≤ x → a * g * 2 ≤ 1 * x
    finish a d g x r q = omega arith

quotient : (p : Float) (n : ℕ) → Frac p → 2 ≤ n → n ≤ 2 ^ 53 → NonNeg (div binary64 p (of_int binary64 (pos n))) × Under 1 2 (div binary64 p (of_int binary64 (pos n)))
quotient p n v h l =
    let t = of_int_positive binary64 n (omega arith) l in
    let val : HasValue (fin false (suc t.size) t.expo) false n 1 = subst (λ (z : Float). HasValue z false n 1) t.is (whole_at n l) in
    let is : div binary64 p (of_int binary64 (pos n)) ≡ round binary64 false (v.m * up v.e * down t.expo) (suc t.size * up t.expo * down v.e) =
    ap (λ (z : Float). div binary64 z (of_int binary64 (pos n))) v.is ∙ ap (div binary64 (fin false v.m v.e)) t.is ∙ div-at binary64 false v.m v.e t.size t.expo in (
      subst NonNeg (sym is) (round_nonneg (v.m * up v.e * down t.expo) (suc t.size * up t.expo * down v.e)),
      subst (Under 1 2) (sym is)
          (round_under false (v.m * up v.e * down t.expo) (suc t.size * up t.expo * down v.e) 1 2 (mul-pos (mul-pos (zero-lt-suc t.size) (up_pos t.expo)) (down_pos v.e)) (lit< tt) half_is
          (small (v.m * up v.e) (down v.e) (suc t.size * up t.expo) (down t.expo) n h v.most val.1)),
    )

abbrev Half : Float
Half = fin false 1 (negsuc 0)

-- 1 - d for a d between 0 and 1 / 2
rest-upper : (d : Float) → NonNeg d → Under 1 2 d → Upper (sub binary64 one d)
rest-upper nan n u = absurd u
rest-upper (inf s) n u = absurd u
rest-upper (fin true m e) n u = absurd (true≢false n)
rest-upper (fin false m e) n u =
    subst Upper (ap (λ (z : Float). sub binary64 z (fin false m e)) (sym one_is))
    (between (sub binary64 (fin false 1 (pos 0)) (fin false m e))
    (subst (λ (z : Float). T (le z (sub binary64 (fin false 1 (pos 0)) (fin false m e)))) half_left (sub_anti_right binary64 (fin false 1 (pos 0)) (fin false m e) Half tt (cross→le (fin false m e) Half tt tt (record { holds = below_half m e u }))))
    (subst (λ (z : Float). T (le (sub binary64 (fin false 1 (pos 0)) (fin false m e)) z)) all_left (sub_anti_right binary64 (fin false 1 (pos 0)) Zero (fin false m e) tt (cross→le Zero (fin false m e) tt tt (record { holds = omega arith })))))
  where
    below_half : (m : ℕ) (e : ℤ) → m * up e * 2 ≤ 1 * down e → m * up e * 2 + 0 * down e ≤ 1 * 1 * down e + 0 * 2
    below_half m e u = omega arith

    half_left : sub binary64 (fin false 1 (pos 0)) Half ≡ Half
    half_left = unfold sub in refl

    all_left : sub binary64 (fin false 1 (pos 0)) Zero ≡ fin false 1 (pos 0)
    all_left = unfold sub in refl

    between : (x : Float) → T (le Half x) → T (le x (fin false 1 (pos 0))) → Upper x
    between nan h k = absurd (unfold le in h)
    between (inf true) h k = absurd (unfold le in h)
    between (inf false) h k = absurd (unfold le in k)
    between (fin true m e) h k = absurd (no (m * up e) (down e) (down_pos e) (le→cross Half (fin true m e) tt tt h).holds)
      where
        no : (a d : ℕ) → 0 < d → 1 * 1 * d + a * 2 ≤ 0 * 2 + 0 * d → ⊥
        no a d p h = omega arith
    between (fin false m e) h k =
        let a : 1 * 1 * down e + 0 * 2 ≤ m * up e * 2 + 0 * down e = (le→cross Half (fin false m e) tt tt h).holds in
        let b : m * up e * 1 + 0 * down e ≤ 1 * 1 * down e + 0 * 1 = (le→cross (fin false m e) (fin false 1 (pos 0)) tt tt k).holds in
        record { frac = record { m = m; e = e; is = refl; most = omega arith }; half = omega arith }

step-upper : (w c : Float) (n : ℕ) → Frac w → Frac c → 2 ≤ n → n ≤ 2 ^ 53 → Upper (sub binary64 one (div binary64 (mul binary64 w c) (of_int binary64 (pos n))))
step-upper w c n v u h l =
    let q = quotient (mul binary64 w c) n (product_frac w c v u) h l in
    rest-upper (div binary64 (mul binary64 w c) (of_int binary64 (pos n))) q.0 q.1

-- ---- the series
divisor_term : (kind : Series) (j : ℕ) → suc j ≤ 8 → (2 ≤ divisor_of kind (suc j)) × (divisor_of kind (suc j) ≤ 2 ^ 53)
divisor_term Sine j h = (
  mul-le-mul {n₁ = 2} {m₁ = 1} {n₂ = 2 * suc j} {m₂ = 2 * suc j + 1} (omega arith) (omega arith),
  le_trans (mul-le-mul {n₁ = 2 * suc j} {m₁ = 2 * suc j + 1} {n₂ = 16} {m₂ = 17} (omega arith) (omega arith)) (lit≤ tt),
)
divisor_term Cosine j h = (
  mul-le-mul {n₁ = 1} {m₁ = 2} {n₂ = 2 * suc j - 1} {m₂ = 2 * suc j} (omega arith) (omega arith),
  le_trans (mul-le-mul {n₁ = 2 * suc j - 1} {m₁ = 2 * suc j} {n₂ = 15} {m₂ = 16} (omega arith) (omega arith)) (lit≤ tt),
)

pub series_upper : (kind : Series) (j : ℕ) (w s : Float) → suc j ≤ 8 → Frac w → Frac s → Upper (series_from kind w (suc j) s)
unfolding series_from
series_upper kind zero w s h v u = let t = divisor_term kind 0 h in step-upper w s (divisor_of kind 1) v u t.0 t.1
series_upper kind (suc j) w s h v u =
    let t = divisor_term kind (suc j) h in
    let next = step-upper w s (divisor_of kind (suc (suc j))) v u t.0 t.1 in
    series_upper kind j w (sub binary64 one (div binary64 (mul binary64 w s) (of_int binary64 (pos (divisor_of kind (suc (suc j))))))) (omega arith) v next.frac

pub square_frac : (r : Float) → Within 1 r → Frac (mul binary64 r r)
square_frac r w = to_frac (mul binary64 r r) (square_nonneg 1 r w) (mul_within 1 1 r r (held_small 1 (lit< tt)) w w)

pub upper_within : (c : Float) → Upper c → Within 1 c
upper_within c u = subst (Within 1) (sym u.frac.is) (le_trans u.frac.most (le_of_eq (sym (one-mul (down u.frac.e)))))

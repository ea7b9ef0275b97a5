-- For |a| ≤ 3 / 2 the computed cos a is at least 1 / 32 in size. q is 0 or ±1 there, the rest r is at most 1 in size, and both series end between 1 / 2 and 1.
use Rattle.std.proofs.Common.{◌≡◌, ℕ, ◌+◌, ◌-◌, ◌*◌, ◌^◌, ◌<◌, ◌≤◌, Bool, true, false, cond, not, ◌&&◌, ◌||◌, ltb, ◌⊎◌, ℤ, pos, negsuc, sym, refl, ap, ◌∙◌, subst, inl, inr, le_trans, le_of_eq, mul-le-mul_right, mul_assoc, mul_comm, mul-le-mul, mul-pos, one-mul, lt_of_not-le, arith, lit<, lit≤, le-ltb, lt-ltb}
use native.Mathlib.Nat.{div-eq_of_lt, div-eq_of_lt-le}
use native.Mathlib.Decide.{dec_le}
use lib.Ieee.{Float, nan, inf, fin, binary64, up, down, round, neg, sum, sub, mul, div, lt, unlike, of_bits}
use lib.Ieee.Fits.{down_pos}
use lib.Ieee.Exact.{HasValue}
use lib.Ieee.Order.{kept, drop}
use Rattle.numbers.specs.Constants.{plus_zero, thousand, one, H}
use Rattle.numbers.specs.Round.{round_away}
use Rattle.numbers.specs.Trig.{series_from, quarter_of, reduced_of, sincos_in, sincos_of}
use Rattle.numbers.specs.declared.trig.Series.TheVariants.{Sine, Cosine}
use Rattle.numbers.specs.Within.{Within, Beyond}
use Rattle.numbers.proofs.Magnitude.{units_shape, round_within, held_small, mul_within, sub_within}
use Rattle.numbers.proofs.Monotone.{div-at}
use Rattle.numbers.proofs.Fractions.{Under, AtLeast, round_under, round-at-least}
use Rattle.numbers.proofs.trig.Terms.{Upper, half_is, one_frac, square_frac, series_upper}

-- ---- t / H and the whole number next to it. H is hm / 2 ^ 49.
abbrev pub hm : ℕ
hm = 884279719003555

H_is : H ≡ fin false hm (negsuc 48)
unfolding of_bits
H_is = refl

pub quot_at : (s : Bool) (m : ℕ) (e : ℤ) → div binary64 (fin s m e) H ≡ round binary64 s (m * up e * 2 ^ 49) (hm * 1 * down e)
quot_at s m e = ap (div binary64 (fin s m e)) H_is ∙ div-at binary64 s m e 884279719003554 (negsuc 48) ∙ ap (λ (b : Bool). round binary64 b (m * up e * 2 ^ 49) (hm * 1 * down e)) (same s)
  where
    same : (s : Bool) → unlike s false ≡ s
    same true = refl
    same false = refl

record Quot (s : Bool) (m : ℕ) (e : ℤ) : Type 0 where
  n : ℕ
  g : ℤ
  is : div binary64 (fin s m e) H ≡ fin s n g
  most : n * up g ≤ down g
  value : round binary64 s (m * up e * 2 ^ 49) (hm * 1 * down e) ≡ fin s n g

quot : (s : Bool) (m : ℕ) (e : ℤ) → m * up e * 2 ≤ 3 * down e → Quot s m e
unfolding round
quot s m e h = go (units_shape s (kept 53 (m * up e * 2 ^ 49 * 2 ^ 1074) (hm * 1 * down e)) (drop 53 (m * up e * 2 ^ 49 * 2 ^ 1074) (hm * 1 * down e))) (round_within 1 s (m * up e * 2 ^ 49) (hm * 1 * down e) (held_small 1 (lit< tt)) (mul-pos (lit< {m = 0} {n = hm * 1} tt) (down_pos e)) (room (m * up e) (down e) h))
  where
    room : (a d : ℕ) → a * 2 ≤ 3 * d → a * 2 ^ 49 ≤ 1 * (hm * 1 * d)
    room a d h = omega arith

    go : ((n : ℕ) × (g : ℤ) × (round binary64 s (m * up e * 2 ^ 49) (hm * 1 * down e) ≡ fin s n g)) ⊎ (round binary64 s (m * up e * 2 ^ 49) (hm * 1 * down e) ≡ inf s) → Within 1 (round binary64 s (m * up e * 2 ^ 49) (hm * 1 * down e)) → Quot s m e
    go (inl y) w = record { n = y.0; g = y.1; is = quot_at s m e ∙ y.2; most = le_trans (subst (Within 1) y.2 w) (le_of_eq (one-mul (down y.1))); value = y.2 }
    go (inr y) w = absurd (subst (Within 1) y w)

-- with t / H below 1 / 2, |t| is at most 1
low_case : (s : Bool) (m : ℕ) (e : ℤ) (n : ℕ) (g : ℤ) → round binary64 s (m * up e * 2 ^ 49) (hm * 1 * down e) ≡ fin s n g → n * up g * 2 < down g → n * up g ≤ down g → m * up e ≤ down e
low_case s m e n g v l w = go (dec_le (m * up e) (down e))
  where
    half : (a d : ℕ) → d < a → 1 * (hm * 1 * d) ≤ a * 2 ^ 49 * 2
    half a d h = omega arith

    never : (a d : ℕ) → a * 2 < d → 1 * d ≤ a * 2 → ⊥
    never a d h k = omega arith

    go : Dec (m * up e ≤ down e) → m * up e ≤ down e
    go (yes h) = h
    go (no h) =
        absurd (never (n * up g) (down g) l
        (subst (AtLeast 1 2) v (round-at-least s (m * up e * 2 ^ 49) (hm * 1 * down e) 1 2 1 (mul-pos (lit< {m = 0} {n = hm * 1} tt) (down_pos e)) (lit< tt) half_is (half (m * up e) (down e) (lt_of_not-le h))
        (subst (Within 1) (sym v) (le_trans w (le_of_eq (sym (one-mul (down g)))))))))

odd_is : HasValue (round binary64 false 31 64) false 31 64
unfolding round
odd_is = (refl, refl)

-- with t / H at least 1 / 2, |t| is at least 3 / 4
high_case : (s : Bool) (m : ℕ) (e : ℤ) (n : ℕ) (g : ℤ) → round binary64 s (m * up e * 2 ^ 49) (hm * 1 * down e) ≡ fin s n g → down g ≤ n * up g * 2 → 3 * down e ≤ m * up e * 4
high_case s m e n g v l = go (dec_le (3 * down e) (m * up e * 4))
  where
    less : (a d : ℕ) → a * 4 < 3 * d → a * 2 ^ 49 * 64 ≤ 31 * (hm * 1 * d)
    less a d h = omega arith

    never : (a d : ℕ) → 0 < d → d ≤ a * 2 → a * 64 ≤ 31 * d → ⊥
    never a d p h k = omega arith

    go : Dec (3 * down e ≤ m * up e * 4) → 3 * down e ≤ m * up e * 4
    go (yes h) = h
    go (no h) = absurd (never (n * up g) (down g) (down_pos g) l (subst (Under 31 64) v (round_under s (m * up e * 2 ^ 49) (hm * 1 * down e) 31 64 (mul-pos (lit< {m = 0} {n = hm * 1} tt) (down_pos e)) (lit< tt) odd_is (less (m * up e) (down e) (lt_of_not-le h)))))

-- ---- the rest r
zero_turn : (s : Bool) → mul binary64 (fin s 0 (pos 0)) H ≡ fin s 0 (pos 0)
unfolding mul of_bits
zero_turn true = refl
zero_turn false = refl

one_turn : (s : Bool) → mul binary64 (fin s 1 (pos 0)) H ≡ fin s hm (negsuc 48)
unfolding mul of_bits
one_turn true = refl
one_turn false = refl

diff : (s : Bool) (A B c : ℕ) → A < B → sum binary64 s A (not s) B c ≡ round binary64 (not s) (B - A) c
unfolding sum
diff true A B c h = ap (λ (t : Bool). cond t (round binary64 false (B - A) c) (round binary64 (true && ltb B A) (A - B) c)) (lt-ltb A B h)
diff false A B c h = ap (λ (t : Bool). cond t (round binary64 true (B - A) c) (round binary64 (false && ltb B A) (A - B) c)) (lt-ltb A B h)

rest_at : (s : Bool) (m : ℕ) (e : ℤ) → m * up e * 2 ^ 49 < hm * 1 * down e → sub binary64 (fin s m e) (fin s hm (negsuc 48)) ≡ round binary64 (not s) (hm * 1 * down e - m * up e * 2 ^ 49) (down e * 2 ^ 49)
unfolding sub
rest_at s m e h = diff s (m * up e * 2 ^ 49) (hm * 1 * down e) (down e * 2 ^ 49) h

sixteenth_is : HasValue (round binary64 false 1 16) false 1 16
unfolding round
sixteenth_is = (refl, refl)

record Rest (r : Float) : Type 0 where
  most : Within 1 r
  least : AtLeast 1 16 r

rest-one : (s : Bool) (m : ℕ) (e : ℤ) → m * up e * 2 ≤ 3 * down e → 3 * down e ≤ m * up e * 4 → Rest (sub binary64 (fin s m e) (fin s hm (negsuc 48)))
rest-one s m e h l = subst Rest (sym (rest_at s m e (under-H (m * up e) (down e) (down_pos e) h))) (record { most = top; least = bottom })
  where
    under-H : (a d : ℕ) → 0 < d → a * 2 ≤ 3 * d → a * 2 ^ 49 < hm * 1 * d
    under-H a d p h = omega arith

    most-one : (a d : ℕ) → 3 * d ≤ a * 4 → hm * 1 * d - a * 2 ^ 49 ≤ 1 * (d * 2 ^ 49)
    most-one a d l =
        let p : 3 * (d * 2 ^ 49) ≤ 4 * (a * 2 ^ 49) = le_trans (le_of_eq (sym (mul_assoc 3 d (2 ^ 49)))) (le_trans (mul-le-mul_right (2 ^ 49) l) (le_of_eq (ap (λ (z : ℕ). z * 2 ^ 49) (mul_comm a 4) ∙ mul_assoc 4 a (2 ^ 49)))) in
        let q : 4 * (hm * 1 * d) ≤ 7 * (d * 2 ^ 49) = over d in
        few (hm * 1 * d) (a * 2 ^ 49) (d * 2 ^ 49) p q
      where
        over : (d : ℕ) → 4 * (hm * 1 * d) ≤ 7 * (d * 2 ^ 49)
        over d = omega arith

        few : (x a d : ℕ) → 3 * d ≤ 4 * a → 4 * x ≤ 7 * d → x - a ≤ 1 * d
        few x a d p q = omega arith

    least-one : (a d : ℕ) → a * 2 ≤ 3 * d → 1 * (d * 2 ^ 49) ≤ (hm * 1 * d - a * 2 ^ 49) * 16
    least-one a d h =
        let p : 2 * (a * 2 ^ 49) ≤ 3 * (d * 2 ^ 49) = le_trans (le_of_eq (sym (ap (λ (z : ℕ). z * 2 ^ 49) (mul_comm a 2) ∙ mul_assoc 2 a (2 ^ 49)))) (le_trans (mul-le-mul_right (2 ^ 49) h) (le_of_eq (mul_assoc 3 d (2 ^ 49)))) in
        let q : 25 * (d * 2 ^ 49) ≤ 16 * (hm * 1 * d) = over d in
        few (hm * 1 * d) (a * 2 ^ 49) (d * 2 ^ 49) p q
      where
        over : (d : ℕ) → 25 * (d * 2 ^ 49) ≤ 16 * (hm * 1 * d)
        over d = omega arith

        few : (x a d : ℕ) → 2 * a ≤ 3 * d → 25 * d ≤ 16 * x → 1 * d ≤ (x - a) * 16
        few x a d p q = omega arith

    top : Within 1 (round binary64 (not s) (hm * 1 * down e - m * up e * 2 ^ 49) (down e * 2 ^ 49))
    top = round_within 1 (not s) (hm * 1 * down e - m * up e * 2 ^ 49) (down e * 2 ^ 49) (held_small 1 (lit< tt)) (mul-pos (down_pos e) (lit< tt)) (most-one (m * up e) (down e) l)

    bottom : AtLeast 1 16 (round binary64 (not s) (hm * 1 * down e - m * up e * 2 ^ 49) (down e * 2 ^ 49))
    bottom = round-at-least (not s) (hm * 1 * down e - m * up e * 2 ^ 49) (down e * 2 ^ 49) 1 16 1 (mul-pos (down_pos e) (lit< tt)) (lit< tt) sixteenth_is (least-one (m * up e) (down e) h) top

-- ---- the whole number next to t / H
whole_zero : (s : Bool) → round binary64 s 0 1 ≡ fin s 0 (pos 0)
unfolding round
whole_zero true = refl
whole_zero false = refl

whole_one : (s : Bool) → round binary64 s 1 1 ≡ fin s 1 (pos 0)
unfolding round
whole_one true = refl
whole_one false = refl

away_zero : (s : Bool) (n : ℕ) (g : ℤ) → n * up g * 2 < down g → round_away (fin s n g) ≡ fin s 0 (pos 0)
unfolding round_away
away_zero s n g h = ap (λ (k : ℕ). round binary64 s k 1) (div-eq_of_lt {n = 2 * (n * up g) + down g} {m = 2 * down g} (few (n * up g) (down g) h)) ∙ whole_zero s
  where
    few : (a d : ℕ) → a * 2 < d → 2 * a + d < 2 * d
    few a d h = omega arith

away_one : (s : Bool) (n : ℕ) (g : ℤ) → down g ≤ n * up g * 2 → n * up g ≤ down g → round_away (fin s n g) ≡ fin s 1 (pos 0)
unfolding round_away
away_one s n g h l = ap (λ (k : ℕ). round binary64 s k 1) (div-eq_of_lt-le {k = 1} (2 * down g) {m = 2 * (n * up g) + down g} (low (n * up g) (down g) h) (high (n * up g) (down g) (down_pos g) l)) ∙ whole_one s
  where
    low : (a d : ℕ) → d ≤ a * 2 → 1 * (2 * d) ≤ 2 * a + d
    low a d h = omega arith

    high : (a d : ℕ) → 0 < d → a ≤ d → 2 * a + d < (1 + 1) * (2 * d)
    high a d p l = omega arith

-- ---- cos
upper_beyond : (c : Float) → Upper c → Beyond 32 c
upper_beyond c u = subst (Beyond 32) (sym u.frac.is) (more (u.frac.m * up u.frac.e) (down u.frac.e) u.half)
  where
    more : (a d : ℕ) → d ≤ a * 2 → d ≤ 32 * a
    more a d h = omega arith

at-least_beyond : (x : Float) → AtLeast 1 32 x → Beyond 32 x
at-least_beyond nan h = h
at-least_beyond (inf s) h = h
at-least_beyond (fin s m e) h = le_trans (le_of_eq (sym (one-mul (down e)))) (le_trans h (le_of_eq (mul_comm (m * up e) 32)))

beyond_neg : (L : ℕ) (x : Float) → Beyond L x → Beyond L (neg x)
unfolding neg
beyond_neg L nan h = h
beyond_neg L (inf s) h = h
beyond_neg L (fin s m e) h = h

small_is : HasValue (round binary64 false 1 32) false 1 32
unfolding round
small_is = (refl, refl)

-- a product of at least 1 / 16 and at least 1 / 2
product_beyond : (r s : Float) → Rest r → Upper s → Beyond 32 (mul binary64 r s)
product_beyond nan s p u = absurd p.most
product_beyond (inf t) s p u = absurd p.most
product_beyond (fin t m e) s p u =
    subst (λ (z : Float). Beyond 32 (mul binary64 (fin t m e) z)) (sym u.frac.is)
    (at-least_beyond (mul binary64 (fin t m e) (fin false u.frac.m u.frac.e))
    (at t (mul_within 1 1 (fin t m e) (fin false u.frac.m u.frac.e) (held_small 1 (lit< tt)) p.most (le_trans u.frac.most (le_of_eq (sym (one-mul (down u.frac.e))))))))
  where
    both : (a d b g : ℕ) → 1 * d ≤ a * 16 → g ≤ b * 2 → 1 * (d * g) ≤ a * b * 32
    both a d b g h k =
        le_trans (le_of_eq (sym (mul_assoc 1 d g))) (le_trans (mul-le-mul h k) (le_of_eq (shuffle a b)))
      where
        shuffle : (a b : ℕ) → a * 16 * (b * 2) ≡ a * b * 32
        shuffle a b = omega arith

    at : (t : Bool) → Within 1 (mul binary64 (fin t m e) (fin false u.frac.m u.frac.e)) → AtLeast 1 32 (mul binary64 (fin t m e) (fin false u.frac.m u.frac.e))
    at t w =
        unfold mul in (round-at-least (unlike t false) (m * up e * (u.frac.m * up u.frac.e)) (down e * down u.frac.e) 1 32 1 (mul-pos (down_pos e) (down_pos u.frac.e)) (lit< tt) small_is
        (both (m * up e) (down e) (u.frac.m * up u.frac.e) (down u.frac.e) p.least u.half) w)

zero_cos : (s : Bool) (r : Float) → Within 1 r → Beyond 32 (reduced_of (fin s 0 (pos 0)) r).cos
unfolding reduced_of quarter_of
zero_cos true r w = upper_beyond (series_from Cosine (mul binary64 r r) 8 one) (series_upper Cosine 7 (mul binary64 r r) one (lit≤ tt) (square_frac r w) one_frac)
zero_cos false r w = upper_beyond (series_from Cosine (mul binary64 r r) 8 one) (series_upper Cosine 7 (mul binary64 r r) one (lit≤ tt) (square_frac r w) one_frac)

one_cos : (s : Bool) (r : Float) → Rest r → Beyond 32 (reduced_of (fin s 1 (pos 0)) r).cos
unfolding reduced_of quarter_of
one_cos true r p = product_beyond r (series_from Sine (mul binary64 r r) 8 one) p (series_upper Sine 7 (mul binary64 r r) one (lit≤ tt) (square_frac r p.most) one_frac)
one_cos false r p =
    beyond_neg 32 (mul binary64 r (series_from Sine (mul binary64 r r) 8 one)) (product_beyond r (series_from Sine (mul binary64 r r) 8 one) p (series_upper Sine 7 (mul binary64 r r) one (lit≤ tt) (square_frac r p.most) one_frac))

in_cos : (s : Bool) (m : ℕ) (e : ℤ) → m * up e * 2 ≤ 3 * down e → Beyond 32 (sincos_in (fin s m e)).cos
unfolding sincos_in
in_cos s m e h = go (quot s m e h)
  where
    go : Quot s m e → Beyond 32 (reduced_of (round_away (div binary64 (fin s m e) H)) (sub binary64 (fin s m e) (mul binary64 (round_away (div binary64 (fin s m e) H)) H))).cos
    go t = subst (λ (y : Float). Beyond 32 (reduced_of (round_away y) (sub binary64 (fin s m e) (mul binary64 (round_away y) H))).cos) (sym t.is) (by (dec_le (down t.g) (t.n * up t.g * 2)))
      where
        by : Dec (down t.g ≤ t.n * up t.g * 2) → Beyond 32 (reduced_of (round_away (fin s t.n t.g)) (sub binary64 (fin s m e) (mul binary64 (round_away (fin s t.n t.g)) H))).cos
        by (yes l) =
            subst (λ (q : Float). Beyond 32 (reduced_of q (sub binary64 (fin s m e) (mul binary64 q H))).cos) (sym (away_one s t.n t.g l t.most))
            (subst (λ (y : Float). Beyond 32 (reduced_of (fin s 1 (pos 0)) (sub binary64 (fin s m e) y)).cos) (sym (one_turn s))
            (one_cos s (sub binary64 (fin s m e) (fin s hm (negsuc 48))) (rest-one s m e h (high_case s m e t.n t.g t.value l))))
        by (no l) =
            subst (λ (q : Float). Beyond 32 (reduced_of q (sub binary64 (fin s m e) (mul binary64 q H))).cos) (sym (away_zero s t.n t.g (lt_of_not-le l)))
            (subst (λ (y : Float). Beyond 32 (reduced_of (fin s 0 (pos 0)) (sub binary64 (fin s m e) y)).cos) (sym (zero_turn s))
            (zero_cos s (sub binary64 (fin s m e) (fin s 0 (pos 0)))
            (sub_within 1 0 (fin s m e) (fin s 0 (pos 0)) (held_small 1 (lit< tt)) (le_trans (low_case s m e t.n t.g t.value (lt_of_not-le l) t.most) (le_of_eq (sym (one-mul (down e))))) (lit≤ tt))))

-- no test of the size 1000 holds
past : (s : Bool) (m : ℕ) (e : ℤ) → m * up e * 2 ≤ 3 * down e → (lt thousand (fin s m e) ≡ false) × (lt (fin s m e) (neg thousand) ≡ false)
unfolding lt neg of_bits
past true m e h = (refl, le-ltb (125 * 2 ^ 3 * down e) (m * up e * 1) (room (m * up e) (down e) h))
  where
    room : (a d : ℕ) → a * 2 ≤ 3 * d → a * 1 ≤ 125 * 2 ^ 3 * d
    room a d h = omega arith
past false m e h = (le-ltb (125 * 2 ^ 3 * down e) (m * up e * 1) (room (m * up e) (down e) h), refl)
  where
    room : (a d : ℕ) → a * 2 ≤ 3 * d → a * 1 ≤ 125 * 2 ^ 3 * d
    room a d h = omega arith

pub cos_beyond : (a : Float) → Under 3 2 a → Beyond 32 (sincos_of a).cos
unfolding sincos_of
cos_beyond nan u = absurd u
cos_beyond (inf s) u = absurd u
cos_beyond (fin s m e) u =
    let p = past s m e u in
    let t : lt thousand (fin s m e) || lt (fin s m e) (neg thousand) ≡ false = ap (λ (b : Bool). b || lt (fin s m e) (neg thousand)) p.0 ∙ p.1 in
    subst (λ (b : Bool). Beyond 32 (cond b (record { sin = plus_zero; cos = plus_zero }) (sincos_in (fin s m e))).cos) (sym t) (in_cos s m e u)

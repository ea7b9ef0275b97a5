-- The computed sin t and cos t are at most 1 in size, for every t up to 1000. Rounding moves a value by 1 / 64 at most, since multiples of 1 / 64 are exact; so r = t - q H is at most 1 in size, and the series do the rest.
use Rattle.std.proofs.Common.{◌≡◌, ℕ, zero, suc, ◌+◌, ◌-◌, ◌*◌, ◌/◌, ◌^◌, ◌<◌, ◌≤◌, Bool, true, false, cond, not, ◌&&◌, ◌||◌, T, ltb, ◌⊎◌, ℤ, negsuc, sym, refl, ap, ◌∙◌, subst, inl, inr, le_trans, le_of_eq, lt_of_lt_of_le, le_of_lt, add-le-add, mul-le-mul_right, mul_assoc, mul_comm, div-lt_iff_lt-mul, add-mul, mul-lt-mul_of_pos_right, mul-pos, one-mul, mul-one, mul_right_comm, div-mul-le_self, le_of_mul-le-mul_right, arith, lit<, lit≤, pow_pos}
use lib.Ieee.{Float, nan, inf, fin, binary64, up, down, round, neg, sum, sub, mul, div, lt, unlike, of_bits}
use lib.Ieee.Fits.{down_pos}
use lib.Ieee.Exact.{HasValue, round_exact}
use lib.Ieee.Back.{round_whole}
use lib.Ieee.Order.{kept, drop}
use lib.Ieee.Scale.{round_same}
use Rattle.numbers.specs.Constants.{plus_zero, one, thousand, H}
use Rattle.numbers.specs.Round.{round_away}
use Rattle.numbers.specs.Trig.{series_from, quarter_of, turned, reduced_of, sincos_in, sincos_of}
use Rattle.numbers.specs.declared.trig.Series.TheVariants.{Sine, Cosine}
use Rattle.numbers.specs.declared.trig.SinCos.{SinCos}
use Rattle.numbers.specs.Within.{Within}
use Rattle.numbers.proofs.Magnitude.{units_shape, round_within, held_small, held_pow, neg_within, mul_within, between, zero_within}
use Rattle.numbers.proofs.Fractions.{Under, AtLeast, round_under, round-at-least}
use Rattle.numbers.proofs.trig.Terms.{one_frac, square_frac, series_upper, upper_within}
use Rattle.numbers.proofs.trig.Cosine.{hm, quot_at}

-- ---- rounding moves a value by 1 / 64 at most
grid_is : (k : ℕ) → k < 2 ^ 53 → HasValue (round binary64 false k 64) false k 64
grid_is k h =
    round_exact binary64 false k 64 k 1068 (lit< tt) h
    (lt_of_lt_of_le (mul-lt-mul_of_pos_right h (pow_pos 1068)) (lit≤ tt))
    (sym (mul_assoc k (2 ^ 1068) 64))

-- x is a / d with the sign s, as rounded: at most 1 / 64 more, and at most 1 / 64 less
record Close (s : Bool) (a d : ℕ) (x : Float) : Type 0 where
  n : ℕ
  g : ℤ
  is : x ≡ fin s n g
  over : n * up g * 64 * d ≤ (64 * a + d) * down g
  under : 64 * a * down g ≤ (n * up g * 64 + down g) * d

close : (s : Bool) (a d : ℕ) → 0 < d → a ≤ 2 ^ 40 * d → Close s a d (round binary64 s a d)
unfolding round
close s a d D h = go (units_shape s (kept 53 (a * 2 ^ 1074) d) (drop 53 (a * 2 ^ 1074) d))
  where
    in_range : Within (2 ^ 40) (round binary64 s a d)
    in_range = round_within (2 ^ 40) s a d (held_pow 40 (lit< tt)) D h

    low : 64 * a / d * d ≤ 64 * a
    low = div-mul-le_self (64 * a) d

    high : 64 * a < (64 * a / d + 1) * d
    high = (div-lt_iff_lt-mul D).0 (next (64 * a / d))
      where
        next : (k : ℕ) → k < k + 1
        next k = omega arith

    few : 64 * a / d < 2 ^ 53 - 1
    few = (div-lt_iff_lt-mul D).1 (room a d D h)
      where
        room : (a d : ℕ) → 0 < d → a ≤ 2 ^ 40 * d → 64 * a < (2 ^ 53 - 1) * d
        room a d p h = omega arith

    least : AtLeast (64 * a / d) 64 (round binary64 s a d)
    least = round-at-least s a d (64 * a / d) 64 (2 ^ 40) D (lit< tt) (grid_is (64 * a / d) (let f = few in omega arith)) (le_trans low (le_of_eq (mul_comm 64 a))) in_range

    most : Under (64 * a / d + 1) 64 (round binary64 s a d)
    most = round_under s a d (64 * a / d + 1) 64 D (lit< tt) (grid_is (64 * a / d + 1) (let f = few in omega arith)) (le_trans (le_of_eq (mul_comm a 64)) (le_of_lt high))

    over_of : (p g : ℕ) → p * 64 ≤ (64 * a / d + 1) * g → p * 64 * d ≤ (64 * a + d) * g
    over_of p g l =
        le_trans (mul-le-mul_right d l)
        (le_trans (le_of_eq (mul_right_comm (64 * a / d + 1) g d))
        (mul-le-mul_right g (le_trans (le_of_eq (add-mul (64 * a / d) 1 d)) (add-le-add low (le_of_eq (one-mul d))))))

    under_of : (p g : ℕ) → 64 * a / d * g ≤ p * 64 → 64 * a * g ≤ (p * 64 + g) * d
    under_of p g l =
        le_trans (mul-le-mul_right g (le_of_lt high))
        (le_trans (le_of_eq (mul_right_comm (64 * a / d + 1) d g))
        (mul-le-mul_right d (le_trans (le_of_eq (add-mul (64 * a / d) 1 g)) (add-le-add l (le_of_eq (one-mul g))))))

    go : ((n : ℕ) × (g : ℤ) × (round binary64 s a d ≡ fin s n g)) ⊎ (round binary64 s a d ≡ inf s) → Close s a d (round binary64 s a d)
    go (inl y) = record { n = y.0; g = y.1; is = y.2; over = over_of (y.0 * up y.1) (down y.1) (subst (Under (64 * a / d + 1) 64) y.2 most); under = under_of (y.0 * up y.1) (down y.1) (subst (AtLeast (64 * a / d) 64) y.2 least) }
    go (inr y) = absurd (subst (Within (2 ^ 40)) y in_range)

-- ---- t / H and its whole number k, with P / G the quotient as rounded: |t / H - k| is at most 33 / 64. y / x is the exact quotient
far_up : (y x P G k : ℕ) → 0 < G → 64 * y * G ≤ (P * 64 + G) * x → 2 * P + G < (k + 1) * (2 * G) → 64 * y ≤ (64 * k + 33) * x
far_up y x P G k p u l =
    let m : P * 64 + G ≤ (64 * k + 33) * G = bound P G k l in
    le_of_mul-le-mul_right {m = 64 * y} {n = (64 * k + 33) * x} {k = G} (le_trans u (le_trans (mul-le-mul_right x m) (le_of_eq (mul_right_comm (64 * k + 33) G x)))) p
  where
    bound : (P G k : ℕ) → 2 * P + G < (k + 1) * (2 * G) → P * 64 + G ≤ (64 * k + 33) * G
    bound P G k l = omega arith

far_down : (y x P G k : ℕ) → 0 < G → P * 64 * x ≤ (64 * y + x) * G → k * (2 * G) ≤ 2 * P + G → 64 * k * x ≤ 64 * y + 33 * x
far_down y x P G k p o l =
    le_of_mul-le-mul_right {m = 64 * k * x} {n = 64 * y + 33 * x} {k = G}
    (le_trans (le_of_eq (mul_right_comm (64 * k) x G)) (le_trans (mul-le-mul_right x (bound P G k l)) (le_trans (le_of_eq (add-mul (P * 64) (32 * G) x)) (le_trans (add-le-add o (le_of_eq refl)) (le_of_eq (joined y x G))))))
    p
  where
    bound : (P G k : ℕ) → k * (2 * G) ≤ 2 * P + G → 64 * k * G ≤ P * 64 + 32 * G
    bound P G k l = omega arith

    joined : (y x G : ℕ) → (64 * y + x) * G + 32 * G * x ≡ (64 * y + 33 * x) * G
    joined y x G = omega arith

-- T / E is t, h / d is H, Q / F is k H as rounded: |T / E - Q / F| is at most 1
up_to : (T E k h d Q F : ℕ) → 0 < d → 33 * h ≤ 52 * d → 64 * (T * d) ≤ (64 * k + 33) * (h * E) → 64 * (k * h) * F ≤ (Q * 64 + F) * d → T * F ≤ Q * E + E * F
up_to T E k h d Q F p c a u =
    let a' : 64 * (T * d) * F ≤ (64 * k + 33) * (h * E) * F = mul-le-mul_right F a in
    let u' : 64 * (k * h) * F * E ≤ (Q * 64 + F) * d * E = mul-le-mul_right E u in
    let c' : 33 * h * (E * F) ≤ 52 * d * (E * F) = mul-le-mul_right (E * F) c in
    le_of_mul-le-mul_right {m = T * F} {n = Q * E + E * F} {k = d}
    (last (64 * (T * d) * F) ((64 * k + 33) * (h * E) * F) (64 * (k * h) * F * E) ((Q * 64 + F) * d * E) (33 * h * (E * F)) (52 * d * (E * F)) (T * F * d) (Q * E * d) (E * F * d) ((Q * E + E * F) * d) a' u' c' (e1 T d F) (e2 k h E F) (e3 Q F d E) (e4 d E F) (add-mul (Q * E) (E * F) d)) p
  where
    e1 : (T d F : ℕ) → 64 * (T * d) * F ≡ 64 * (T * F * d)
    e1 T d F = omega arith

    e2 : (k h E F : ℕ) → (64 * k + 33) * (h * E) * F ≡ 64 * (k * h) * F * E + 33 * h * (E * F)
    e2 k h E F = omega arith

    e3 : (Q F d E : ℕ) → (Q * 64 + F) * d * E ≡ 64 * (Q * E * d) + E * F * d
    e3 Q F d E = omega arith

    e4 : (d E F : ℕ) → 52 * d * (E * F) ≡ 52 * (E * F * d)
    e4 d E F = omega arith

    last : (l r m n c c' t q f w : ℕ) → l ≤ r → m ≤ n → c ≤ c' → l ≡ 64 * t → r ≡ m + c → n ≡ 64 * q + f → c' ≡ 52 * f → w ≡ q + f → t ≤ w
    last l r m n c c' t q f w i1 i2 i3 e1 e2 e3 e4 e5 = omega arith

down_to : (T E k h d Q F : ℕ) → 0 < d → 33 * h ≤ 52 * d → 64 * k * (h * E) ≤ 64 * (T * d) + 33 * (h * E) → Q * 64 * d ≤ (64 * (k * h) + d) * F → Q * E ≤ T * F + E * F
down_to T E k h d Q F p c b o =
    let b' : 64 * k * (h * E) * F ≤ (64 * (T * d) + 33 * (h * E)) * F = mul-le-mul_right F b in
    let o' : Q * 64 * d * E ≤ (64 * (k * h) + d) * F * E = mul-le-mul_right E o in
    let c' : 33 * h * (E * F) ≤ 52 * d * (E * F) = mul-le-mul_right (E * F) c in
    le_of_mul-le-mul_right {m = Q * E} {n = T * F + E * F} {k = d}
    (last (64 * k * (h * E) * F) ((64 * (T * d) + 33 * (h * E)) * F) (Q * 64 * d * E) ((64 * (k * h) + d) * F * E) (33 * h * (E * F)) (52 * d * (E * F)) (Q * E * d) (T * F * d) (E * F * d) ((T * F + E * F) * d) b' o' c' (e1 T d h E F) (e2 Q d E) (e3 k h d E F) (e4 d E F) (add-mul (T * F) (E * F) d)) p
  where
    e1 : (T d h E F : ℕ) → (64 * (T * d) + 33 * (h * E)) * F ≡ 64 * (T * F * d) + 33 * h * (E * F)
    e1 T d h E F = omega arith

    e2 : (Q d E : ℕ) → Q * 64 * d * E ≡ 64 * (Q * E * d)
    e2 Q d E = omega arith

    e3 : (k h d E F : ℕ) → (64 * (k * h) + d) * F * E ≡ 64 * k * (h * E) * F + E * F * d
    e3 k h d E F = omega arith

    e4 : (d E F : ℕ) → 52 * d * (E * F) ≡ 52 * (E * F * d)
    e4 d E F = omega arith

    last : (b r o s c c' q t f w : ℕ) → b ≤ r → o ≤ s → c ≤ c' → r ≡ 64 * t + c → o ≡ 64 * q → s ≡ b + f → c' ≡ 52 * f → w ≡ t + f → q ≤ w
    last b r o s c c' q t f w i1 i2 i3 e1 e2 e3 e4 e5 = omega arith

-- ---- the product k H
product_at : (s : Bool) (k : ℕ) → k ≤ 2 ^ 53 → mul binary64 (round binary64 s k 1) H ≡ round binary64 s (k * hm) (2 ^ 49)
product_at s k h = go (round binary64 s k 1) (round_whole binary64 s k h)
  where
    H_is : H ≡ fin false hm (negsuc 48)
    H_is = unfold of_bits in refl

    same : (t : Bool) → unlike t false ≡ t
    same true = refl
    same false = refl

    go : (x : Float) → HasValue x s k 1 → mul binary64 x H ≡ round binary64 s (k * hm) (2 ^ 49)
    go nan v = absurd v
    go (inf t) v = absurd v
    go (fin t m e) v =
        ap (mul binary64 (fin t m e)) H_is ∙ at ∙ ap (λ (b : Bool). round binary64 b (m * up e * (hm * 1)) (down e * 2 ^ 49)) (same t ∙ v.0)
        ∙ round_same binary64 s (m * up e * (hm * 1)) (down e * 2 ^ 49) (k * hm) (2 ^ 49) (mul-pos (down_pos e) (lit< tt)) (lit< tt) (cross (m * up e) (down e) k v.1)
      where
        at : mul binary64 (fin t m e) (fin false hm (negsuc 48)) ≡ round binary64 (unlike t false) (m * up e * (hm * 1)) (down e * 2 ^ 49)
        at = unfold mul in refl

        cross : (a d k : ℕ) → a * 1 ≡ k * d → a * (hm * 1) * 2 ^ 49 ≡ k * hm * (d * 2 ^ 49)
        cross a d k e = ap (λ (z : ℕ). z * (hm * 1) * 2 ^ 49) (sym (mul-one a) ∙ e) ∙ shuffle k d hm (2 ^ 49)
          where
            shuffle : (k d h z : ℕ) → k * d * (h * 1) * z ≡ k * h * (d * z)
            shuffle k d h z = omega arith

-- ---- the difference
cond_within : (b : Bool) (x y : Float) → (T b → Within 1 x) → (T (not b) → Within 1 y) → Within 1 (cond b x y)
cond_within true x y p q = p tt
cond_within false x y p q = q tt

difference : (s : Bool) (A B c : ℕ) → 0 < c → A ≤ B + c → B ≤ A + c → Within 1 (sum binary64 s A (not s) B c)
unfolding sum
difference true A B c p h k = cond_within (ltb A B) (round binary64 false (B - A) c) (round binary64 (true && ltb B A) (A - B) c) (λ t. round_within 1 false (B - A) c (held_small 1 (lit< tt)) p (omega arith)) (λ t. round_within 1 (true && ltb B A) (A - B) c (held_small 1 (lit< tt)) p (omega arith))
difference false A B c p h k = cond_within (ltb A B) (round binary64 true (B - A) c) (round binary64 (false && ltb B A) (A - B) c) (λ t. round_within 1 true (B - A) c (held_small 1 (lit< tt)) p (omega arith)) (λ t. round_within 1 (false && ltb B A) (A - B) c (held_small 1 (lit< tt)) p (omega arith))

sub_at : (s : Bool) (m : ℕ) (e : ℤ) (n : ℕ) (g : ℤ) → m * up e * down g ≤ n * up g * down e + down e * down g → n * up g * down e ≤ m * up e * down g + down e * down g → Within 1 (sub binary64 (fin s m e) (fin s n g))
unfolding sub
sub_at s m e n g h k = difference s (m * up e * down g) (n * up g * down e) (down e * down g) (mul-pos (down_pos e) (down_pos g)) h k

-- ---- r = t - q H
whole_of : (P G : ℕ) → 0 < G → (2 * P + G < ((2 * P + G) / (2 * G) + 1) * (2 * G)) × ((2 * P + G) / (2 * G) * (2 * G) ≤ 2 * P + G)
whole_of P G p = ((div-lt_iff_lt-mul (mul-pos (lit< tt) p)).0 (next ((2 * P + G) / (2 * G))), div-mul-le_self (2 * P + G) (2 * G))
  where
    next : (k : ℕ) → k < k + 1
    next k = omega arith

rest_in : (s : Bool) (m : ℕ) (e : ℤ) → m * up e ≤ 1000 * down e → Within 1 (sub binary64 (fin s m e) (mul binary64 (round_away (div binary64 (fin s m e) H)) H))
unfolding round_away
rest_in s m e h =
    let c = close s (m * up e * 2 ^ 49) (hm * 1 * down e) pos_d (room (m * up e) (down e) h) in
    subst (λ (y : Float). Within 1 (sub binary64 (fin s m e) (mul binary64 (round_away y) H))) (sym (quot_at s m e ∙ c.is)) (at c)
  where
    pos_d : 0 < hm * 1 * down e
    pos_d = mul-pos (lit< {m = 0} {n = hm * 1} tt) (down_pos e)

    room : (a d : ℕ) → a ≤ 1000 * d → a * 2 ^ 49 ≤ 2 ^ 40 * (hm * 1 * d)
    room a d h = omega arith

    close_room : (a d : ℕ) → a ≤ 1000 * d → a * 2 ^ 49 ≤ 1000 * (hm * 1 * d)
    close_room a d h = omega arith

    at : (c : Close s (m * up e * 2 ^ 49) (hm * 1 * down e) (round binary64 s (m * up e * 2 ^ 49) (hm * 1 * down e))) → Within 1 (sub binary64 (fin s m e) (mul binary64 (round_away (fin s c.n c.g)) H))
    at c =
        let P = c.n * up c.g in
        let G = down c.g in
        let k = (2 * P + G) / (2 * G) in
        let small : P ≤ 1000 * G = subst (Within 1000) c.is (round_within 1000 s (m * up e * 2 ^ 49) (hm * 1 * down e) (held_small 1000 (lit< tt)) pos_d (close_room (m * up e) (down e) h)) in
        let few : k < 1001 = (div-lt_iff_lt-mul (mul-pos (lit< tt) (down_pos c.g))).1 (under_1001 P G (down_pos c.g) small) in
        let w = whole_of P G (down_pos c.g) in
        let q = close s (k * hm) (2 ^ 49) (lit< tt) (le_trans (mul-le-mul_right hm (le_of_lt few)) (lit≤ tt)) in
        subst (λ (y : Float). Within 1 (sub binary64 (fin s m e) y)) (sym (product_at s k (le_trans (le_of_lt few) (lit≤ tt)) ∙ q.is))
        (sub_at s m e q.n q.g
        (up_to (m * up e) (down e) k hm (2 ^ 49) (q.n * up q.g) (down q.g) (lit< tt) (lit≤ tt) (far_up (m * up e * 2 ^ 49) (hm * down e) P G k (down_pos c.g) c.under w.0) q.under)
        (down_to (m * up e) (down e) k hm (2 ^ 49) (q.n * up q.g) (down q.g) (lit< tt) (lit≤ tt) (far_down (m * up e * 2 ^ 49) (hm * down e) P G k (down_pos c.g) c.over w.1) q.over))
      where
        under_1001 : (P G : ℕ) → 0 < G → P ≤ 1000 * G → 2 * P + G < 1001 * (2 * G)
        under_1001 P G p h = omega arith

-- ---- sin and cos
abbrev pub Both : ℕ → SinCos → Type 0
Both B a = Within B a.sin × Within B a.cos

turned_in : (k B : ℕ) (s c : Float) → Within B s → Within B c → Both B (turned k s c)
turned_in zero B s c v w = (v, w)
turned_in (suc zero) B s c v w = (w, neg_within B s v)
turned_in (suc (suc zero)) B s c v w = (neg_within B s v, neg_within B c w)
turned_in (suc (suc (suc k))) B s c v w = (neg_within B c w, v)

reduced_one : (q r : Float) → Within 1 r → Both 1 (reduced_of q r)
unfolding reduced_of
reduced_one q r h =
    let w = mul binary64 r r in
    turned_in (quarter_of q) 1 (mul binary64 r (series_from Sine w 8 one)) (series_from Cosine w 8 one)
    (mul_within 1 1 r (series_from Sine w 8 one) (held_small 1 (lit< tt)) h (upper_within (series_from Sine w 8 one) (series_upper Sine 7 w one (lit≤ tt) (square_frac r h) one_frac)))
    (upper_within (series_from Cosine w 8 one) (series_upper Cosine 7 w one (lit≤ tt) (square_frac r h) one_frac))

in_one : (t : Float) → Within 1000 t → Both 1 (sincos_in t)
unfolding sincos_in
in_one nan w = absurd w
in_one (inf s) w = absurd w
in_one (fin s m e) w = reduced_one (round_away (div binary64 (fin s m e) H)) (sub binary64 (fin s m e) (mul binary64 (round_away (div binary64 (fin s m e) H)) H)) (rest_in s m e w)

thousand_is : HasValue thousand false 1000 1
unfolding of_bits
thousand_is = (refl, refl)

pub sin_cos_one : (t : Float) → (t ≡ nan → ⊥) → Both 1 (sincos_of t)
unfolding sincos_of
sin_cos_one t n = go (lt thousand t) (lt t (neg thousand)) refl refl
  where
    go : (a b : Bool) → lt thousand t ≡ a → lt t (neg thousand) ≡ b → Both 1 (cond (a || b) (record { sin = plus_zero; cos = plus_zero }) (sincos_in t))
    go true b p q = (zero_within 1, zero_within 1)
    go false true p q = (zero_within 1, zero_within 1)
    go false false p q = inner (between 1000 thousand t thousand_is p q)
      where
        inner : Within 1000 t ⊎ (t ≡ nan) → Both 1 (sincos_in t)
        inner (inl w) = in_one t w
        inner (inr e) = absurd (n e)

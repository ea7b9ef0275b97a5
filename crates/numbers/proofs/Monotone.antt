-- Sums, differences, products and quotients keep the order of their operands, each result being rounded once: overflow to an infinity, subnormal results and signed zeros included. Assumes nothing.
use Rattle.std.proofs.Common.{◌≡◌, ℕ, zero, suc, ◌+◌, ◌-◌, ◌*◌, ◌^◌, ◌<◌, ◌≤◌, Bool, true, false, cond, not, ◌&&◌, T, eqb, ltb, ℤ, pos, sym, refl, ap, ◌∙◌, subst, true≢false, lt_irrefl, mul-le-mul_right, zero-lt-suc, mul_comm, add-mul, mul-pos, zero-mul, arith, ltb→lt, nltb→le}
use lib.Dec.{eqb-suc-zero}
use lib.Ieee.{Float, nan, inf, fin, Format, up, down, round, neg, sum, add, sub, mul, div, le, unlike, of_int, prec}
use lib.Ieee.Fits.{up_pos, down_pos}
use lib.Ieee.Exact.{HasValue}
use lib.Ieee.Back.{round_whole}
use lib.Ieee.Order.{round_mono}
use lib.Ieee.Scale.{finite}
use lib.Ieee.Positive.{den, den_pos}
use Rattle.numbers.proofs.Signed.{keep, turn, plus, less, Rounded, above, under, number, le→cross, le_top, le_bottom, top_le, le_numbers, finite_number, le-neg, le_refl, rounded_number, rounded_mono, zero_is}

abbrev pub Zero : Float
Zero = fin false 0 (pos 0)

-- ---- a sum
-- ±a / c and ±b / c, added
sum_rounded : (f : Format) (s : Bool) (a : ℕ) (t : Bool) (b c : ℕ) → Rounded f (sum f s a t b c) (keep s a + keep t b) (turn s a + turn t b) c
unfolding sum
sum_rounded f false a false b c = above (a + b) (omega arith) refl
sum_rounded f true a true b c = under (a + b) (omega arith) refl
sum_rounded f false a true b c = go (ltb a b) (ltb→lt a b) (nltb→le a b)
  where
    go : (w : Bool) → (T w → a < b) → (T (not w) → b ≤ a) → Rounded f (cond w (round f true (b - a) c) (round f false (a - b) c)) (a + 0) (0 + b) c
    go true h k = let l = h tt in under (b - a) (omega arith) refl
    go false h k = let l = k tt in above (a - b) (omega arith) refl
sum_rounded f true a false b c = go (ltb a b) (ltb b a) (ltb→lt a b) (nltb→le a b) (ltb→lt b a) (nltb→le b a)
  where
    go : (w v : Bool) → (T w → a < b) → (T (not w) → b ≤ a) → (T v → b < a) → (T (not v) → a ≤ b) → Rounded f (cond w (round f false (b - a) c) (round f (true && v) (a - b) c)) (0 + b) (a + 0) c
    go true v h k i j = let l = h tt in above (b - a) (omega arith) refl
    go false true h k i j = let l = i tt in under (a - b) (omega arith) refl
    go false false h k i j = let l = k tt in let m = j tt in above (a - b) (omega arith) refl

keep-mul : (s : Bool) (a k : ℕ) → keep s (a * k) ≡ keep s a * k
keep-mul false a k = refl
keep-mul true a k = sym (zero-mul k)

turn_mul : (s : Bool) (a k : ℕ) → turn s (a * k) ≡ turn s a * k
turn_mul false a k = sym (zero-mul k)
turn_mul true a k = refl

pub add_rounded : (f : Format) (x y : Float) → T (finite x) → T (finite y) → Rounded f (add f x y) (plus x * den y + plus y * den x) (less x * den y + less y * den x) (den x * den y)
unfolding add
add_rounded f nan y p q = absurd p
add_rounded f (inf s) y p q = absurd p
add_rounded f (fin s m e) nan p q = absurd q
add_rounded f (fin s m e) (inf t) p q = absurd q
add_rounded f (fin s m e) (fin t n d) p q =
    rw (← keep-mul s (m * up e) (down d), ← keep-mul t (n * up d) (down e), ← turn_mul s (m * up e) (down d), ← turn_mul t (n * up d) (down e))
    (sum_rounded f s (m * up e * down d) t (n * up d * down e) (down e * down d))

pub add-number : (f : Format) (x y : Float) → T (finite x) → T (finite y) → T (number (add f x y))
add-number f x y p q = rounded_number f (add f x y) (plus x * den y + plus y * den x) (less x * den y + less y * den x) (den x * den y) (add_rounded f x y p q)

-- the parts of `add_cross`, with few names each
spread : (a b c d g h : ℕ) → (a * b + c * d) * (g * h) ≡ a * g * (b * h) + c * h * (d * g)
spread a b c d g h = omega arith

split : (a b c d k : ℕ) → a + b ≤ c + d → a * k + b * k ≤ c * k + d * k
split a b c d k h = rw (← add-mul a b k, ← add-mul c d k) (mul-le-mul_right k h)

joined : (l₁ l₂ r₁ r₂ a₁ a₂ a₃ a₄ b₁ b₂ b₃ b₄ : ℕ) → l₁ ≡ a₁ + b₁ → l₂ ≡ a₂ + b₂ → r₁ ≡ a₃ + b₃ → r₂ ≡ a₄ + b₄ → a₁ + a₂ ≤ a₃ + a₄ → b₁ + b₂ ≤ b₃ + b₄ → l₁ + l₂ ≤ r₁ + r₂
joined l₁ l₂ r₁ r₂ a₁ a₂ a₃ a₄ b₁ b₂ b₃ b₄ p q r s h k = omega arith

add_cross : (px qx dx py qy dy pz qz dz pw qw dw : ℕ) → px * dz + qz * dx ≤ pz * dx + qx * dz → py * dw + qw * dy ≤ pw * dy + qy * dw
    → (px * dy + py * dx) * (dz * dw) + (qz * dw + qw * dz) * (dx * dy) ≤ (pz * dw + pw * dz) * (dx * dy) + (qx * dy + qy * dx) * (dz * dw)
add_cross px qx dx py qy dy pz qz dz pw qw dw h k =
    joined ((px * dy + py * dx) * (dz * dw)) ((qz * dw + qw * dz) * (dx * dy)) ((pz * dw + pw * dz) * (dx * dy)) ((qx * dy + qy * dx) * (dz * dw))
    (px * dz * (dy * dw)) (qz * dx * (dy * dw)) (pz * dx * (dy * dw)) (qx * dz * (dy * dw))
    (py * dw * (dx * dz)) (qw * dy * (dx * dz)) (pw * dy * (dx * dz)) (qy * dw * (dx * dz))
    (spread px dy py dx dz dw) (spread qz dw qw dz dx dy ∙ turned (qz * dx) (qw * dy)) (spread pz dw pw dz dx dy ∙ turned (pz * dx) (pw * dy)) (spread qx dy qy dx dz dw)
    (split (px * dz) (qz * dx) (pz * dx) (qx * dz) (dy * dw) h) (split (py * dw) (qw * dy) (pw * dy) (qy * dw) (dx * dz) k)
  where
    turned : (a b : ℕ) → a * (dw * dy) + b * (dz * dx) ≡ a * (dy * dw) + b * (dx * dz)
    turned a b = rw (mul_comm dw dy, mul_comm dz dx)

-- both operands, all finite
add_mono_finite : (f : Format) (x x' y y' : Float) → T (finite x) → T (finite x') → T (finite y) → T (finite y') → T (le x x') → T (le y y') → T (le (add f x y) (add f x' y'))
add_mono_finite f x x' y y' p p' q q' h k =
    rounded_mono f (add f x y) (add f x' y') (plus x * den y + plus y * den x) (less x * den y + less y * den x) (den x * den y)
    (plus x' * den y' + plus y' * den x') (less x' * den y' + less y' * den x') (den x' * den y')
    (mul-pos (den_pos x) (den_pos y)) (mul-pos (den_pos x') (den_pos y')) (add_rounded f x y p q) (add_rounded f x' y' p' q')
    (add_cross (plus x) (less x) (den x) (plus y) (less y) (den y) (plus x') (less x') (den x') (plus y') (less y') (den y') (le→cross x x' p p' h).holds (le→cross y y' q q' k).holds)

-- c finite, and the other operand any number
pub add_mono_right : (f : Format) (c x y : Float) → T (finite c) → T (le x y) → T (le (add f c x) (add f c y))
add_mono_right f nan x y p h = absurd p
add_mono_right f (inf s) x y p h = absurd p
add_mono_right f (fin s m e) nan y p h = absurd (le_numbers nan y h).0
add_mono_right f (fin s m e) (inf true) y p h = unfold add in le_bottom (add f (fin s m e) y) (go y (le_numbers (inf true) y h).1)
  where
    go : (y : Float) → T (number y) → T (number (add f (fin s m e) y))
    go nan n = absurd n
    go (inf t) n = unfold add in tt
    go (fin t n d) k = add-number f (fin s m e) (fin t n d) tt tt
add_mono_right f (fin s m e) (inf false) y p h = subst (λ (z : Float). T (le (add f (fin s m e) (inf false)) (add f (fin s m e) z))) (sym (top_le y h)) (unfold add in (unfold le in tt))
add_mono_right f (fin s m e) (fin t n d) nan p h = absurd (le_numbers (fin t n d) nan h).1
add_mono_right f (fin s m e) (fin t n d) (inf true) p h = absurd (unfold le in h)
add_mono_right f (fin s m e) (fin t n d) (inf false) p h = unfold add in le_top (add f (fin s m e) (fin t n d)) (add-number f (fin s m e) (fin t n d) tt tt)
add_mono_right f (fin s m e) (fin t n d) (fin u o g) p h =
    add_mono_finite f (fin s m e) (fin s m e) (fin t n d) (fin u o g) tt tt tt tt (le_refl (fin s m e) tt) h

pub add_mono_left : (f : Format) (c x y : Float) → T (finite c) → T (finite x) → T (finite y) → T (le x y) → T (le (add f x c) (add f y c))
add_mono_left f c x y p q r h = add_mono_finite f x y c c q r p p h (le_refl c (finite_number c p))

neg-finite : (x : Float) → T (finite x) → T (finite (neg x))
unfolding neg
neg-finite nan h = h
neg-finite (inf s) h = absurd h
neg-finite (fin s m e) h = tt

pub sub_anti_right : (f : Format) (c x y : Float) → T (finite c) → T (le x y) → T (le (sub f c y) (sub f c x))
unfolding sub
sub_anti_right f c x y p h = add_mono_right f c (neg y) (neg x) p (le-neg x y h)

-- ---- a product
unlike_rounded : (f : Format) (s t : Bool) (a b c : ℕ) → Rounded f (round f (unlike s t) (a * b) c) (keep s a * keep t b + turn s a * turn t b) (keep s a * turn t b + turn s a * keep t b) c
unlike_rounded f false false a b c = above (a * b) (omega arith) refl
unlike_rounded f false true a b c = under (a * b) (omega arith) refl
unlike_rounded f true false a b c = under (a * b) (omega arith) refl
unlike_rounded f true true a b c = above (a * b) (omega arith) refl

pub mul_rounded : (f : Format) (x y : Float) → T (finite x) → T (finite y) → Rounded f (mul f x y) (plus x * plus y + less x * less y) (plus x * less y + less x * plus y) (den x * den y)
unfolding mul
mul_rounded f nan y p q = absurd p
mul_rounded f (inf s) y p q = absurd p
mul_rounded f (fin s m e) nan p q = absurd q
mul_rounded f (fin s m e) (inf t) p q = absurd q
mul_rounded f (fin s m e) (fin t n d) p q = unlike_rounded f s t (m * up e) (n * up d) (down e * down d)

mul_cross : (pc qc dc px qx dx py qy dy : ℕ) → qc ≤ pc → px * dy + qy * dx ≤ py * dx + qx * dy
    → (pc * px + qc * qx) * (dc * dy) + (pc * qy + qc * py) * (dc * dx) ≤ (pc * py + qc * qy) * (dc * dx) + (pc * qx + qc * px) * (dc * dy)
mul_cross pc qc dc px qx dx py qy dy g h =
    let k = pc - qc in
    let e : pc ≡ qc + k = omega arith in
    let a : (px * dy + qy * dx) * (k * dc) ≤ (py * dx + qx * dy) * (k * dc) = mul-le-mul_right (k * dc) h in
    rw e (open' k a)
  where
    open' : (k : ℕ) → (px * dy + qy * dx) * (k * dc) ≤ (py * dx + qx * dy) * (k * dc) → ((qc + k) * px + qc * qx) * (dc * dy) + ((qc + k) * qy + qc * py) * (dc * dx) ≤ ((qc + k) * py + qc * qy) * (dc * dx) + ((qc + k) * qx + qc * px) * (dc * dy)
    open' k a = omega arith

-- c is not negative; a zero may have either sign
pub plus_most : (c : Float) → T (finite c) → T (le Zero c) → less c ≤ plus c
plus_most c p h = let k : 0 * den c + less c * 1 ≤ plus c * 1 + 0 * den c = (le→cross Zero c tt p h).holds in omega arith

pub mul_mono_right : (f : Format) (c x y : Float) → T (finite c) → T (le Zero c) → T (finite x) → T (finite y) → T (le x y) → T (le (mul f c x) (mul f c y))
mul_mono_right f c x y p g q r h =
    rounded_mono f (mul f c x) (mul f c y) (plus c * plus x + less c * less x) (plus c * less x + less c * plus x) (den c * den x)
    (plus c * plus y + less c * less y) (plus c * less y + less c * plus y) (den c * den y)
    (mul-pos (den_pos c) (den_pos x)) (mul-pos (den_pos c) (den_pos y)) (mul_rounded f c x p q) (mul_rounded f c y p r)
    (mul_cross (plus c) (less c) (den c) (plus x) (less x) (den x) (plus y) (less y) (den y) (plus_most c p g) (le→cross x y q r h).holds)

unlike_comm : (s t : Bool) → unlike s t ≡ unlike t s
unlike_comm false false = refl
unlike_comm false true = refl
unlike_comm true false = refl
unlike_comm true true = refl

pub mul_comm_finite : (f : Format) (x y : Float) → T (finite x) → T (finite y) → mul f x y ≡ mul f y x
unfolding mul
mul_comm_finite f nan y p q = absurd p
mul_comm_finite f (inf s) y p q = absurd p
mul_comm_finite f (fin s m e) nan p q = absurd q
mul_comm_finite f (fin s m e) (inf t) p q = absurd q
mul_comm_finite f (fin s m e) (fin t n d) p q =
    ap (λ (b : Bool). round f b (m * up e * (n * up d)) (down e * down d)) (unlike_comm s t)
    ∙ ap (λ (a : ℕ). round f (unlike t s) a (down e * down d)) (mul_comm (m * up e) (n * up d))
    ∙ ap (λ (a : ℕ). round f (unlike t s) (n * up d * (m * up e)) a) (mul_comm (down e) (down d))

pub mul_mono_left : (f : Format) (c x y : Float) → T (finite c) → T (le Zero c) → T (finite x) → T (finite y) → T (le x y) → T (le (mul f x c) (mul f y c))
mul_mono_left f c x y p g q r h = rw (mul_comm_finite f x c q p, mul_comm_finite f y c r p) (mul_mono_right f c x y p g q r h)

-- ---- a quotient by what is above zero
pub record Positive (c : Float) : Type 0 where
  pub size : ℕ
  pub expo : ℤ
  pub is : c ≡ fin false (suc size) expo

pub div-at : (f : Format) (s : Bool) (m : ℕ) (e : ℤ) (n : ℕ) (d : ℤ) → div f (fin s m e) (fin false (suc n) d) ≡ round f (unlike s false) (m * up e * down d) (suc n * up d * down e)
unfolding div
div-at f s m e n d = ap (λ (b : Bool). cond b (cond (eqb m 0) nan (inf (unlike s false))) (round f (unlike s false) (m * up e * down d) (suc n * up d * down e))) (eqb-suc-zero n)

quot_rounded : (f : Format) (s : Bool) (a c : ℕ) → Rounded f (round f (unlike s false) a c) (keep s a) (turn s a) c
quot_rounded f false a c = above a (omega arith) refl
quot_rounded f true a c = under a (omega arith) refl

div_fin_rounded : (f : Format) (s : Bool) (m : ℕ) (e : ℤ) (n : ℕ) (d : ℤ) → Rounded f (div f (fin s m e) (fin false (suc n) d)) (keep s (m * up e) * down d) (turn s (m * up e) * down d) (suc n * up d * down e)
div_fin_rounded f s m e n d =
    rw (div-at f s m e n d, ← keep-mul s (m * up e) (down d), ← turn_mul s (m * up e) (down d)) (quot_rounded f s (m * up e * down d) (suc n * up d * down e))

pub div_rounded : (f : Format) (x c : Float) → T (finite x) → Positive c → Rounded f (div f x c) (plus x * den c) (less x * den c) (plus c * den x)
div_rounded f nan c p q = absurd p
div_rounded f (inf s) c p q = absurd p
div_rounded f (fin s m e) c p q = rw q.is (div_fin_rounded f s m e q.size q.expo)

div_cross : (px qx dx py qy dy nc dc : ℕ) → px * dy + qy * dx ≤ py * dx + qx * dy
    → px * dc * (nc * dy) + qy * dc * (nc * dx) ≤ py * dc * (nc * dx) + qx * dc * (nc * dy)
div_cross px qx dx py qy dy nc dc h = let a = mul-le-mul_right (dc * nc) h in omega arith

div_inf : (f : Format) (s : Bool) (n : ℕ) (d : ℤ) → div f (inf s) (fin false n d) ≡ inf s
unfolding div
div_inf f true n d = refl
div_inf f false n d = refl

div-number : (f : Format) (x : Float) (n : ℕ) (d : ℤ) → T (number x) → T (number (div f x (fin false (suc n) d)))
div-number f nan n d h = absurd h
div-number f (inf s) n d h = rw (div_inf f s (suc n) d) tt
div-number f (fin s m e) n d h = rounded_number f (div f (fin s m e) (fin false (suc n) d)) (keep s (m * up e) * down d) (turn s (m * up e) * down d) (suc n * up d * down e) (div_fin_rounded f s m e n d)

div_mono_at : (f : Format) (n : ℕ) (d : ℤ) (x y : Float) → T (le x y) → T (le (div f x (fin false (suc n) d)) (div f y (fin false (suc n) d)))
div_mono_at f n d nan y h = absurd (le_numbers nan y h).0
div_mono_at f n d (inf true) y h = rw (div_inf f true (suc n) d) (le_bottom (div f y (fin false (suc n) d)) (div-number f y n d (le_numbers (inf true) y h).1))
div_mono_at f n d (inf false) y h = rw (top_le y h, div_inf f false (suc n) d) (unfold le in tt)
div_mono_at f n d (fin s m e) nan h = absurd (le_numbers (fin s m e) nan h).1
div_mono_at f n d (fin s m e) (inf true) h = absurd (unfold le in h)
div_mono_at f n d (fin s m e) (inf false) h = rw (div_inf f false (suc n) d) (le_top (div f (fin s m e) (fin false (suc n) d)) (div-number f (fin s m e) n d tt))
div_mono_at f n d (fin s m e) (fin t o g) h =
    rounded_mono f (div f (fin s m e) (fin false (suc n) d)) (div f (fin t o g) (fin false (suc n) d))
    (keep s (m * up e) * down d) (turn s (m * up e) * down d) (suc n * up d * down e)
    (keep t (o * up g) * down d) (turn t (o * up g) * down d) (suc n * up d * down g)
    (mul-pos (mul-pos (zero-lt-suc n) (up_pos d)) (down_pos e)) (mul-pos (mul-pos (zero-lt-suc n) (up_pos d)) (down_pos g))
    (div_fin_rounded f s m e n d) (div_fin_rounded f t o g n d)
    (div_cross (keep s (m * up e)) (turn s (m * up e)) (down e) (keep t (o * up g)) (turn t (o * up g)) (down g) (suc n * up d) (down d) (le→cross (fin s m e) (fin t o g) tt tt h).holds)

pub div_mono : (f : Format) (c x y : Float) → Positive c → T (le x y) → T (le (div f x c) (div f y c))
div_mono f c x y p h = rw p.is (div_mono_at f p.size p.expo x y h)

-- ---- whole numbers as floats
pub of_int_mono : (f : Format) (i j : ℕ) → i ≤ j → T (le (of_int f (pos i)) (of_int f (pos j)))
unfolding of_int
of_int_mono f i j h = round_mono f i 1 j 1 (zero-lt-suc 0) (zero-lt-suc 0) (omega arith)

-- ---- a difference as a signed fraction
neg_plus : (y : Float) → plus (neg y) ≡ less y
unfolding neg
neg_plus nan = refl
neg_plus (inf s) = refl
neg_plus (fin true m e) = refl
neg_plus (fin false m e) = refl

neg_less : (y : Float) → less (neg y) ≡ plus y
unfolding neg
neg_less nan = refl
neg_less (inf s) = refl
neg_less (fin true m e) = refl
neg_less (fin false m e) = refl

neg_den : (y : Float) → den (neg y) ≡ den y
unfolding neg
neg_den nan = refl
neg_den (inf s) = refl
neg_den (fin s m e) = refl

pub sub_rounded : (f : Format) (x y : Float) → T (finite x) → T (finite y) → Rounded f (sub f x y) (plus x * den y + less y * den x) (less x * den y + plus y * den x) (den x * den y)
unfolding sub
sub_rounded f x y p q = rw (← neg_plus y, ← neg_less y, ← neg_den y) (add_rounded f x (neg y) p (neg-finite y q))

pub zero_rounded : (f : Format) → Rounded f Zero 0 0 1
zero_rounded f = above 0 refl (sym (zero_is f false 1 (zero-lt-suc 0)))

-- y ≤ x makes x - y at least zero
pub sub_nonneg : (f : Format) (x y : Float) → T (finite x) → T (finite y) → T (le y x) → T (le Zero (sub f x y))
sub_nonneg f x y p q h =
    let k = (le→cross y x q p h).holds in
    rounded_mono f Zero (sub f x y) 0 0 1 (plus x * den y + less y * den x) (less x * den y + plus y * den x) (den x * den y) (zero-lt-suc 0) (mul-pos (den_pos x) (den_pos y)) (zero_rounded f) (sub_rounded f x y p q) (side (plus x * den y + less y * den x) (less x * den y + plus y * den x) (den x * den y) (turned (less x * den y) (plus y * den x) (plus x * den y + less y * den x) k))
  where
    side : (a b c : ℕ) → b ≤ a → 0 * c + b * 1 ≤ a * 1 + 0 * c
    side a b c h = omega arith

    turned : (a b c : ℕ) → b + a ≤ c → a + b ≤ c
    turned a b c h = omega arith

-- ---- a whole number as a float, up to 2 ^ prec
of_value : (x : Float) (n : ℕ) → HasValue x false n 1 → T (finite x)
of_value nan n v = v
of_value (inf s) n v = v
of_value (fin s m e) n v = tt

pub of_int_finite : (f : Format) (n : ℕ) → n ≤ 2 ^ prec f → T (finite (of_int f (pos n)))
unfolding of_int
of_int_finite f n h = of_value (round f false n 1) n (round_whole f false n h)

value_positive : (x : Float) (n : ℕ) → 0 < n → HasValue x false n 1 → Positive x
value_positive nan n p v = absurd v
value_positive (inf s) n p v = absurd v
value_positive (fin true m e) n p v = absurd (true≢false v.0)
value_positive (fin false zero e) n p v = absurd (none (up e) n (down e) p (down_pos e) v.1)
  where
    none : (u n d : ℕ) → 0 < n → 0 < d → 0 * u * 1 ≡ n * d → ⊥
    none u n d p q h = lt_irrefl 0 (subst (λ (z : ℕ). 0 < z) (sym h ∙ ap (λ (z : ℕ). z * 1) (zero-mul u)) (mul-pos p q))
value_positive (fin false (suc m) e) n p v = record { size = m; expo = e; is = refl }

pub of_int_positive : (f : Format) (n : ℕ) → 0 < n → n ≤ 2 ^ prec f → Positive (of_int f (pos n))
unfolding of_int
of_int_positive f n p h = value_positive (round f false n 1) n p (round_whole f false n h)

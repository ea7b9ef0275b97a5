-- Sums, products and quotients with a zero, its sign told.
use Rattle.std.proofs.Common.{◌≡◌, ℕ, zero, suc, ◌+◌, ◌-◌, ◌*◌, ◌/◌, ◌%◌, ◌^◌, ◌<◌, ◌≤◌, Bool, true, false, cond, not, ◌&&◌, ◌||◌, T, eqb, ltb, ◌⊎◌, ℤ, pos, sym, refl, ap, ◌∙◌, subst, inl, inr, ⊎_elim, add-zero, zero-lt-suc, mul-pos, mul-zero, zero-mul, mul-one, arith, le-ltb, lt-ltb, eq-eqb}
use Prim.Native.Nat.{compare}
use mathlib.Core.Bool.{beq}
use lib.Ieee.{Float, nan, inf, fin, binary64, up, down, low, prec, size, nearest, units, round, sum, add, sub, mul, neg, unlike, le, eq, level, fits, is_nan, of_bits, of_int}
use lib.Ieee.Fits.{up_pos, down_pos, round_is}
use lib.Ieee.Exact.{HasValue}
use lib.Ieee.Scale.{finite}
use Rattle.numbers.specs.Constants.{plus_zero}
use Rattle.numbers.specs.Rounded.{◌⊕◌, ◌⊖◌, ◌⊗◌, ◌⊘◌, count}
use Rattle.numbers.proofs.Reals.{exact, fits-digits, fits_under}
use Rattle.numbers.proofs.Signed.{zero_is, le_numbers, le→cross}
use Rattle.numbers.proofs.Equality.{and_both, or_left, or_right, eq_beq, eq_refl}
use Rattle.numbers.proofs.Magnitude.{units_shape}
use Rattle.numbers.proofs.Monotone.{Positive, div-at, of_int_positive}

-- a zero with its sign
abbrev pub nil : Bool → Float
nil s = fin s 0 (pos 0)

pub plus_zero_is : plus_zero ≡ nil false
unfolding of_bits
plus_zero_is = refl

pub count-zero : count 0 ≡ nil false
unfolding of_int
count-zero = zero_is binary64 false 1 (zero-lt-suc 0)

-- ---- products and quotients
round-zero : (s : Bool) (a c : ℕ) → a ≡ 0 → 0 < c → round binary64 (unlike s false) a c ≡ nil s
round-zero s a c e h = ap (λ (z : ℕ). round binary64 (unlike s false) z c) e ∙ zero_is binary64 (unlike s false) c h ∙ ap nil (same s)
  where
    same : (s : Bool) → unlike s false ≡ s
    same true = refl
    same false = refl

pub times_zero : (s : Bool) (m : ℕ) (e : ℤ) → fin s m e ⊗ nil false ≡ nil s
unfolding mul
times_zero s m e = round-zero s (m * up e * 0) (down e * 1) (mul-zero (m * up e)) (mul-pos (down_pos e) (zero-lt-suc 0))

pub zero_times : (s : Bool) (n : ℕ) (d : ℤ) → nil s ⊗ fin false n d ≡ nil s
unfolding mul
zero_times s n d = round-zero s (0 * (n * up d)) (1 * down d) (zero-mul (n * up d)) (mul-pos (zero-lt-suc 0) (down_pos d))

pub zero_over : (s : Bool) (c : Float) → Positive c → nil s ⊘ c ≡ nil s
zero_over s c p =
    let n = p.size in
    let d = p.expo in
    ap (λ (z : Float). nil s ⊘ z) p.is ∙ div-at binary64 s 0 (pos 0) n d
    ∙ round-zero s (0 * up (pos 0) * down d) (suc n * up d * down (pos 0)) (zero-mul (down d)) (mul-pos (mul-pos (zero-lt-suc n) (up_pos d)) (down_pos (pos 0)))

-- ---- sums
sum_some : (s t : Bool) (a c : ℕ) → 0 < a → sum binary64 s a t 0 c ≡ round binary64 s a c
unfolding sum
sum_some s t a c h = go s t
  where
    less : (s t : Bool) → cond (ltb a 0) (round binary64 t (0 - a) c) (round binary64 (s && ltb 0 a) (a - 0) c) ≡ round binary64 (s && true) a c
    less s t =
        let z : 0 ≤ a = omega arith in
        let d : a - 0 ≡ a = omega arith in
        ap (λ (b : Bool). cond b (round binary64 t (0 - a) c) (round binary64 (s && ltb 0 a) (a - 0) c)) (le-ltb a 0 z)
        ∙ ap (λ (b : Bool). round binary64 (s && b) (a - 0) c) (lt-ltb 0 a h) ∙ ap (λ (n : ℕ). round binary64 (s && true) n c) d

    go : (s t : Bool) → cond (beq s t) (round binary64 s (a + 0) c) (cond (ltb a 0) (round binary64 t (0 - a) c) (round binary64 (s && ltb 0 a) (a - 0) c)) ≡ round binary64 s a c
    go true true = ap (λ (n : ℕ). round binary64 true n c) (add-zero a)
    go true false = less true false
    go false true = less false true
    go false false = ap (λ (n : ℕ). round binary64 false n c) (add-zero a)

sum-none : (s t : Bool) (c : ℕ) → 0 < c → sum binary64 s 0 t 0 c ≡ nil (s && t)
unfolding sum
sum-none true true c h = zero_is binary64 true c h
sum-none true false c h = zero_is binary64 false c h
sum-none false true c h = zero_is binary64 false c h
sum-none false false c h = zero_is binary64 false c h

plus_at : (s : Bool) (m : ℕ) (e : ℤ) (b : Bool) (d : ℤ) → fin s m e ⊕ fin b 0 d ≡ sum binary64 s (m * up e * down d) b 0 (down e * down d)
unfolding add
plus_at s m e b d = rw (zero-mul (up d), zero-mul (down e))

-- what is not zero plus a zero: the zero's sign does not show
pub some_plus : (s : Bool) (m : ℕ) (e : ℤ) (b : Bool) (d : ℤ) → fin s (suc m) e ⊕ fin b 0 d ≡ round binary64 s (suc m * up e * down d) (down e * down d)
some_plus s m e b d = plus_at s (suc m) e b d ∙ sum_some s b (suc m * up e * down d) (down e * down d) (mul-pos (mul-pos (zero-lt-suc m) (up_pos e)) (down_pos d))

pub none_plus : (s : Bool) (e : ℤ) (b : Bool) (d : ℤ) → fin s 0 e ⊕ fin b 0 d ≡ nil (s && b)
none_plus s e b d = plus_at s 0 e b d ∙ rw (zero-mul (up e), zero-mul (down d)) (sum-none s b (down e * down d) (mul-pos (down_pos e) (down_pos d)))

-- ---- x + 0.0 is x as a number: -0.0 becomes 0.0, and all else stays
level_true : (t s : Bool) (a b : ℕ) → (t ≡ s) ⊎ (a ≡ 0) → a ≡ b → level t a s b ≡ true
level_true t s a b p q = and_both (eqb a b) (beq t s || eqb a 0) (eq-eqb a b q) (⊎_elim (λ e. or_left (beq t s) (eqb a 0) (eq_beq t s e)) (λ e. or_right (beq t s) (eqb a 0) (eq-eqb a 0 e)) p)

zero-eq : (b s : Bool) (e : ℤ) → eq (nil b) (fin s 0 e) ≡ true
unfolding eq
zero-eq b s e = level_true b s (0 * 1 * down e) (0 * up e * 1) (inr (omega arith)) (omega arith)

value-eq : (x : Float) (s : Bool) (m : ℕ) (e : ℤ) → HasValue x s (m * up e) (down e) → (eq x (fin s m e) ≡ true) × T (finite x)
unfolding eq
value-eq nan s m e v = absurd v
value-eq (inf t) s m e v = absurd v
value-eq (fin t n d) s m e v = (level_true t s (n * up d * down e) (m * up e * down d) (inl v.0) v.1, tt)

pub plus_zero_lem : (x : Float) → T (fits binary64 x) → T (finite x) → (eq (x ⊕ plus_zero) x ≡ true) × T (finite (x ⊕ plus_zero))
plus_zero_lem nan f h = absurd h
plus_zero_lem (inf s) f h = absurd h
plus_zero_lem (fin s zero e) f h = rw (plus_zero_is, none_plus s e false (pos 0)) (zero-eq (s && false) s e, tt)
plus_zero_lem (fin s (suc m) e) f h =
    let a = suc m * up e in
    let q = fits-digits binary64 s (suc m) e f in
    let same : a * down e ≡ a * 2 ^ 0 * down e = ap (λ (z : ℕ). z * down e) (sym (mul-one a)) in
    let v : HasValue (round binary64 s a (down e)) s a (down e) = exact binary64 s (suc m) e 0 a (down e) q.0 q.1 (down_pos e) same (fits_under binary64 s (suc m) e f) in
    rw (plus_zero_is, some_plus s m e false (pos 0), mul-one a, mul-one (down e)) (value-eq (round binary64 s a (down e)) s (suc m) e v)

-- ---- differences
signed : Float → Bool
signed nan = false
signed (inf s) = s
signed (fin s m e) = s

round_sign : (s : Bool) (a c : ℕ) → signed (round binary64 s a c) ≡ s
unfolding signed
round_sign s a c =
    let k = size (a * 2 ^ low binary64 / c) - prec binary64 in
    ap signed (round_is binary64 s a c) ∙ of_units (nearest (a * 2 ^ low binary64 / (c * 2 ^ k)) (compare (a * 2 ^ low binary64 % (c * 2 ^ k) * 2) (c * 2 ^ k))) k
  where
    of_units : (q k : ℕ) → signed (units binary64 s q k) ≡ s
    of_units q k = ⊎_elim (λ p. ap signed p.2) (λ e. ap signed e) (units_shape s q k)

-- from -0.0 up to what is no less the difference has no sign
pub minus_negative_zero : (x : Float) (e : ℤ) (b : Bool) (m : ℕ) (d : ℤ) → T (le (fin true 0 e) x) → x ⊖ fin true 0 e ≡ fin b m d → b ≡ false
unfolding sub add neg signed
minus_negative_zero nan e b m d h q = absurd (le_numbers (fin true 0 e) nan h).1
minus_negative_zero (inf s) e b m d h q = absurd (subst (λ (x : Float). T (finite x)) (sym q) tt)
minus_negative_zero (fin s zero k) e b m d h q = ap signed (sym q ∙ none_plus s k false e) ∙ none s
  where
    none : (s : Bool) → s && false ≡ false
    none true = refl
    none false = refl
minus_negative_zero (fin false (suc n) k) e b m d h q = ap signed (sym q ∙ some_plus false n k false e) ∙ round_sign false (suc n * up k * down e) (down k * down e)
minus_negative_zero (fin true (suc n) k) e b m d h q = absurd (none (le→cross (fin true 0 e) (fin true (suc n) k) tt tt h).holds)
  where
    none : 0 * down k + suc n * up k * down e ≤ 0 * down e + 0 * up e * down k → ⊥
    none c = let p : 0 < suc n * up k * down e = mul-pos (mul-pos (zero-lt-suc n) (up_pos k)) (down_pos e) in omega arith

-- ---- nothing of a width, added: x + (w * 0) / c and x + (0 * i) / c are x + 0.0
pub record Nothing (w q : Float) : Type 0 where
  pub sign : Bool
  pub size : ℕ
  pub expo : ℤ
  pub width : w ≡ fin sign size expo
  pub is : q ≡ nil sign

pub none_of : (w c : Float) → T (finite w) → Positive c → Nothing w (w ⊗ count 0 ⊘ c)
none_of nan c h p = absurd h
none_of (inf s) c h p = absurd h
none_of (fin s m e) c h p = record { sign = s; size = m; expo = e; width = refl; is = ap (λ (z : Float). fin s m e ⊗ z ⊘ c) count-zero ∙ ap (λ (z : Float). z ⊘ c) (times_zero s m e) ∙ zero_over s c p }

pub plus_none : (x : Float) (s : Bool) → T (finite x) → ((e : ℤ) → x ≡ fin true 0 e → s ≡ false) → x ⊕ nil s ≡ x ⊕ plus_zero
plus_none nan s h k = absurd h
plus_none (inf t) s h k = absurd h
plus_none (fin false zero e) s h k = rw plus_zero_is (none_plus false e s (pos 0) ∙ sym (none_plus false e false (pos 0)))
plus_none (fin true zero e) s h k = rw (plus_zero_is, k e refl)
plus_none (fin t (suc m) e) s h k = rw plus_zero_is (some_plus t m e s (pos 0) ∙ sym (some_plus t m e false (pos 0)))

zero_times_count : (i : ℕ) → i ≤ 2 ^ 53 → nil false ⊗ count i ≡ nil false
zero_times_count zero h = ap (λ (z : Float). nil false ⊗ z) count-zero ∙ times_zero false 0 (pos 0)
zero_times_count (suc i) h = let p = of_int_positive binary64 (suc i) (zero-lt-suc i) h in ap (λ (z : Float). nil false ⊗ z) p.is ∙ zero_times false (suc p.size) p.expo

pub no_width : (w c : Float) (i : ℕ) → w ≡ nil false → Positive c → i ≤ 2 ^ 53 → w ⊗ count i ⊘ c ≡ nil false
no_width w c i e p h = ap (λ (z : Float). z ⊗ count i ⊘ c) e ∙ ap (λ (z : Float). z ⊘ c) (zero_times_count i h) ∙ zero_over false c p

-- ---- one as numbers: the same datum, or both a zero
abbrev pub IsNil : Float → Type 0
IsNil x = (s : Bool) × (x ≡ nil s)

abbrev pub AsOne : Float → Float → Type 0
AsOne x y = (x ≡ y) ⊎ (IsNil x × IsNil y)

pub as_one-eq : (x y : Float) → T (finite x) → AsOne x y → eq x y ≡ true
unfolding is_nan
as_one-eq x y h (inl e) = subst (λ (z : Float). eq x z ≡ true) e (eq_refl x (number x h))
  where
    number : (x : Float) → T (finite x) → T (not (is_nan x))
    number nan h = absurd h
    number (inf s) h = absurd h
    number (fin s m e) h = tt
as_one-eq x y h (inr ((s, e), (t, f))) = rw (e, f) (zero-eq s t (pos 0))

-- a product with a zero
pub times_nil : (x y : Float) → T (finite x) → IsNil y → IsNil (x ⊗ y)
unfolding mul
times_nil nan y h p = absurd h
times_nil (inf s) y h p = absurd h
times_nil (fin s m e) y h (t, p) =
    let none = ap (λ (z : ℕ). round binary64 (unlike s t) z (down e * 1)) (mul-zero (m * up e)) in
    (unlike s t, rw p (none ∙ zero_is binary64 (unlike s t) (down e * 1) (mul-pos (down_pos e) (zero-lt-suc 0))))

pub nil_times : (x y : Float) → IsNil x → T (finite y) → IsNil (x ⊗ y)
unfolding mul
nil_times x nan p h = absurd h
nil_times x (inf s) p h = absurd h
nil_times x (fin t n d) (s, p) h =
    let none = ap (λ (z : ℕ). round binary64 (unlike s t) z (1 * down d)) (zero-mul (n * up d)) in
    (unlike s t, rw p (none ∙ zero_is binary64 (unlike s t) (1 * down d) (mul-pos (zero-lt-suc 0) (down_pos d))))

-- zeros added to what is one as numbers
plus_nil : (x : Float) (s t : Bool) → AsOne (x ⊕ nil s) (x ⊕ nil t)
unfolding add
plus_nil nan s t = inl refl
plus_nil (inf u) s t = inl refl
plus_nil (fin u zero e) s t = inr ((u && s, none_plus u e s (pos 0)), (u && t, none_plus u e t (pos 0)))
plus_nil (fin u (suc m) e) s t = inl (some_plus u m e s (pos 0) ∙ sym (some_plus u m e t (pos 0)))

pub plus_nils : (x y a b : Float) → IsNil a → IsNil b → AsOne x y → AsOne (x ⊕ a) (y ⊕ b)
plus_nils x y a b (s, p) (t, q) (inl e) = rw (p, q, ← e) (plus_nil x s t)
plus_nils x y a b (s, p) (t, q) (inr ((u, e), (v, f))) = rw (p, q, e, f) (inr ((u && s, none_plus u (pos 0) s (pos 0)), (v && t, none_plus v (pos 0) t (pos 0))))

sum-other : (s t : Bool) (a c : ℕ) → 0 < a → sum binary64 s 0 t a c ≡ round binary64 t a c
unfolding sum
sum-other s t a c h = go s t
  where
    less : (s t : Bool) → cond (ltb 0 a) (round binary64 t (a - 0) c) (round binary64 (s && ltb a 0) (0 - a) c) ≡ round binary64 t a c
    less s t =
        let d : a - 0 ≡ a = omega arith in
        ap (λ (b : Bool). cond b (round binary64 t (a - 0) c) (round binary64 (s && ltb a 0) (0 - a) c)) (lt-ltb 0 a h) ∙ ap (λ (n : ℕ). round binary64 t n c) d

    go : (s t : Bool)
        → cond (beq s t) (round binary64 s (0 + a) c) (cond (ltb 0 a) (round binary64 t (a - 0) c) (round binary64 (s && ltb a 0) (0 - a) c)) ≡ round binary64 t a c
    go true true = let z : 0 + a ≡ a = omega arith in ap (λ (n : ℕ). round binary64 true n c) z
    go true false = less true false
    go false true = less false true
    go false false = let z : 0 + a ≡ a = omega arith in ap (λ (n : ℕ). round binary64 false n c) z

nil_plus : (s t : Bool) (m : ℕ) (e : ℤ) → nil s ⊕ fin t (suc m) e ≡ round binary64 t (suc m * up e * 1) (1 * down e)
unfolding add
nil_plus s t m e =
    let some = mul-pos (mul-pos (zero-lt-suc m) (up_pos e)) (zero-lt-suc 0) in
    ap (λ (z : ℕ). sum binary64 s z t (suc m * up e * 1) (1 * down e)) (zero-mul (down e)) ∙ sum-other s t (suc m * up e * 1) (1 * down e) some

-- and anything
pub plus_as_one : (x y z : Float) → AsOne x y → AsOne (x ⊕ z) (y ⊕ z)
unfolding add
plus_as_one x y z (inl e) = inl (ap (λ (w : Float). w ⊕ z) e)
plus_as_one x y z (inr ((s, e), (t, f))) = rw (e, f) (go z)
  where
    go : (z : Float) → AsOne (nil s ⊕ z) (nil t ⊕ z)
    go nan = inl refl
    go (inf u) = inl refl
    go (fin u zero d) = inr ((s && u, none_plus s (pos 0) u d), (t && u, none_plus t (pos 0) u d))
    go (fin u (suc n) d) = inl (nil_plus s u n d ∙ sym (nil_plus t u n d))

-- Bounds of sums, differences, products, quotients and halves of floats, and of the lesser and the greater of two, from bounds of the operands.
use Rattle.std.proofs.Common.{◌≡◌, ℕ, zero, suc, ◌+◌, ◌-◌, ◌*◌, ◌^◌, ◌<◌, ◌≤◌, Bool, true, false, cond, ◌&&◌, ◌||◌, T, eqb, ltb, ◌⊎◌, ℤ, pos, negsuc, sym, refl, ap, ◌∙◌, subst, inl, inr, true≢false, le_trans, le_of_eq, lt_of_lt_of_le, lt_of_le_of_lt, le_of_lt, add-le-add, mul-le-mul_right, zero-lt-suc, mul_assoc, mul_comm, add-mul, mul-le-mul, mul-lt-mul_of_pos_right, mul-pos, one-mul, mul-one, mul_right_comm, not-le_of_lt, le_of_mul-le-mul_right, mul_left_comm, arith, lit<, lit≤, eqb→eq, ltb→lt, pow_pos, pow_mono, pow-add, ltb-false}
use native.Mathlib.Nat.{mul-mul-mul_comm}
use mathlib.Core.Bool.{beq, false≢true}
use lib.Pow.{pow-lt}
use lib.Ieee.{Float, nan, inf, fin, binary64, up, down, round, units, odd, add, sub, mul, div, neg, lt, le, unlike, sum, of_bits}
use lib.Ieee.Fits.{up_pos, down_pos}
use lib.Ieee.Exact.{HasValue, round_exact}
use lib.Ieee.Order.{round_mono, kept, drop}
use lib.Ieee.Scale.{finite}
use Rattle.numbers.proofs.Reals.{round-neg}
use Rattle.numbers.specs.Constants.{plus_zero, half}
use Rattle.numbers.specs.Order.{min_of, max_of}
use Rattle.numbers.specs.Rounded.{◌⊗◌}
use Rattle.numbers.specs.Within.{Within, Held, Beyond}

-- ---- which bounds are held: below 2 ^ 53, powers of two, and what is below 2 ^ 53 times a power of two
pub held_small : (B : ℕ) → B < 2 ^ 53 → Held B
held_small B h = record { q = B; j = 0; short = h; is = mul-one B; under = lt_of_lt_of_le h (lit≤ tt) }

pub held_pow : (k : ℕ) → k < 1024 → Held (2 ^ k)
held_pow k h = record { q = 1; j = k; short = lit< tt; is = one-mul (2 ^ k); under = pow-lt h }

pub held_times : (q j : ℕ) → q < 2 ^ 53 → j ≤ 900 → Held (q * 2 ^ j)
held_times q j h l = record {
  q = q;
  j = j;
  short = h;
  is = refl;
  under = lt_of_lt_of_le (mul-lt-mul_of_pos_right h (pow_pos j)) (le_trans (le_of_eq (sym (pow-add 2 53 j))) (le_of_lt (pow-lt {i = 53 + j} {j = 1024} (omega arith))));
}

pub held_value : (B : ℕ) → Held B → HasValue (round binary64 false B 1) false B 1
held_value B h =
    round_exact binary64 false B 1 h.q (h.j + 1074) (zero-lt-suc 0) h.short
    (lt_of_le_of_lt (le_of_eq at) (lt_of_lt_of_le (mul-lt-mul_of_pos_right h.under (pow_pos 1074)) (lit≤ tt)))
    (sym (mul-one (h.q * 2 ^ (h.j + 1074)) ∙ at))
  where
    at : h.q * 2 ^ (h.j + 1074) ≡ B * 2 ^ 1074
    at = ap (λ (z : ℕ). h.q * z) (pow-add 2 h.j 1074) ∙ sym (mul_assoc h.q (2 ^ h.j) (2 ^ 1074)) ∙ ap (λ (z : ℕ). z * 2 ^ 1074) h.is

-- ---- what is rounded stays within a bound that is held
-- `units` has the sign that it is handed
pub units_shape : (s : Bool) (q k : ℕ) → ((m : ℕ) × (e : ℤ) × (units binary64 s q k ≡ fin s m e)) ⊎ (units binary64 s q k ≡ inf s)
unfolding units
units_shape s q k = go (ltb (q * 2 ^ k) (2 ^ 2098)) q
  where
    shape : (q : ℕ) → (m : ℕ) × (e : ℤ) × (odd 54 s q k 1074 ≡ fin s m e)
    shape = unfold odd in elim [ zero ↦ (zero, pos zero, refl) | suc q ↦ (_, _, refl) ]

    go : (b : Bool) (q : ℕ) → ((m : ℕ) × (e : ℤ) × (cond b (odd 54 s q k 1074) (inf s) ≡ fin s m e)) ⊎ (cond b (odd 54 s q k 1074) (inf s) ≡ inf s)
    go true q = inl (shape q)
    go false q = inr refl

le-size : (m : ℕ) (e : ℤ) (y : Float) (B : ℕ) → T (le (fin false m e) y) → HasValue y false B 1 → Within B (fin false m e)
unfolding le
le-size m e nan B t v = absurd v
le-size m e (inf s) B t v = absurd v
le-size m e (fin true n d) B t v = absurd (true≢false v.0)
le-size m e (fin false n d) B t v =
    le_of_mul-le-mul_right
    (le_trans (of (m * up e * down d) (n * up d * down e) t)
    (le_of_eq (ap (λ (z : ℕ). z * down e) (sym (mul-one (n * up d)) ∙ v.1) ∙ mul_right_comm B (down d) (down e))))
    (down_pos d)
  where
    of : (a b : ℕ) → T (ltb a b || (eqb a b && true)) → a ≤ b
    of a b = go (ltb a b) (eqb a b) (ltb→lt a b) (eqb→eq a b)
      where
        go : (p q : Bool) → (T p → a < b) → (T q → a ≡ b) → T (p || (q && true)) → a ≤ b
        go true q x y t = le_of_lt (x tt)
        go false true x y t = le_of_eq (y tt)
        go false false x y t = absurd t

not_inf : (y : Float) (B : ℕ) → T (le (inf false) y) → HasValue y false B 1 → ⊥
unfolding le
not_inf nan B t v = v
not_inf (inf s) B t v = v
not_inf (fin s n d) B t v = t

round_positive : (B a b : ℕ) → Held B → 0 < b → a ≤ B * b → Within B (round binary64 false a b)
unfolding round
round_positive B a b h p l =
    let y = round binary64 false B 1 in
    let t : T (le (round binary64 false a b) y) = round_mono binary64 a b B 1 p (zero-lt-suc 0) (le_trans (le_of_eq (mul-one a)) l) in
    go (units_shape false (kept 53 (a * 2 ^ 1074) b) (drop 53 (a * 2 ^ 1074) b)) t
  where
    go : ((m : ℕ) × (e : ℤ) × (round binary64 false a b ≡ fin false m e)) ⊎ (round binary64 false a b ≡ inf false) → T (le (round binary64 false a b) (round binary64 false B 1)) → Within B (round binary64 false a b)
    go (inl w) t = subst (Within B) (sym w.2) (le-size w.0 w.1 (round binary64 false B 1) B (subst (λ (x : Float). T (le x (round binary64 false B 1))) w.2 t) (held_value B h))
    go (inr w) t = absurd (not_inf (round binary64 false B 1) B (subst (λ (x : Float). T (le x (round binary64 false B 1))) w t) (held_value B h))

pub neg_within : (B : ℕ) (x : Float) → Within B x → Within B (neg x)
unfolding neg
neg_within B nan w = w
neg_within B (inf s) w = w
neg_within B (fin s m e) w = w

pub round_within : (B : ℕ) (s : Bool) (a b : ℕ) → Held B → 0 < b → a ≤ B * b → Within B (round binary64 s a b)
round_within B false a b h p l = round_positive B a b h p l
round_within B true a b h p l = subst (Within B) (round-neg binary64 true a b) (neg_within B (round binary64 false a b) (round_positive B a b h p l))

-- ---- the operations
cond_within : (B : ℕ) (b : Bool) (x y : Float) → Within B x → Within B y → Within B (cond b x y)
cond_within B true x y p q = p
cond_within B false x y p q = q

sum_within : (B : ℕ) (s t : Bool) (a b c : ℕ) → Held B → 0 < c → a + b ≤ B * c → Within B (sum binary64 s a t b c)
unfolding sum
sum_within B s t a b c h p l =
    cond_within B (beq s t) (round binary64 s (a + b) c) (cond (ltb a b) (round binary64 t (b - a) c) (round binary64 (s && ltb b a) (a - b) c))
    (round_within B s (a + b) c h p l)
    (cond_within B (ltb a b) (round binary64 t (b - a) c) (round binary64 (s && ltb b a) (a - b) c) (round_within B t (b - a) c h p (omega arith)) (round_within B (s && ltb b a) (a - b) c h p (omega arith)))

pub add_within : (A B : ℕ) (x y : Float) → Held (A + B) → Within A x → Within B y → Within (A + B) (add binary64 x y)
unfolding add
add_within A B nan y h v w = absurd v
add_within A B (inf s) y h v w = absurd v
add_within A B (fin s m e) nan h v w = absurd w
add_within A B (fin s m e) (inf t) h v w = absurd w
add_within A B (fin s m e) (fin t n d) h v w =
    sum_within (A + B) s t (m * up e * down d) (n * up d * down e) (down e * down d) h (mul-pos (down_pos e) (down_pos d))
    (le_trans
    (add-le-add (le_trans (mul-le-mul_right (down d) v) (le_of_eq (mul_assoc A (down e) (down d)))) (le_trans (mul-le-mul_right (down e) w) (le_of_eq (mul_right_comm B (down d) (down e) ∙ mul_assoc B (down e) (down d)))))
    (le_of_eq (sym (add-mul A B (down e * down d)))))

pub sub_within : (A B : ℕ) (x y : Float) → Held (A + B) → Within A x → Within B y → Within (A + B) (sub binary64 x y)
unfolding sub
sub_within A B x y h v w = add_within A B x (neg y) h v (neg_within B y w)

pub mul_within : (A B : ℕ) (x y : Float) → Held (A * B) → Within A x → Within B y → Within (A * B) (mul binary64 x y)
unfolding mul
mul_within A B nan y h v w = absurd v
mul_within A B (inf s) y h v w = absurd v
mul_within A B (fin s m e) nan h v w = absurd w
mul_within A B (fin s m e) (inf t) h v w = absurd w
mul_within A B (fin s m e) (fin t n d) h v w =
    round_within (A * B) (unlike s t) (m * up e * (n * up d)) (down e * down d) h (mul-pos (down_pos e) (down_pos d))
    (le_trans (mul-le-mul v w) (le_of_eq (mul-mul-mul_comm A (down e) B (down d))))

-- x / y, for a y that is at least 1 / L in size
pub div_within : (A L : ℕ) (x y : Float) → Held (A * L) → Within A x → Beyond L y → Within (A * L) (div binary64 x y)
unfolding div
div_within A L nan y h v w = absurd v
div_within A L (inf s) y h v w = absurd v
div_within A L (fin s m e) nan h v w = absurd w
div_within A L (fin s m e) (inf t) h v w = absurd w
div_within A L (fin s m e) (fin t zero d) h v w = absurd (not-le_of_lt (down_pos d) (le_trans w (le_of_eq (ap (λ (z : ℕ). L * z) (native.Mathlib.Nat.zero-mul (up d)) ∙ native.Mathlib.Nat.mul-zero L))))
div_within A L (fin s m e) (fin t (suc n) d) h v w =
    subst (λ (b : Bool). Within (A * L) (cond b (cond (eqb m 0) nan (inf (unlike s t))) (round binary64 (unlike s t) (m * up e * down d) (suc n * up d * down e)))) (sym (lib.Dec.eqb-suc-zero n))
    (round_within (A * L) (unlike s t) (m * up e * down d) (suc n * up d * down e) h (mul-pos (mul-pos (zero-lt-suc n) (up_pos d)) (down_pos e))
    (le_trans (mul-le-mul v w) (le_of_eq (simp (mul_assoc, mul_comm, mul_left_comm)))))

-- ---- larger bounds; what a bound says
pub within_more : (A B : ℕ) (x : Float) → A ≤ B → Within A x → Within B x
within_more A B nan l w = w
within_more A B (inf s) l w = w
within_more A B (fin s m e) l w = le_trans w (mul-le-mul_right (down e) l)

pub within_finite : (B : ℕ) (x : Float) → Within B x → T (finite x)
within_finite B nan w = w
within_finite B (inf s) w = w
within_finite B (fin s m e) w = tt

-- tests against a whole constant K, as `x <= K` and `-K <= x` in the code
pub between : (K : ℕ) (c : Float) (x : Float) → HasValue c false K 1 → lt c x ≡ false → lt x (neg c) ≡ false → Within K x ⊎ (x ≡ nan)
unfolding lt neg
between K nan x v p q = absurd v
between K (inf s) x v p q = absurd v
between K (fin true n d) x v p q = absurd (true≢false v.0)
between K (fin false n d) nan v p q = inr refl
between K (fin false n d) (inf true) v p q = absurd (true≢false q)
between K (fin false n d) (inf false) v p q = absurd (true≢false p)
between K (fin false n d) (fin false m e) v p q =
    inl (le_of_mul-le-mul_right (le_trans (ltb-false (n * up d * down e) (m * up e * down d) p) (le_of_eq (ap (λ (z : ℕ). z * down e) (sym (mul-one (n * up d)) ∙ v.1) ∙ mul_right_comm K (down d) (down e)))) (down_pos d))
between K (fin false n d) (fin true m e) v p q =
    inl (le_of_mul-le-mul_right (le_trans (ltb-false (n * up d * down e) (m * up e * down d) q) (le_of_eq (ap (λ (z : ℕ). z * down e) (sym (mul-one (n * up d)) ∙ v.1) ∙ mul_right_comm K (down d) (down e)))) (down_pos d))

-- ---- the same with powers of two: `Within (2 ^ k)`
pub add-pow : (k : ℕ) (x y : Float) → suc k < 1024 → Within (2 ^ k) x → Within (2 ^ k) y → Within (2 ^ suc k) (add binary64 x y)
add-pow k x y h v w = subst (λ (z : ℕ). Within z (add binary64 x y)) (twice k) (add_within (2 ^ k) (2 ^ k) x y (subst Held (sym (twice k)) (held_pow (suc k) h)) v w)
  where
    twice : (k : ℕ) → 2 ^ k + 2 ^ k ≡ 2 ^ suc k
    twice k = sym (native.Mathlib.Nat.pow-suc 2 k ∙ mul_comm (2 ^ k) 2 ∙ native.Mathlib.Nat.two-mul (2 ^ k))

pub sub-pow : (k : ℕ) (x y : Float) → suc k < 1024 → Within (2 ^ k) x → Within (2 ^ k) y → Within (2 ^ suc k) (sub binary64 x y)
unfolding sub
sub-pow k x y h v w = add-pow k x (neg y) h v (neg_within (2 ^ k) y w)

pub mul-pow : (j k : ℕ) (x y : Float) → j + k < 1024 → Within (2 ^ j) x → Within (2 ^ k) y → Within (2 ^ (j + k)) (mul binary64 x y)
mul-pow j k x y h v w = subst (λ (z : ℕ). Within z (mul binary64 x y)) (sym (pow-add 2 j k)) (mul_within (2 ^ j) (2 ^ k) x y (subst Held (pow-add 2 j k) (held_pow (j + k) h)) v w)

pub pow_more : (j k : ℕ) (x : Float) → j ≤ k → Within (2 ^ j) x → Within (2 ^ k) x
pow_more j k x h w = within_more (2 ^ j) (2 ^ k) x (pow_mono h) w

-- tests `x <= K` and `-K <= x`, which no NaN passes
pub within_tests : (K : ℕ) (c : Float) (x : Float) → HasValue c false K 1 → le x c ≡ true → le (neg c) x ≡ true → Within K x
unfolding le neg
within_tests K nan x v p q = absurd v
within_tests K (inf s) x v p q = absurd v
within_tests K (fin true n d) x v p q = absurd (true≢false v.0)
within_tests K (fin false n d) nan v p q = absurd (false≢true p)
within_tests K (fin false n d) (inf true) v p q = absurd (false≢true q)
within_tests K (fin false n d) (inf false) v p q = absurd (false≢true p)
within_tests K (fin false n d) (fin false m e) v p q = le-size m e (fin false n d) K (subst T (sym p) tt) v
within_tests K (fin false n d) (fin true m e) v p q = le-size m e (fin false n d) K (unfold le in (turned (n * up d * down e) (m * up e * down d) (subst T (sym q) tt))) v
  where
    turned : (a b : ℕ) → T (ltb b a || (eqb a b && true)) → T (ltb b a || (eqb b a && true))
    turned a b = go (ltb b a) (eqb a b) (eqb→eq a b)
      where
        go : (p q : Bool) → (T q → a ≡ b) → T (p || (q && true)) → T (p || (eqb b a && true))
        go true q h t = tt
        go false true h t = subst (λ (z : ℕ). T (eqb b z && true)) (sym (h tt)) (lib.Ieee.Fits.and_i (eqb b b) true (lib.Dec.eqb_refl b) tt)
        go false false h t = absurd t

-- ---- one of two

module _ (B : ℕ) (x y : Float) (p : Within B x) (q : Within B y) where
  pub pick_within : (t : Bool) → Within B (cond t x y)
  pick_within true = p
  pick_within false = q

pub min_within : (B : ℕ) (x y : Float) → Within B x → Within B y → Within B (min_of x y)
min_within B x y p q = pick_within B y x q p (lt y x)

pub max_within : (B : ℕ) (x y : Float) → Within B x → Within B y → Within B (max_of x y)
max_within B x y p q = pick_within B y x q p (lt x y)

-- ---- half of a real

half_is : half ≡ fin false 1 (negsuc 0)
unfolding of_bits
half_is = refl

pub half_within : (B : ℕ) (x : Float) → Held B → Within (B + B) x → Within B (x ⊗ half)
half_within B x h w = subst (λ (z : Float). Within B (x ⊗ z)) (sym half_is) (go x w)
  where
    room : (B a d : ℕ) → a ≤ (B + B) * d → a * (1 * 1) ≤ B * (d * 2)
    room B a d h = omega arith

    go : (x : Float) → Within (B + B) x → Within B (x ⊗ fin false 1 (negsuc 0))
    go nan w = absurd w
    go (inf s) w = absurd w
    go (fin s m e) w = unfold mul in round_within B (unlike s false) (m * up e * (1 * 1)) (down e * 2) h (mul-pos (down_pos e) (lit< tt)) (room B (m * up e) (down e) w)

pub zero_within : (B : ℕ) → Within B plus_zero
unfolding of_bits
zero_within B = Prim.Native.Nat.zero-le

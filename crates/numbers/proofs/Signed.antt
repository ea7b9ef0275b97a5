-- The order of floats by signed fractions. A finite x is (plus x - less x) / den x, one of plus and less being 0; a zero has both 0, whatever its sign.
-- `le` on finite values is the order of those fractions, and `Rounded f x p q c` says that x is (p - q) / c, rounded once. Of two such the larger rounds to no smaller value. Assumes nothing.
use Rattle.std.proofs.Common.{◌≡◌, ℕ, zero, suc, ◌+◌, ◌*◌, ◌^◌, ◌<◌, ◌≤◌, Bool, true, false, cond, not, ◌&&◌, ◌||◌, T, eqb, ltb, ◌⊎◌, pos, sym, refl, ap, ◌∙◌, subst, inl, inr, true≢false, lt_irrefl, mul-le-mul_right, zero-lt-suc, eq-or-lt_of_le, mul-pos, zero-mul, le_of_mul-le-mul_right, arith, eqb→eq, ltb→lt, lt→ltb}
use lib.Dec.{eqb_refl}
use lib.Ieee.{Float, nan, inf, fin, Format, prec, low, up, down, round, units, odd, neg, le, lt, eq, below, level}
use lib.Ieee.Fits.{down_pos, round_is, and_i, and_l, and_r}
use lib.Ieee.Order.{round_mono}
use lib.Ieee.Scale.{round_same, finite}
use lib.Ieee.Positive.{den}
use Rattle.numbers.proofs.Reals.{round-neg}
use Rattle.numbers.proofs.Equality.{or_right}

-- ---- a finite value as a signed fraction
-- a where the sign is clear, else 0; and the other way round
abbrev pub keep : Bool → ℕ → ℕ
keep false a = a
keep true a = 0

abbrev pub turn : Bool → ℕ → ℕ
turn false a = 0
turn true a = a

abbrev pub plus : Float → ℕ
plus nan = 0
plus (inf s) = 0
plus (fin s m e) = keep s (m * up e)

abbrev pub less : Float → ℕ
less nan = 0
less (inf s) = 0
less (fin s m e) = turn s (m * up e)

-- x is at most y, both finite: their fractions across
pub record Cross (x y : Float) : Type 0 where
  pub holds : plus x * den y + less y * den x ≤ plus y * den x + less x * den y

-- ---- what the tests of `le` say, on numbers
or_cases : (a b : Bool) → T (a || b) → T a ⊎ T b
or_cases true b t = inl tt
or_cases false b t = inr t

or_l : (a b : Bool) → T a → T (a || b)
or_l true b t = tt
or_l false b t = absurd t

or_r : (a b : Bool) → T b → T (a || b)
or_r true b t = tt
or_r false b t = t

-- ±a ≤ ±b
abbrev Test : Bool → ℕ → Bool → ℕ → Bool
Test s a t b = below s a t b || level s a t b

abbrev Apart : Bool → ℕ → Bool → ℕ → Type 0
Apart s a t b = keep s a + turn t b ≤ keep t b + turn s a

eq-b : (a b : ℕ) → a ≡ b → T (eqb a b)
eq-b a b e = subst (λ (x : ℕ). T (eqb a x)) e (eqb_refl a)

test-says : (s : Bool) (a : ℕ) (t : Bool) (b : ℕ) → T (Test s a t b) → Apart s a t b
test-says false a false b h = go (or_cases (ltb a b) (eqb a b && true) h)
  where
    go : T (ltb a b) ⊎ T (eqb a b && true) → a + 0 ≤ b + 0
    go (inl l) = let k : a < b = ltb→lt a b l in omega arith
    go (inr l) = let k : a ≡ b = eqb→eq a b (and_l (eqb a b) true l) in omega arith
test-says false a true b h =
    let k : a ≡ b = eqb→eq a b (and_l (eqb a b) (eqb a 0) h) in
    let z : a ≡ 0 = eqb→eq a 0 (and_r (eqb a b) (eqb a 0) h) in
    omega arith
test-says true a false b h = omega arith
test-says true a true b h = go (or_cases (ltb b a) (eqb a b && true) h)
  where
    go : T (ltb b a) ⊎ T (eqb a b && true) → 0 + b ≤ 0 + a
    go (inl l) = let k : b < a = ltb→lt b a l in omega arith
    go (inr l) = let k : a ≡ b = eqb→eq a b (and_l (eqb a b) true l) in omega arith

says-test : (s : Bool) (a : ℕ) (t : Bool) (b : ℕ) → Apart s a t b → T (Test s a t b)
says-test false a false b h = let l : a ≤ b = omega arith in go (eq-or-lt_of_le l)
  where
    go : (a ≡ b) ⊎ (a < b) → T (ltb a b || (eqb a b && true))
    go (inl e) = or_r (ltb a b) (eqb a b && true) (and_i (eqb a b) true (eq-b a b e) tt)
    go (inr l) = or_l (ltb a b) (eqb a b && true) (lt→ltb a b l)
says-test false a true b h =
    let k : a ≡ 0 = omega arith in
    let l : b ≡ 0 = omega arith in
    and_i (eqb a b) (eqb a 0) (eq-b a b (k ∙ sym l)) (eq-b a 0 k)
says-test true a false b h = let l : 0 ≤ a + b = omega arith in go (eq-or-lt_of_le l)
  where
    go : (0 ≡ a + b) ⊎ (0 < a + b) → T (ltb 0 (a + b) || (eqb a b && (false || eqb a 0)))
    go (inl e) =
        let k : a ≡ 0 = omega arith in
        let l : b ≡ 0 = omega arith in
        or_r (ltb 0 (a + b)) (eqb a b && eqb a 0) (and_i (eqb a b) (eqb a 0) (eq-b a b (k ∙ sym l)) (eq-b a 0 k))
    go (inr l) = or_l (ltb 0 (a + b)) (eqb a b && eqb a 0) (lt→ltb 0 (a + b) l)
says-test true a true b h = let l : b ≤ a = omega arith in go (eq-or-lt_of_le l)
  where
    go : (b ≡ a) ⊎ (b < a) → T (ltb b a || (eqb a b && true))
    go (inl e) = or_r (ltb b a) (eqb a b && true) (and_i (eqb a b) true (eq-b a b (sym e)) tt)
    go (inr l) = or_l (ltb b a) (eqb a b && true) (lt→ltb b a l)

keep-mul : (s : Bool) (a k : ℕ) → keep s (a * k) ≡ keep s a * k
keep-mul false a k = refl
keep-mul true a k = sym (zero-mul k)

turn_mul : (s : Bool) (a k : ℕ) → turn s (a * k) ≡ turn s a * k
turn_mul false a k = sym (zero-mul k)
turn_mul true a k = refl

-- ---- `le` of finite values
pub le→cross : (x y : Float) → T (finite x) → T (finite y) → T (le x y) → Cross x y
unfolding le
le→cross nan y p q h = absurd p
le→cross (inf s) y p q h = absurd p
le→cross (fin s m e) nan p q h = absurd q
le→cross (fin s m e) (inf t) p q h = absurd q
le→cross (fin s m e) (fin t n d) p q h =
    let k : Apart s (m * up e * down d) t (n * up d * down e) = test-says s (m * up e * down d) t (n * up d * down e) h in
    record { holds = rw (← keep-mul s (m * up e) (down d), ← turn_mul t (n * up d) (down e), ← keep-mul t (n * up d) (down e), ← turn_mul s (m * up e) (down d)) k }

pub cross→le : (x y : Float) → T (finite x) → T (finite y) → Cross x y → T (le x y)
unfolding le
cross→le nan y p q h = absurd p
cross→le (inf s) y p q h = absurd p
cross→le (fin s m e) nan p q h = absurd q
cross→le (fin s m e) (inf t) p q h = absurd q
cross→le (fin s m e) (fin t n d) p q h =
    says-test s (m * up e * down d) t (n * up d * down e)
    (rw (keep-mul s (m * up e) (down d), turn_mul t (n * up d) (down e), keep-mul t (n * up d) (down e), turn_mul s (m * up e) (down d)) h.holds)

-- ---- infinities, and what is a number
abbrev pub number : Float → Bool
number nan = false
number (inf s) = true
number (fin s m e) = true

pub finite_number : (x : Float) → T (finite x) → T (number x)
finite_number nan h = h
finite_number (inf s) h = absurd h
finite_number (fin s m e) h = tt

pub le_numbers : (x y : Float) → T (le x y) → T (number x) × T (number y)
unfolding le
le_numbers nan y h = absurd h
le_numbers (inf s) nan h = absurd h
le_numbers (inf s) (inf t) h = (tt, tt)
le_numbers (inf s) (fin t n d) h = (tt, tt)
le_numbers (fin s m e) nan h = absurd h
le_numbers (fin s m e) (inf t) h = (tt, tt)
le_numbers (fin s m e) (fin t n d) h = (tt, tt)

pub le_top : (x : Float) → T (number x) → T (le x (inf false))
unfolding le
le_top nan h = h
le_top (inf true) h = tt
le_top (inf false) h = tt
le_top (fin s m e) h = tt

pub le_bottom : (x : Float) → T (number x) → T (le (inf true) x)
unfolding le
le_bottom nan h = h
le_bottom (inf true) h = tt
le_bottom (inf false) h = tt
le_bottom (fin s m e) h = tt

-- what is at least +∞ is +∞, and what is at most -∞ is -∞
pub top_le : (x : Float) → T (le (inf false) x) → x ≡ inf false
unfolding le
top_le nan h = absurd h
top_le (inf true) h = absurd h
top_le (inf false) h = refl
top_le (fin s m e) h = absurd h

pub le_refl : (x : Float) → T (number x) → T (le x x)
unfolding le
le_refl nan h = h
le_refl (inf true) h = tt
le_refl (inf false) h = tt
le_refl (fin s m e) h = says-test s (m * up e * down e) s (m * up e * down e) (omega arith)

-- ---- the order is transitive
through : (px qx dx py qy dy pz qz dz : ℕ) → 0 < dy → px * dy + qy * dx ≤ py * dx + qx * dy → py * dz + qz * dy ≤ pz * dy + qy * dz → px * dz + qz * dx ≤ pz * dx + qx * dz
through px qx dx py qy dy pz qz dz Y h k =
    let a = mul-le-mul_right dz h in
    let b = mul-le-mul_right dx k in
    le_of_mul-le-mul_right {m = px * dz + qz * dx} {n = pz * dx + qx * dz} {k = dy} (omega arith) Y

pub le_trans_float : (x y z : Float) → T (le x y) → T (le y z) → T (le x z)
le_trans_float nan y z h k = absurd (le_numbers nan y h).0
le_trans_float (inf true) y z h k = le_bottom z (le_numbers y z k).1
le_trans_float (inf false) y z h k = subst (λ (w : Float). T (le w z)) (top_le y h) k
le_trans_float (fin s m e) nan z h k = absurd (le_numbers (fin s m e) nan h).1
le_trans_float (fin s m e) (inf t) z h k = go t h k
  where
    go : (t : Bool) → T (le (fin s m e) (inf t)) → T (le (inf t) z) → T (le (fin s m e) z)
    go true h k = absurd (unfold le in h)
    go false h k = subst (λ (w : Float). T (le (fin s m e) w)) (sym (top_le z k)) h
le_trans_float (fin s m e) (fin t n d) nan h k = absurd (le_numbers (fin t n d) nan k).1
le_trans_float (fin s m e) (fin t n d) (inf u) h k = go u k
  where
    go : (u : Bool) → T (le (fin t n d) (inf u)) → T (le (fin s m e) (inf u))
    go true k = absurd (unfold le in k)
    go false k = le_top (fin s m e) tt
le_trans_float (fin s m e) (fin t n d) (fin u o g) h k =
    cross→le (fin s m e) (fin u o g) tt tt (record {
      holds = through (keep s (m * up e)) (turn s (m * up e)) (down e) (keep t (n * up d)) (turn t (n * up d)) (down d) (keep u (o * up g)) (turn u (o * up g)) (down g) (down_pos d)
          (le→cross (fin s m e) (fin t n d) tt tt h).holds (le→cross (fin t n d) (fin u o g) tt tt k).holds;
    })

-- ---- the order turns round with the sign
pub le-neg : (x y : Float) → T (le x y) → T (le (neg y) (neg x))
unfolding neg
le-neg nan y h = absurd (le_numbers nan y h).0
le-neg (inf s) nan h = absurd (le_numbers (inf s) nan h).1
le-neg (inf true) (inf true) h = unfold le in tt
le-neg (inf true) (inf false) h = unfold le in tt
le-neg (inf false) (inf true) h = absurd (unfold le in h)
le-neg (inf false) (inf false) h = unfold le in tt
le-neg (inf true) (fin t n d) h = unfold le in tt
le-neg (inf false) (fin t n d) h = absurd (unfold le in h)
le-neg (fin s m e) nan h = absurd (le_numbers (fin s m e) nan h).1
le-neg (fin s m e) (inf true) h = absurd (unfold le in h)
le-neg (fin s m e) (inf false) h = unfold le in tt
le-neg (fin s m e) (fin t n d) h =
    cross→le (fin (not t) n d) (fin (not s) m e) tt tt (record { holds = flip s t (m * up e) (n * up d) (down e) (down d) (le→cross (fin s m e) (fin t n d) tt tt h).holds })
  where
    flip : (s t : Bool) (a b c d : ℕ) → keep s a * d + turn t b * c ≤ keep t b * c + turn s a * d → keep (not t) b * c + turn (not s) a * d ≤ keep (not s) a * d + turn (not t) b * c
    flip false false a b c d h = omega arith
    flip false true a b c d h = omega arith
    flip true false a b c d h = omega arith
    flip true true a b c d h = omega arith

-- ---- rounded once
pub data Rounded (f : Format) (x : Float) (p q c : ℕ) : Type 0 where
  above : (a : ℕ) → p ≡ q + a → x ≡ round f false a c → Rounded f x p q c
  under : (a : ℕ) → q ≡ p + a → x ≡ round f true a c → Rounded f x p q c

-- `round` has the sign that it is handed, and is a number
units_number : (f : Format) (s : Bool) (q k : ℕ) → T (number (units f s q k))
unfolding units
units_number f s q k = go (ltb (q * 2 ^ k) (2 ^ (low f + suc (lib.Ieee.emax f)))) q
  where
    go : (b : Bool) (q : ℕ) → T (number (cond b (odd (suc (prec f)) s q k (low f)) (inf s)))
    go true zero = unfold odd in tt
    go true (suc q) = unfold odd in tt
    go false q = tt

pub round_number : (f : Format) (s : Bool) (a c : ℕ) → T (number (round f s a c))
round_number f s a c = subst (λ (x : Float). T (number x)) (sym (round_is f s a c)) (units_number f s _ _)

pub rounded_number : (f : Format) (x : Float) (p q c : ℕ) → Rounded f x p q c → T (number x)
rounded_number f x p q c (above a e h) = subst (λ (x : Float). T (number x)) (sym h) (round_number f false a c)
rounded_number f x p q c (under a e h) = subst (λ (x : Float). T (number x)) (sym h) (round_number f true a c)

pub zero_is : (f : Format) (s : Bool) (c : ℕ) → 0 < c → round f s 0 c ≡ fin s 0 (pos 0)
zero_is f s c h = round_same f s 0 c 0 1 h (zero-lt-suc 0) (sym (zero-mul c)) ∙ at f
  where
    at : (f : Format) → round f s 0 1 ≡ fin s 0 (pos 0)
    at lib.Ieee.binary32 = unfold round in refl
    at lib.Ieee.binary64 = unfold round in refl

true_is : (f : Format) (a c : ℕ) → round f true a c ≡ neg (round f false a c)
true_is f a c = sym (round-neg f true a c)

-- either side of zero
above_zero : (f : Format) (a c : ℕ) → 0 < c → T (le (fin false 0 (pos 0)) (round f false a c))
above_zero f a c C = subst (λ (x : Float). T (le x (round f false a c))) (zero_is f false 1 (zero-lt-suc 0)) (round_mono f 0 1 a c (zero-lt-suc 0) C (omega arith))

neg-zero : neg (fin false 0 (pos 0)) ≡ fin true 0 (pos 0)
unfolding neg
neg-zero = refl

below-zero : (f : Format) (a c : ℕ) → 0 < c → T (le (round f true a c) (fin false 0 (pos 0)))
below-zero f a c C =
    subst (λ (x : Float). T (le x (fin false 0 (pos 0)))) (sym (true_is f a c))
    (le_trans_float (neg (round f false a c)) (fin true 0 (pos 0)) (fin false 0 (pos 0))
    (subst (λ (z : Float). T (le (neg (round f false a c)) z)) neg-zero
    (le-neg (fin false 0 (pos 0)) (round f false a c) (above_zero f a c C)))
    (unfold le in tt))

none : (a c : ℕ) → 0 < c → a * c ≡ 0 → a ≡ 0
none zero c C e = refl
none (suc a) c C e = absurd (lt_irrefl 0 (subst (λ (z : ℕ). 0 < z) e (mul-pos (zero-lt-suc a) C)))

pub rounded_mono : (f : Format) (x y : Float) (p q c p' q' c' : ℕ) → 0 < c → 0 < c' → Rounded f x p q c → Rounded f y p' q' c' → p * c' + q' * c ≤ p' * c + q * c' → T (le x y)
rounded_mono f x y p q c p' q' c' C C' (above a e h) (above b g k) l =
    let r = ap (λ (z : ℕ). z * c') e in
    let s = ap (λ (z : ℕ). z * c) g in
    rw (h, k) (round_mono f a c b c' C C' (omega arith))
rounded_mono f x y p q c p' q' c' C C' (under a e h) (above b g k) l =
    rw (h, k) (le_trans_float (round f true a c) (fin false 0 (pos 0)) (round f false b c') (below-zero f a c C) (above_zero f b c' C'))
rounded_mono f x y p q c p' q' c' C C' (above a e h) (under b g k) l =
    let r = ap (λ (z : ℕ). z * c') e in
    let s = ap (λ (z : ℕ). z * c) g in
    let u : a * c' ≡ 0 = omega arith in
    let v : b * c ≡ 0 = omega arith in
    let a0 : a ≡ 0 = none a c' C' u in
    let b0 : b ≡ 0 = none b c C v in
    rw (h, k, a0, b0, zero_is f false c C, zero_is f true c' C') (unfold le in tt)
rounded_mono f x y p q c p' q' c' C C' (under a e h) (under b g k) l =
    let r = ap (λ (z : ℕ). z * c') e in
    let s = ap (λ (z : ℕ). z * c) g in
    rw (h, k, true_is f a c, true_is f b c') (le-neg (round f false b c') (round f false a c) (round_mono f b c' a c C' C (omega arith)))

-- ---- two numbers are in one order or the other, and `lt` is what is not the other way round
pub not_less : (x y : Float) → T (le x y) → lt y x ≡ false
unfolding le lt
not_less nan y h = absurd h
not_less (inf s) nan h = absurd h
not_less (inf true) (inf true) h = refl
not_less (inf true) (inf false) h = refl
not_less (inf false) (inf true) h = absurd h
not_less (inf false) (inf false) h = refl
not_less (inf true) (fin t n d) h = refl
not_less (inf false) (fin t n d) h = absurd h
not_less (fin s m e) nan h = absurd h
not_less (fin s m e) (inf true) h = absurd h
not_less (fin s m e) (inf false) h = refl
not_less (fin s m e) (fin t n d) h = go s t (m * up e) (down e) (n * up d) (down d) (le→cross (fin s m e) (fin t n d) tt tt (unfold le in h)).holds
  where
    go : (s t : Bool) (a c b d : ℕ) → keep s a * d + turn t b * c ≤ keep t b * c + turn s a * d → below t (b * c) s (a * d) ≡ false
    go false false a c b d h = borrow.Author.Tests.le-ltb (b * c) (a * d) (omega arith)
    go false true a c b d h = borrow.Author.Tests.le-ltb 0 (b * c + a * d) (omega arith)
    go true false a c b d h = refl
    go true true a c b d h = borrow.Author.Tests.le-ltb (a * d) (b * c) (omega arith)

-- what `lt` refuses, between numbers
pub le_of_not_less : (x y : Float) → T (number x) → T (number y) → lt y x ≡ false → T (le x y)
unfolding lt
le_of_not_less nan y p q h = absurd p
le_of_not_less (inf true) y p q h = le_bottom y q
le_of_not_less (inf false) nan p q h = absurd q
le_of_not_less (inf false) (inf true) p q h = absurd (true≢false h)
le_of_not_less (inf false) (inf false) p q h = le_refl (inf false) tt
le_of_not_less (inf false) (fin t n d) p q h = absurd (true≢false h)
le_of_not_less (fin s m e) nan p q h = absurd q
le_of_not_less (fin s m e) (inf true) p q h = absurd (true≢false h)
le_of_not_less (fin s m e) (inf false) p q h = le_top (fin s m e) tt
le_of_not_less (fin s m e) (fin t n d) p q h = cross→le (fin s m e) (fin t n d) tt tt (record { holds = go s t (m * up e) (down e) (n * up d) (down d) h })
  where
    go : (s t : Bool) (a c b d : ℕ) → below t (b * c) s (a * d) ≡ false → keep s a * d + turn t b * c ≤ keep t b * c + turn s a * d
    go false false a c b d h = let k = borrow.Author.Tests.ltb-false (b * c) (a * d) h in omega arith
    go false true a c b d h = let k = borrow.Author.Tests.ltb-false 0 (b * c + a * d) h in omega arith
    go true false a c b d h = omega arith
    go true true a c b d h = let k = borrow.Author.Tests.ltb-false (a * d) (b * c) h in omega arith

-- what is less, or equal as a number, is at most that
pub le_of_less : (x y : Float) → lt x y ≡ true → T (le x y)
unfolding le
le_of_less x y e = rw e tt

pub le_of_equal : (x y : Float) → eq x y ≡ true → T (le x y)
unfolding le
le_of_equal x y e = rw (or_right (lt x y) (eq x y) e) tt

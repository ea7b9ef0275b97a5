-- At whole multiples of H, sin and cos are exact: a test over the whole range, computed, and a law that reads it.
use Rattle.std.proofs.Common.{◌≡◌, ℕ, zero, suc, ◌-◌, ◌*◌, ◌<◌, ◌≤◌, Bool, true, false, not, ◌&&◌, T, eqb, ℤ, pos, negsuc, sym, refl, ap, ◌∙◌, subst, true≢false, suc-le-suc, le_refl, mul-pos, lt_of_not-le, arith, le-ltb, eqb-true}
use native.Mathlib.Decide.{dec_le}
use lib.Ieee.{Float, nan, inf, fin, binary64, up, down, round, sum, add, sub, mul, div, neg, eq, lt, le, fits, of_bits, to_bits, of_int}
use lib.Ieee.Fits.{down_pos, nan-fits, inf-fits, round-fits, of_int-fits}
use lib.Ieee.Bits.{of_bits-to_bits}
use lib.Ieee.Scale.{finite}
use Rattle.numbers.specs.declared.trig.SinCos.{SinCos}
use Rattle.numbers.specs.Constants.{one, thousand, H}
use Rattle.numbers.specs.Round.{nearest_up, round_away}
use Rattle.numbers.specs.Trig.{turned, quarter_of, reduced_of, sincos_in, sincos_of}
use Rattle.numbers.specs.Multiples.{multiple_of, quarters_of, exactly, equal, ExactMultiples}
use Rattle.numbers.proofs.Reals.{Zero, round-neg}
use Rattle.numbers.proofs.Equality.{and_left, and_right}
use Rattle.numbers.proofs.Signed.{number, zero_is, le_trans_float, le-neg, not_less, le_of_not_less, le_numbers}
use Rattle.numbers.proofs.Monotone.{mul_mono_left, of_int_mono}

-- ---- the test: k H is finite, the quotient of k H by H rounds to k, and k mod 4 is found from it
quotient_of : ℤ → Float
unfolding round_away
quotient_of k = round_away (div binary64 (multiple_of k) H)

test : ℤ → Bool
unfolding quotient_of quarter_of
test k = finite (multiple_of k) && eqb (to_bits binary64 (quotient_of k)) (to_bits binary64 (of_int binary64 k)) && eqb (quarter_of (of_int binary64 k)) (quarters_of k)

all_below : (ℕ → Bool) → ℕ → Bool
all_below f zero = true
all_below f (suc n) = f n && all_below f n

up_tested : all_below (λ k. test (pos k)) 637 ≡ true
unfolding test all_below add sub mul div neg eq lt of_bits to_bits of_int
up_tested = refl

down_tested : all_below (λ k. test (negsuc k)) 636 ≡ true
unfolding test all_below add sub mul div neg eq lt of_bits to_bits of_int
down_tested = refl

at : (f : ℕ → Bool) (n : ℕ) → all_below f n ≡ true → (k : ℕ) → k < n → f k ≡ true
unfolding all_below
at f zero h k l = absurd (none l)
  where
    none : k < 0 → ⊥
    none l = omega arith
at f (suc n) h k l = go (dec_le n k) (at f n (and_right (f n) (all_below f n) h) k)
  where
    go : Dec (n ≤ k) → (k < n → f k ≡ true) → f k ≡ true
    go (yes m) rest = let e : n ≡ k = omega arith in ap f (sym e) ∙ and_left (f n) (all_below f n) h
    go (no m) rest = rest (lt_of_not-le m)

-- ---- what the test says
sub_self_nat : (a : ℕ) → a - a ≡ 0
sub_self_nat a = omega arith

sum-none : (s : Bool) (a c : ℕ) → sum binary64 s a (not s) a c ≡ round binary64 false 0 c
unfolding sum
sum-none false a c = rw (le-ltb a a (le_refl a), sub_self_nat a)
sum-none true a c = rw (le-ltb a a (le_refl a), sub_self_nat a)

-- a finite real less itself is 0
sub_self : (t : Float) → T (finite t) → sub binary64 t t ≡ Zero
unfolding sub add neg
sub_self nan h = absurd h
sub_self (inf s) h = absurd h
sub_self (fin s m e) h = sum-none s (m * up e * down e) (down e * down e) ∙ zero_is binary64 false (down e * down e) (mul-pos (down_pos e) (down_pos e))

round-fits_away : (x : Float) → T (fits binary64 (round_away x))
unfolding round_away
round-fits_away nan = nan-fits binary64
round-fits_away (inf s) = inf-fits binary64 s
round-fits_away (fin s m e) = round-fits binary64 s (nearest_up (m * up e) (down e)) 1

quotient_is : (k : ℤ) → to_bits binary64 (quotient_of k) ≡ to_bits binary64 (of_int binary64 k) → quotient_of k ≡ of_int binary64 k
unfolding quotient_of
quotient_is k h = sym (of_bits-to_bits binary64 (quotient_of k) (round-fits_away (div binary64 (multiple_of k) H))) ∙ ap (of_bits binary64) h ∙ of_bits-to_bits binary64 (of_int binary64 k) (of_int-fits binary64 k)

-- ---- after k quarter turns from r = 0
from_zero : (k : ℤ) (j : ℕ) → quarter_of (of_int binary64 k) ≡ j → reduced_of (of_int binary64 k) Zero ≡ turned j Zero one
unfolding reduced_of mul sub div of_bits of_int
from_zero k j h = ap (λ (n : ℕ). turned n Zero one) h

exact_turned : (j : ℕ) → equal (turned j Zero one) (exactly j) ≡ true
unfolding eq neg of_bits
exact_turned zero = refl
exact_turned (suc zero) = refl
exact_turned (suc (suc zero)) = refl
exact_turned (suc (suc (suc j))) = refl

sincos_at : (k : ℤ) → quotient_of k ≡ of_int binary64 k → T (finite (multiple_of k)) → sincos_in (multiple_of k) ≡ reduced_of (of_int binary64 k) Zero
unfolding sincos_in quotient_of
sincos_at k q f =
    ap (λ (z : Float). reduced_of z (sub binary64 (multiple_of k) (mul binary64 z H))) q
    ∙ ap (reduced_of (of_int binary64 k)) (sub_self (multiple_of k) f)

tested_exact : (k : ℤ) → test k ≡ true → equal (sincos_in (multiple_of k)) (exactly (quarters_of k)) ≡ true
unfolding test
tested_exact k h =
    let two = finite (multiple_of k) && eqb (to_bits binary64 (quotient_of k)) (to_bits binary64 (of_int binary64 k)) in
    let last = eqb (quarter_of (of_int binary64 k)) (quarters_of k) in
    let both : two ≡ true = and_left two last h in
    let f : finite (multiple_of k) ≡ true = and_left (finite (multiple_of k)) (eqb (to_bits binary64 (quotient_of k)) (to_bits binary64 (of_int binary64 k))) both in
    let q = quotient_is k (eqb-true (to_bits binary64 (quotient_of k)) (to_bits binary64 (of_int binary64 k)) (and_right (finite (multiple_of k)) (eqb (to_bits binary64 (quotient_of k)) (to_bits binary64 (of_int binary64 k))) both)) in
    let j = eqb-true (quarter_of (of_int binary64 k)) (quarters_of k) (and_right two last h) in
    ap (λ (a : SinCos). equal a (exactly (quarters_of k))) (sincos_at k q (subst T (sym f) tt) ∙ from_zero k (quarters_of k) j) ∙ exact_turned (quarters_of k)

-- ---- beyond 636 quarter turns the size is over 1,000
lt-le : (c a b : Float) → T (number c) → lt c a ≡ true → T (le a b) → lt c b ≡ true
lt-le c a b n h l = go (lt c b) refl
  where
    go : (w : Bool) → lt c b ≡ w → w ≡ true
    go true e = refl
    go false e = absurd (true≢false (sym h ∙ not_less a c (le_trans_float a b c l (le_of_not_less b c (le_numbers a b l).1 n e))))

le-lt : (a b c : Float) → T (number c) → T (le a b) → lt b c ≡ true → lt a c ≡ true
le-lt a b c n l h = go (lt a c) refl
  where
    go : (w : Bool) → lt a c ≡ w → w ≡ true
    go true e = refl
    go false e = absurd (true≢false (sym h ∙ not_less c b (le_trans_float c a b (le_of_not_less c a n (le_numbers a b l).0 e) l)))

abbrev up_to : ℕ → Float
up_to n = of_int binary64 (pos n)

abbrev down_to : ℕ → Float
down_to n = of_int binary64 (negsuc n)

down_is : (n : ℕ) → neg (up_to (suc n)) ≡ down_to n
unfolding of_int
down_is n = round-neg binary64 true (suc n) 1

down_mono : (i j : ℕ) → i ≤ j → T (le (down_to j) (down_to i))
down_mono i j h = rw (← down_is i, ← down_is j) (le-neg (up_to (suc i)) (up_to (suc j)) (of_int_mono binary64 (suc i) (suc j) (suc-le-suc h)))

first_over : (lt thousand (multiple_of (pos 637)) ≡ true) × (lt (multiple_of (negsuc 636)) (neg thousand) ≡ true)
unfolding lt mul neg of_bits of_int
first_over = (refl, refl)

-- what is at least a finite real, and not finite, is the infinity; and so below
top_over : (a x : Float) → T (finite a) → T (le a x) → finite x ≡ false → lt thousand (mul binary64 x H) ≡ true
unfolding lt le mul of_bits
top_over a nan p h f = absurd (le_numbers a nan h).1
top_over nan (inf true) p h f = absurd p
top_over (inf s) (inf true) p h f = absurd p
top_over (fin s m e) (inf true) p h f = absurd h
top_over a (inf false) p h f = refl
top_over a (fin s m e) p h f = absurd (true≢false f)

bottom_under : (a x : Float) → T (finite a) → T (le x a) → finite x ≡ false → lt (mul binary64 x H) (neg thousand) ≡ true
unfolding lt le mul neg of_bits
bottom_under a nan p h f = absurd h
bottom_under nan (inf false) p h f = absurd p
bottom_under (inf s) (inf false) p h f = absurd p
bottom_under (fin s m e) (inf false) p h f = absurd h
bottom_under a (inf true) p h f = refl
bottom_under a (fin s m e) p h f = absurd (true≢false f)

H-above : T (finite H) × T (le Zero H)
unfolding of_bits le
H-above = (tt, tt)

limits : T (finite (up_to 637)) × T (finite (down_to 636)) × T (number thousand) × T (number (neg thousand))
unfolding of_int of_bits neg
limits = (tt, tt, tt, tt)

over : (n : ℕ) → 637 ≤ n → lt thousand (multiple_of (pos n)) ≡ true
over n h = go (finite (up_to n)) refl
  where
    more : T (le (up_to 637) (up_to n))
    more = of_int_mono binary64 637 n h

    go : (w : Bool) → finite (up_to n) ≡ w → lt thousand (multiple_of (pos n)) ≡ true
    go true e = lt-le thousand (multiple_of (pos 637)) (multiple_of (pos n)) limits.2 first_over.0 (mul_mono_left binary64 H (up_to 637) (up_to n) H-above.0 H-above.1 limits.0 (subst T (sym e) tt) more)
    go false e = top_over (up_to 637) (up_to n) limits.0 more e

under : (n : ℕ) → 636 ≤ n → lt (multiple_of (negsuc n)) (neg thousand) ≡ true
under n h = go (finite (down_to n)) refl
  where
    less : T (le (down_to n) (down_to 636))
    less = down_mono 636 n h

    go : (w : Bool) → finite (down_to n) ≡ w → lt (multiple_of (negsuc n)) (neg thousand) ≡ true
    go true e = le-lt (multiple_of (negsuc n)) (multiple_of (negsuc 636)) (neg thousand) limits.3 (mul_mono_left binary64 H (down_to n) (down_to 636) H-above.0 H-above.1 (subst T (sym e) tt) limits.1 less) first_over.1
    go false e = bottom_under (down_to 636) (down_to n) limits.1 less e

in_test : (k : ℤ) → lt thousand (multiple_of k) ≡ false → lt (multiple_of k) (neg thousand) ≡ false → test k ≡ true
in_test (pos n) a b = go (dec_le 637 n)
  where
    go : Dec (637 ≤ n) → test (pos n) ≡ true
    go (yes l) = absurd (true≢false (sym (over n l) ∙ a))
    go (no l) = at (λ j. test (pos j)) 637 up_tested n (lt_of_not-le l)
in_test (negsuc n) a b = go (dec_le 636 n)
  where
    go : Dec (636 ≤ n) → test (negsuc n) ≡ true
    go (yes l) = absurd (true≢false (sym (under n l) ∙ b))
    go (no l) = at (λ j. test (negsuc j)) 636 down_tested n (lt_of_not-le l)

pub exact_multiples : ExactMultiples
unfolding sincos_of
exact_multiples k a b = rw (a, b) (tested_exact k (in_test k a b))

-- Equality of reals as numbers: symmetric and transitive on all of them, and reflexive on all but NaN.
use Rattle.std.proofs.Common.{◌≡◌, ℕ, ◌*◌, ◌<◌, Bool, true, false, not, ◌&&◌, ◌||◌, T, eqb, ◌⊎◌, sym, refl, ◌∙◌, inl, inr, ⊎_elim, le_of_eq, le_antisymm, zero-mul, eq-eqb, eqb-true}
use mathlib.Core.Bool.{beq, false≢true}
use native.Mathlib.Nat.{eq_of_mul-eq-mul_right}
use lib.Ieee.{Float, nan, inf, fin, up, down, eq, level, is_nan}
use lib.Ieee.Fits.{down_pos}
use lib.Ieee.Positive.{through}

-- ---- tests
pub and_both : (s t : Bool) → s ≡ true → t ≡ true → s && t ≡ true
and_both true t e f = f
and_both false t e f = e

pub and_left : (s t : Bool) → s && t ≡ true → s ≡ true
and_left true t e = refl
and_left false t e = e

pub and_right : (s t : Bool) → s && t ≡ true → t ≡ true
and_right true t e = e
and_right false t e = absurd (false≢true e)

or_cases : (s t : Bool) → s || t ≡ true → (s ≡ true) ⊎ (t ≡ true)
or_cases true t e = inl refl
or_cases false t e = inr e

pub or_left : (s t : Bool) → s ≡ true → s || t ≡ true
or_left true t e = refl
or_left false t e = absurd (false≢true e)

pub or_right : (s t : Bool) → t ≡ true → s || t ≡ true
or_right true t e = refl
or_right false t e = e

beq_eq : (s t : Bool) → beq s t ≡ true → s ≡ t
beq_eq true true e = refl
beq_eq true false e = absurd (false≢true e)
beq_eq false true e = absurd (false≢true e)
beq_eq false false e = refl

pub eq_beq : (s t : Bool) → s ≡ t → beq s t ≡ true
eq_beq true t e = rw (← e)
eq_beq false t e = rw (← e)

-- ---- what `level` says: ±a and ±b are one number
record Level (s : Bool) (a : ℕ) (t : Bool) (b : ℕ) : Type 0 where
  mags : a ≡ b
  signs : (s ≡ t) ⊎ (a ≡ 0)

level_of : (s : Bool) (a : ℕ) (t : Bool) (b : ℕ) → level s a t b ≡ true → Level s a t b
level_of s a t b h = record {
  mags = eqb-true a b (and_left (eqb a b) _ h);
  signs = ⊎_elim (λ e. inl (beq_eq s t e)) (λ e. inr (eqb-true a 0 e)) (or_cases (beq s t) (eqb a 0) (and_right (eqb a b) _ h));
}

of_level : (s : Bool) (a : ℕ) (t : Bool) (b : ℕ) → Level s a t b → level s a t b ≡ true
of_level s a t b l = and_both (eqb a b) _ (eq-eqb a b l.mags) (⊎_elim (λ e. or_left (beq s t) (eqb a 0) (eq_beq s t e)) (λ e. or_right (beq s t) (eqb a 0) (eq-eqb a 0 e)) l.signs)

level_sym : (s : Bool) (a : ℕ) (t : Bool) (b : ℕ) → Level s a t b → Level t b s a
level_sym s a t b l = record { mags = sym l.mags; signs = ⊎_elim (λ e. inl (sym e)) (λ e. inr (sym l.mags ∙ e)) l.signs }

-- a factor above 0 goes
cancel_zero : (x p : ℕ) → 0 < p → x * p ≡ 0 → x ≡ 0
cancel_zero x p h e = eq_of_mul-eq-mul_right p h x 0 (e ∙ sym (zero-mul p))

times_zero : (x p : ℕ) → x ≡ 0 → x * p ≡ 0
times_zero x p e = rw e (zero-mul p)

-- x / p, y / q and z / r
level_trans : (s t u : Bool) (x y z p q r : ℕ) → 0 < p → 0 < q → 0 < r → Level s (x * q) t (y * p) → Level t (y * r) u (z * q) → Level s (x * r) u (z * p)
level_trans s t u x y z p q r hp hq hr l m = record {
  mags = le_antisymm (through x y z p q r hq (le_of_eq l.mags) (le_of_eq m.mags)) (through z y x r q p hq (le_of_eq (sym m.mags)) (le_of_eq (sym l.mags)));
  signs = ⊎_elim
      (λ (e : s ≡ t). ⊎_elim
      (λ (f : t ≡ u). inl (e ∙ f))
      (λ (f : y * r ≡ 0). inr (times_zero x r (cancel_zero x q hq (l.mags ∙ times_zero y p (cancel_zero y r hr f)))))
      m.signs)
      (λ (e : x * q ≡ 0). inr (times_zero x r (cancel_zero x q hq e)))
      l.signs;
}

pub eq_sym : (x y : Float) → eq x y ≡ true → eq y x ≡ true
unfolding eq
eq_sym nan y h = absurd (false≢true h)
eq_sym (inf s) nan h = absurd (false≢true h)
eq_sym (inf s) (inf t) h = eq_beq t s (sym (beq_eq s t h))
eq_sym (inf s) (fin t n d) h = absurd (false≢true h)
eq_sym (fin s m e) nan h = absurd (false≢true h)
eq_sym (fin s m e) (inf t) h = absurd (false≢true h)
eq_sym (fin s m e) (fin t n d) h = let a = m * up e * down d in let b = n * up d * down e in of_level t b s a (level_sym s a t b (level_of s a t b h))

pub eq_trans : (x y z : Float) → eq x y ≡ true → eq y z ≡ true → eq x z ≡ true
unfolding eq
eq_trans nan y z h k = absurd (false≢true h)
eq_trans (inf s) nan z h k = absurd (false≢true h)
eq_trans (inf s) (inf t) nan h k = absurd (false≢true k)
eq_trans (inf s) (inf t) (inf u) h k = eq_beq s u (beq_eq s t h ∙ beq_eq t u k)
eq_trans (inf s) (inf t) (fin u k₁ g) h k = absurd (false≢true k)
eq_trans (inf s) (fin t n d) z h k = absurd (false≢true h)
eq_trans (fin s m e) nan z h k = absurd (false≢true h)
eq_trans (fin s m e) (inf t) z h k = absurd (false≢true h)
eq_trans (fin s m e) (fin t n d) nan h k = absurd (false≢true k)
eq_trans (fin s m e) (fin t n d) (inf u) h k = absurd (false≢true k)
eq_trans (fin s m e) (fin t n d) (fin u j g) h k =
    of_level s _ u _ (level_trans s t u (m * up e) (n * up d) (j * up g) (down e) (down d) (down g) (down_pos e) (down_pos d) (down_pos g) (level_of s _ t _ h) (level_of t _ u _ k))

pub eq_refl : (x : Float) → T (not (is_nan x)) → eq x x ≡ true
unfolding eq is_nan
eq_refl nan h = absurd h
eq_refl (inf s) h = eq_beq s s refl
eq_refl (fin s m e) h = let a = m * up e * down e in of_level s a s a (record { mags = refl; signs = inl refl })

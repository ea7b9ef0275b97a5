-- Sums, differences and products of which any operand may be infinite: while the result is a number it keeps the order, and an operand that is not
-- negative moves it up, or down where it is taken off.
use Rattle.std.proofs.Common.{◌≡◌, ℕ, suc, Bool, true, false, cond, T, ℤ, refl, ap, subst, arith}
use lib.Dec.{eqb-suc-zero}
use lib.Ieee.Scale.{finite}
use lib.Ieee.{Float, nan, inf, fin, binary64, add, sub, mul, neg, le, lt, fits}
use Rattle.numbers.specs.Order.{max_of}
use Rattle.numbers.specs.Rounded.{◌⊕◌, ◌⊖◌, ◌⊗◌}
use Rattle.numbers.proofs.Equality.{eq_sym}
use Rattle.numbers.proofs.Signed.{number, cross→le, le_numbers, le_top, le_bottom, top_le, le_refl, le_trans_float, le-neg, le_of_less, le_of_equal}
use Rattle.numbers.proofs.Monotone.{Zero, Positive, add_mono_left, add_mono_right, mul_mono_left}
use Rattle.numbers.proofs.Zeros.{plus_zero_is, plus_zero_lem, zero_times}

-- ---- a sum
module _ (c : Float) where
  -- a NaN in a sum makes it one
  pub add_summand : (x : Float) → T (number (x ⊕ c)) → T (number x)
  unfolding add
  add_summand nan h = h
  add_summand (inf s) h = tt
  add_summand (fin s m e) h = tt

  -- an infinity stays what it is
  add-infinite : (s : Bool) → T (number (inf s ⊕ c)) → inf s ⊕ c ≡ inf s
  unfolding add
  add-infinite s h = go s c h
    where
      go : (s : Bool) (c : Float) → T (number (inf s ⊕ c)) → inf s ⊕ c ≡ inf s
      go s nan h = absurd h
      go true (inf true) h = refl
      go true (inf false) h = absurd h
      go false (inf true) h = absurd h
      go false (inf false) h = refl
      go s (fin t n d) h = refl

  add_mono_fin : (x y : Float) → T (finite x) → T (finite y) → T (number (x ⊕ c)) → T (le x y) → T (le (x ⊕ c) (y ⊕ c))
  add_mono_fin x y p q h k = go x y c p q h k
    where
      go : (x y c : Float) → T (finite x) → T (finite y) → T (number (x ⊕ c)) → T (le x y) → T (le (x ⊕ c) (y ⊕ c))
      go nan y c p q h k = absurd p
      go (inf s) y c p q h k = absurd p
      go (fin s m e) nan c p q h k = absurd q
      go (fin s m e) (inf t) c p q h k = absurd q
      go (fin s m e) (fin t n d) nan p q h k = absurd (unfold add in h)
      go (fin s m e) (fin t n d) (inf w) p q h k = unfold add in le_refl (inf w) tt
      go (fin s m e) (fin t n d) (fin u o g) p q h k = add_mono_left binary64 (fin u o g) (fin s m e) (fin t n d) tt tt tt k

  pub add_mono_number : (x y : Float) → T (number (x ⊕ c)) → T (number (y ⊕ c)) → T (le x y) → T (le (x ⊕ c) (y ⊕ c))
  add_mono_number nan y p q h = absurd (le_numbers nan y h).0
  add_mono_number (inf true) y p q h = rw (add-infinite true p) (le_bottom (y ⊕ c) q)
  add_mono_number (inf false) y p q h = rw (top_le y h) (le_refl (inf false ⊕ c) p)
  add_mono_number (fin s m e) nan p q h = absurd (le_numbers (fin s m e) nan h).1
  add_mono_number (fin s m e) (inf true) p q h = absurd (unfold le in h)
  add_mono_number (fin s m e) (inf false) p q h = rw (add-infinite false q) (le_top (fin s m e ⊕ c) p)
  add_mono_number (fin s m e) (fin t n d) p q h = add_mono_fin (fin s m e) (fin t n d) tt tt p h

-- x and x ⊕ 0 are equal as numbers, for an x that is a value of 64 bits
add-zero : (x : Float) → T (fits binary64 x) → T (finite x) → T (le x (x ⊕ Zero)) × T (le (x ⊕ Zero) x)
add-zero x f h =
    let e = rw plus_zero_is at (plus_zero_lem x f h).0 in
    (le_of_equal x (x ⊕ Zero) (eq_sym (x ⊕ Zero) x e), le_of_equal (x ⊕ Zero) x e)

pub add_grows : (x c : Float) → T (fits binary64 x) → T (le Zero c) → T (number (x ⊕ c)) → T (le x (x ⊕ c))
add_grows nan c f h p = absurd (add_summand c nan p)
add_grows (inf s) c f h p = rw (add-infinite c s p) (le_refl (inf s) tt)
add_grows (fin s m e) c f h p =
    let x = fin s m e in
    le_trans_float x (x ⊕ Zero) (x ⊕ c) (add-zero x f tt).0 (add_mono_right binary64 x Zero c tt h)

add-falls : (x c : Float) → T (fits binary64 x) → T (le c Zero) → T (number (x ⊕ c)) → T (le (x ⊕ c) x)
add-falls nan c f h p = absurd (add_summand c nan p)
add-falls (inf s) c f h p = rw (add-infinite c s p) (le_refl (inf s) tt)
add-falls (fin s m e) c f h p =
    let x = fin s m e in
    le_trans_float (x ⊕ c) (x ⊕ Zero) x (add_mono_right binary64 x c Zero tt h) (add-zero x f tt).1

pub top_plus : (c : Float) → T (le Zero c) → inf false ⊕ c ≡ inf false
unfolding add
top_plus nan h = absurd (le_numbers Zero nan h).1
top_plus (inf true) h = absurd (unfold le in h)
top_plus (inf false) h = refl
top_plus (fin s m e) h = refl

-- ---- a difference
pub sub_summand : (c x : Float) → T (number (x ⊖ c)) → T (number x)
unfolding sub
sub_summand c x h = add_summand (neg c) x h

pub sub_mono_number : (c x y : Float) → T (number (x ⊖ c)) → T (number (y ⊖ c)) → T (le x y) → T (le (x ⊖ c) (y ⊖ c))
unfolding sub
sub_mono_number c x y p q h = add_mono_number (neg c) x y p q h

pub sub-falls : (x c : Float) → T (fits binary64 x) → T (le Zero c) → T (number (x ⊖ c)) → T (le (x ⊖ c) x)
unfolding sub
sub-falls x c f h p = add-falls x (neg c) f (le_trans_float (neg c) (neg Zero) Zero (le-neg Zero c h) (unfold neg le in tt)) p

pub bottom_minus : (c : Float) → T (le Zero c) → inf true ⊖ c ≡ inf true
unfolding sub add neg
bottom_minus nan h = absurd (le_numbers Zero nan h).1
bottom_minus (inf true) h = absurd (unfold le in h)
bottom_minus (inf false) h = refl
bottom_minus (fin s m e) h = refl

-- ---- a product, and the greater of two
zero-le : (n : ℕ) (d : ℤ) → T (le Zero (fin false n d))
zero-le n d = cross→le Zero (fin false n d) tt tt (record { holds = omega arith })

top_times : (n : ℕ) (d : ℤ) → inf false ⊗ fin false (suc n) d ≡ inf false
unfolding mul
top_times n d = ap (λ (b : Bool). cond b nan (inf false)) (eqb-suc-zero n)

mul_nonneg_at : (x : Float) (n : ℕ) (d : ℤ) → T (le Zero x) → T (le Zero (x ⊗ fin false (suc n) d))
mul_nonneg_at nan n d h = absurd (le_numbers Zero nan h).1
mul_nonneg_at (inf true) n d h = absurd (unfold le in h)
mul_nonneg_at (inf false) n d h = rw (top_times n d) (unfold le in tt)
mul_nonneg_at (fin s m e) n d h =
    let c = fin false (suc n) d in
    subst (λ (z : Float). T (le z (fin s m e ⊗ c))) (zero_times false (suc n) d) (mul_mono_left binary64 c Zero (fin s m e) tt (zero-le (suc n) d) tt tt h)

pub mul_nonneg : (x c : Float) → Positive c → T (le Zero x) → T (le Zero (x ⊗ c))
mul_nonneg x c p h = rw p.is (mul_nonneg_at x p.size p.expo h)

pub le-max : (x a b : Float) → T (le x a) → T (le x (max_of a b))
le-max x a b h = go (lt a b) refl
  where
    go : (w : Bool) → lt a b ≡ w → T (le x (cond w b a))
    go true e = le_trans_float x a b h (le_of_less a b e)
    go false e = h

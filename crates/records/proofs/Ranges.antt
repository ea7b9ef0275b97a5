-- Which range a real of the file has, by where it stands; and that a range with finite bounds holds no NaN and no infinity.
use mathlib.Core.Path.{◌≡◌, refl, sym, ap, ◌∙◌}
use mathlib.Core.Bool.{Bool, true, false, ◌&&◌, cond, true≢false}
use Prim.Native.Nat.{ℕ, ◌+◌, ◌-◌, ◌*◌, ◌%◌, ◌<◌}
use native.Mathlib.Omega.{arith}
use lib.Ieee.{Float, nan, inf, fin, le, lt, eq, of_bits, of_fields, odd, neg}
use borrow.Author.Tests.{lt-ltb, le-ltb, eq-eqb, ne_eqb}
use Rattle.records.specs.Bytes.{◌<?◌, ◌≤?◌, ◌=?◌}
use Rattle.records.specs.Face.{head_reals}
use Rattle.records.specs.Ranges.{range_of}
use Rattle.records.specs.declared.real_ranges.Range.{Range as Held}
use Rattle.records.specs.Limits.{Range, ◌to◌, finite, holds, plane, cone, torus, radius, second, head_range, u_range, v_range, uv_range, xyz_range, range}

module _ (kind n : ℕ) where
  pub range-head : (i : ℕ) → i < head_reals → range kind n i ≡ head_range kind i
  unfolding range
  range-head i h = rw (lt-ltb i head_reals h)

  pub range-uv : (j : ℕ) → j < 2 * n → range kind n (head_reals + j) ≡ uv_range kind j
  unfolding range
  range-uv j h =
      let e : head_reals + j - head_reals ≡ j = omega arith in
      rw (le-ltb (head_reals + j) head_reals (omega arith), lt-ltb (head_reals + j) (head_reals + 2 * n) (omega arith), e)

  pub range-xyz : (j : ℕ) → range kind n (head_reals + 2 * n + j) ≡ xyz_range
  unfolding range
  range-xyz j =
      rw (le-ltb (head_reals + 2 * n + j) head_reals (omega arith), le-ltb (head_reals + 2 * n + j) (head_reals + 2 * n) (omega arith))

pub uv_even : (kind j : ℕ) → j % 2 ≡ 0 → uv_range kind j ≡ u_range kind
unfolding uv_range
uv_even kind j e = rw (eq-eqb (j % 2) 0 e)

pub uv_odd : (kind j : ℕ) → (j % 2 ≡ 0 → ⊥) → uv_range kind j ≡ v_range kind
unfolding uv_range
uv_odd kind j e = rw (ne_eqb (j % 2) 0 e)

-- the ends are finite, so that nothing between them is not
abbrev ends : Range → Bool
ends (a to b) = finite a && finite b

either : (b : Bool) (r q : Range) → ends r ≡ true → ends q ≡ true → ends (cond b r q) ≡ true
either true r q e f = e
either false r q e f = f

range_ends : (kind n i : ℕ) → ends (range kind n i) ≡ true
unfolding range head_range uv_range u_range v_range radius second of_bits of_fields odd neg
range_ends kind n i =
    either (i <? head_reals) _ _
    (either (i <? 9) _ _ refl
    (either (i =? 9) _ _ (either (kind =? plane) _ _ refl (either (kind =? cone) _ _ refl refl))
    (either (i =? 10) _ _ (either (kind =? cone) _ _ refl (either (kind =? torus) _ _ refl refl))
    (either (i =? 11) _ _ refl refl))))
    (either (i <? head_reals + 2 * n) _ _
    (either ((i - head_reals) % 2 =? 0) _ _ (either (kind =? plane) _ _ refl refl) (either (kind ≤? cone) _ _ refl refl))
    refl)

pub bounded : (a b x : Float) → finite a ≡ true → finite b ≡ true → (le a x && le x b) ≡ holds (a to b) x
unfolding holds le lt eq
bounded nan b x p q = absurd (true≢false (sym p))
bounded (inf s) b x p q = absurd (true≢false (sym p))
bounded (fin s m e) nan x p q = absurd (true≢false (sym q))
bounded (fin s m e) (inf t) x p q = absurd (true≢false (sym q))
bounded (fin s m e) (fin t n d) nan p q = refl
bounded (fin s m e) (fin t n d) (inf false) p q = refl
bounded (fin s m e) (fin t n d) (inf true) p q = refl
bounded (fin s m e) (fin t n d) (fin r l c) p q = refl

-- the same, where the ends are told at once
both_ends : (a b x : Float) → (finite a && finite b) ≡ true → (le a x && le x b) ≡ holds (a to b) x
both_ends a b x e = by (finite a) (finite b) refl refl e
  where
    by : (p q : Bool) → finite a ≡ p → finite b ≡ q → (p && q) ≡ true → (le a x && le x b) ≡ holds (a to b) x
    by true q ea eb h = bounded a b x ea (eb ∙ h)
    by false q ea eb h = absurd (true≢false (sym h))

-- what the code finds of x, where it has the range of real i in hand
pub contained : (kind n i : ℕ) (r : Held) (x : Float) → range_of r ≡ range kind n i → (le r.low x && le x r.high) ≡ holds (range kind n i) x
contained kind n i r x e =
    both_ends r.low r.high x (ap ends e ∙ range_ends kind n i) ∙ ap (λ (q : Range). holds q x) e

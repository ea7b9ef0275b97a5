-- The two rings of a band are the first and the last loop that wraps.
use Prim.Native.Nat.{ℕ, zero, suc, ◌-◌, ◌<◌}
use mathlib.Core.Path.{◌≡◌, refl, sym, ap, ◌∙◌}
use mathlib.Core.Logic.{◌⊎◌, inl, inr}
use mathlib.Core.Bool.{Bool, true, false, cond}
use mathlib.Core.List.{List, [], ◌∷◌}
use native.Mathlib.Nat.{eq-or-lt_of_le}
use native.Mathlib.Omega.{arith}
use lib.ListN.{length, get_or, length-map}
use Rattle.numbers.specs.declared.math.Vec3.{Vec3}
use Rattle.lists.proofs.Elements.{get_d_reverse}
use Rattle.bands.specs.Given.{Measured, loop_of, given_of}
use Rattle.lists.specs.Elements.{only}
use Rattle.records.specs.Refusals.{at, first_where}
use Rattle.records.proofs.Search.{nowhere≢at, first_holds}
use Rattle.call.specs.Face.{measured_in, is_wrapping, wrapping, given_in, wraps_in}
use Rattle.call.proofs.Judged.{loop_in, none, wraps_in_lem}
use Rattle.call.specs.Later.{wraps_at}
use Rattle.measuring.specs.LastWhere.{last_where}

-- ---- what is found last, in plain facts

pub record Greatest (test : ℕ → Bool) (n p : ℕ) : Type 0 where
  pub inside : p < n
  pub here : test p ≡ true
  pub behind : (j : ℕ) → p < j → j < n → test j ≡ false

pub last-holds : (test : ℕ → Bool) (n p : ℕ) → last_where n test ≡ at p → Greatest test n p
unfolding last_where
last-holds test zero p e = absurd (nowhere≢at e)
last-holds test (suc n) p e = by_test (test n) refl e (last-holds test n p)
  where
    by_test : (t : Bool) → test n ≡ t → cond t (at n) (last_where n test) ≡ at p → (last_where n test ≡ at p → Greatest test n p) → Greatest test (suc n) p
    by_test true q h ih =
        let z : n ≡ p = cc in
        record { inside = omega arith; here = ap test (sym z) ∙ q; behind = λ j a b. absurd (omega arith) }
    by_test false q h ih =
        let g = ih h in
        let a = g.inside in
        record { inside = omega arith; here = g.here; behind = λ j b c. before j b (eq-or-lt_of_le c) g }
      where
        before : (j : ℕ) → p < j → (suc j ≡ suc n) ⊎ (suc j < suc n) → Greatest test n p → test j ≡ false
        before j b (inl z) g = let e : j ≡ n = omega arith in ap test e ∙ q
        before j b (inr c) g = g.behind j b (omega arith)

-- ---- the first and the last of those that pass

module _ {A : Type 0} (test : A → Bool) (d : A) where
  pub only-first : (x : A) (l : List A) (t : Bool) → test x ≡ t → only test (x ∷ l) ≡ cond t (x ∷ only test l) (only test l)
  unfolding only
  only-first x l t e = ap (λ (b : Bool). cond b (x ∷ only test l) (only test l)) e

  first-only : (l : List A) (p : ℕ) → p < length l → test (get_or l p d) ≡ true → ((j : ℕ) → j < p → test (get_or l j d) ≡ false) → get_or (only test l) 0 d ≡ get_or l p d
  first-only [] p h t b = absurd (omega arith)
  first-only (x ∷ l) zero h t b = ap (λ (k : List A). get_or k 0 d) (only-first x l true t)
  first-only (x ∷ l) (suc p) h t b =
      ap (λ (k : List A). get_or k 0 d) (only-first x l false (b 0 (omega arith))) ∙ first-only l p (omega arith) t (λ j c. b (suc j) (omega arith))

  pub none_passes : (l : List A) → ((j : ℕ) → j < length l → test (get_or l j d) ≡ false) → only test l ≡ []
  unfolding only
  none_passes [] b = refl
  none_passes (x ∷ l) b = rw (b 0 (omega arith)) (none_passes l (λ j c. b (suc j) (omega arith)))

  pub one_passes : (l : List A) (p : ℕ) → p < length l → test (get_or l p d) ≡ true → 0 < length (only test l)
  one_passes [] p h t = absurd (omega arith)
  one_passes (x ∷ l) zero h t = let e = ap length (only-first x l true t) in omega arith
  one_passes (x ∷ l) (suc p) h t = by_test (test x) refl (one_passes l p (omega arith) t)
    where
      by_test : (b : Bool) → test x ≡ b → 0 < length (only test l) → 0 < length (only test (x ∷ l))
      by_test true e n = let f = ap length (only-first x l true e) in omega arith
      by_test false e n = let f = ap length (only-first x l false e) in omega arith

  last-only : (l : List A) (p : ℕ) → p < length l → test (get_or l p d) ≡ true → ((j : ℕ) → p < j → j < length l → test (get_or l j d) ≡ false)
      → get_or (only test l) (length (only test l) - 1) d ≡ get_or l p d
  last-only [] p h t b = absurd (omega arith)
  last-only (x ∷ l) zero h t b =
      ap (λ (k : List A). get_or k (length k - 1) d) (only-first x l true t ∙ ap (λ (k : List A). x ∷ k) (none_passes l (λ j c. b (suc j) (omega arith) (omega arith))))
  last-only (x ∷ l) (suc p) h t b =
      by_test (test x) refl (one_passes l p (omega arith) t) (last-only l p (omega arith) t (λ j a c. b (suc j) (omega arith) (omega arith)))
    where
      by_test : (b : Bool) → test x ≡ b → 0 < length (only test l) → get_or (only test l) (length (only test l) - 1) d ≡ get_or l p d
          → get_or (only test (x ∷ l)) (length (only test (x ∷ l)) - 1) d ≡ get_or l p d
      by_test true e n ih =
          let f : length (x ∷ only test l) - 1 ≡ suc (length (only test l) - 1) = omega arith in
          ap (λ (k : List A). get_or k (length k - 1) d) (only-first x l true e) ∙ ap (λ (m : ℕ). get_or (x ∷ only test l) m d) f ∙ ih
      by_test false e n ih = ap (λ (k : List A). get_or k (length k - 1) d) (only-first x l false e) ∙ ih

-- ---- the record

module _ (s : List ℕ) where
  abbrev rings : List (Measured Vec3)
  rings = only is_wrapping (measured_in s)

  module _ (two : wrapping s ≡ 2) where
    pub as_many : length (wraps_in s) ≡ length (measured_in s)
    as_many = length-map (measured_in s) _

    -- "Rings are taken last wrapping loop first"
    pub first-given : (p : ℕ) → last_where (length (wraps_in s)) (wraps_at (wraps_in s)) ≡ at p → (given_in s).first ≡ loop_of (loop_in s p)
    unfolding given_in given_of wrapping loop_in
    first-given p e =
        let g = last-holds _ _ p e in
        let i = g.inside in
        let m = as_many in
        ap loop_of (get_d_reverse rings 0 1 none (omega arith) ∙ ap (λ (n : ℕ). get_or rings n none) (omega arith)
        ∙ last-only is_wrapping none (measured_in s) p (omega arith) (sym (wraps_in_lem s p) ∙ g.here) (λ j a b. sym (wraps_in_lem s j) ∙ g.behind j a (omega arith)))

    pub later-given : (p : ℕ) → first_where (length (wraps_in s)) (wraps_at (wraps_in s)) ≡ at p → (given_in s).later ≡ loop_of (loop_in s p)
    unfolding given_in given_of wrapping loop_in
    later-given p e =
        let g = (first_holds (wraps_at (wraps_in s)) _ p).0 e in
        let i = g.inside in
        let m = as_many in
        ap loop_of (get_d_reverse rings 1 0 none (omega arith)
        ∙ first-only is_wrapping none (measured_in s) p (omega arith) (sym (wraps_in_lem s p) ∙ g.here) (λ j a. sym (wraps_in_lem s j) ∙ g.before j a))

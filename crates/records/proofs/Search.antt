-- The search of the conditions: what `first_where` finds, in plain facts; a search in two parts; a search that a loop has brought to k.
use mathlib.Core.Path.{◌≡◌, refl, sym, ap, ◌∙◌, subst}
use mathlib.Core.Logic.{◌↔◌, ◌⊎◌, inl, inr}
use mathlib.Core.Bool.{Bool, true, false, cond, true≢false}
use Prim.Native.Nat.{ℕ, zero, suc, ◌+◌, ◌-◌, ◌≤◌, ◌<◌}
use native.Mathlib.Nat.{eq-or-lt_of_le}
use native.Mathlib.Numerals.{add-one}
use native.Mathlib.Omega.{arith}
use Rattle.std.specs.Bool.{then_some}
use Rattle.records.specs.Answers.{place_of}
use Rattle.records.specs.Refusals.{Place, nowhere, at, when, first_from, first_where}

pub nowhere≢at : {p : ℕ} → nowhere ≡ at p → ⊥
nowhere≢at {p} e = let z : ◌≡◌ {A = ℕ} 0 1 = cc in omega arith

-- ---- one test

pub when-holds : (b : Bool) (p q : ℕ) → when b p ≡ at q ↔ (b ≡ true) × (q ≡ p)
when-holds true p q = ((λ e. (refl, cc)), λ w. ap at (sym w.1))
when-holds false p q = ((λ e. absurd (nowhere≢at e)), λ w. absurd (true≢false (sym w.0)))

pub when_fails : (b : Bool) (p : ℕ) → when b p ≡ nowhere ↔ b ≡ false
when_fails true p = ((λ e. absurd (nowhere≢at (sym e))), λ e. absurd (true≢false e))
when_fails false p = ((λ e. refl), λ e. refl)

-- ---- a search

-- p is the least number below n at which the test is true
pub record Least (test : ℕ → Bool) (n p : ℕ) : Type 0 where
  pub inside : p < n
  pub here : test p ≡ true
  pub before : (j : ℕ) → j < p → test j ≡ false

-- the same from k on, of n
record LeastFrom (test : ℕ → Bool) (k n p : ℕ) : Type 0 where
  pub from : k ≤ p
  pub inside : p < k + n
  pub here : test p ≡ true
  pub before : (j : ℕ) → k ≤ j → j < p → test j ≡ false

module _ (test : ℕ → Bool) where
  -- the test fails at k: what is the least from k + 1 on is the least from k on, and the other way
  past : (k n p : ℕ) → test k ≡ false → LeastFrom test (suc k) n p → LeastFrom test k (suc n) p
  past k n p e l = record {
    from = let h = l.from in omega arith;
    inside = let h = l.inside in omega arith;
    here = l.here;
    before = λ j a b. go j b (eq-or-lt_of_le a);
  }
    where
      go : (j : ℕ) → j < p → (k ≡ j) ⊎ (k < j) → test j ≡ false
      go j b (inl q) = subst (λ (i : ℕ). test i ≡ false) q e
      go j b (inr h) = l.before j h b

  next : (k n p : ℕ) → test k ≡ false → LeastFrom test k (suc n) p → LeastFrom test (suc k) n p
  next k n p e l = record {
    from = go (eq-or-lt_of_le l.from);
    inside = let h = l.inside in omega arith;
    here = l.here;
    before = λ j a b. l.before j (omega arith) b;
  }
    where
      go : (k ≡ p) ⊎ (k < p) → k < p
      go (inl q) = absurd (true≢false (sym l.here ∙ ap test (sym q) ∙ e))
      go (inr h) = h

  found→ : (k n p : ℕ) → first_from test k n ≡ at p → LeastFrom test k n p
  unfolding first_from
  found→ k zero p e = absurd (nowhere≢at e)
  found→ k (suc n) p e = go (test k) refl e (found→ (suc k) n p)
    where
      go : (b : Bool) → test k ≡ b → cond b (at k) (first_from test (suc k) n) ≡ at p
          → (first_from test (suc k) n ≡ at p → LeastFrom test (suc k) n p) → LeastFrom test k (suc n) p
      go true q h ih =
          let z : k ≡ p = cc in
          record { from = omega arith; inside = omega arith; here = subst (λ (i : ℕ). test i ≡ true) z q; before = λ j a b. absurd (omega arith) }
      go false q h ih = past k n p q (ih h)

  found← : (k n p : ℕ) → LeastFrom test k n p → first_from test k n ≡ at p
  unfolding first_from
  found← k zero p l = let a = l.from in let b = l.inside in absurd (omega arith)
  found← k (suc n) p l = go (test k) refl (found← (suc k) n p)
    where
      first : test k ≡ true → (k ≡ p) ⊎ (k < p) → k ≡ p
      first q (inl z) = z
      first q (inr h) = absurd (true≢false (sym q ∙ l.before k (omega arith) h))

      go : (b : Bool) → test k ≡ b → (LeastFrom test (suc k) n p → first_from test (suc k) n ≡ at p)
          → cond b (at k) (first_from test (suc k) n) ≡ at p
      go true q ih = ap at (first q (eq-or-lt_of_le l.from))
      go false q ih = ih (next k n p q l)

  none→ : (k n : ℕ) → first_from test k n ≡ nowhere → (j : ℕ) → k ≤ j → j < k + n → test j ≡ false
  unfolding first_from
  none→ k zero e j a b = absurd (omega arith)
  none→ k (suc n) e j a b = go (test k) refl e (eq-or-lt_of_le a) (λ h l. none→ (suc k) n h j l (omega arith))
    where
      go : (b : Bool) → test k ≡ b → cond b (at k) (first_from test (suc k) n) ≡ nowhere → (k ≡ j) ⊎ (k < j)
          → (first_from test (suc k) n ≡ nowhere → k < j → test j ≡ false) → test j ≡ false
      go true q h w ih = absurd (nowhere≢at (sym h))
      go false q h (inl z) ih = subst (λ (i : ℕ). test i ≡ false) z q
      go false q h (inr l) ih = ih h l

  none← : (k n : ℕ) → ((j : ℕ) → k ≤ j → j < k + n → test j ≡ false) → first_from test k n ≡ nowhere
  unfolding first_from
  none← k zero h = refl
  none← k (suc n) h = rw (h k (omega arith) (omega arith)) (none← (suc k) n (λ j a b. h j (omega arith) (omega arith)))

  pub first_holds : (n p : ℕ) → first_where n test ≡ at p ↔ Least test n p
  first_holds n p = (
    (λ e. let l = found→ 0 n p e in record { inside = let h = l.inside in omega arith; here = l.here; before = λ j h. l.before j (omega arith) h }),
    (λ l. found← 0 n p (record { from = omega arith; inside = let h = l.inside in omega arith; here = l.here; before = λ j a h. l.before j h })),
  )

  pub first_fails : (n : ℕ) → first_where n test ≡ nowhere ↔ ((j : ℕ) → j < n → test j ≡ false)
  first_fails n = ((λ e j h. none→ 0 n e j (omega arith) (omega arith)), (λ h. none← 0 n (λ j a b. h j (omega arith))))

-- ---- a search in two parts

abbrev pub or_else : Place → Place → Place
or_else nowhere q = q
or_else (at p) q = at p

or_else_cond : (b : Bool) (k : ℕ) (p q : Place) → cond b (at k) (or_else p q) ≡ or_else (cond b (at k) p) q
or_else_cond true k p q = refl
or_else_cond false k p q = refl

pub split : (test : ℕ → Bool) (k m n : ℕ) → first_from test k (m + n) ≡ or_else (first_from test k m) (first_from test (k + m) n)
unfolding first_from
split test k zero n = let e : 0 + n ≡ n = omega arith in let f : k + 0 ≡ k = omega arith in rw (e, f)
split test k (suc m) n =
    let e : suc m + n ≡ suc (m + n) = omega arith in
    let f : k + suc m ≡ suc k + m = omega arith in
    rw (e, f) (ap (cond (test k) (at k)) (split test (suc k) m n) ∙ or_else_cond (test k) k (first_from test (suc k) m) (first_from test (suc k + m) n))

-- a part that counts from its own begin
abbrev pub shifted : ℕ → Place → Place
shifted k nowhere = nowhere
shifted k (at j) = at (k + j)

shifted-cond : (b : Bool) (k i : ℕ) (p : Place) → cond b (at (k + i)) (shifted k p) ≡ shifted k (cond b (at i) p)
shifted-cond true k i p = refl
shifted-cond false k i p = refl

pub shift : (test : ℕ → Bool) (k i n : ℕ) → first_from test (k + i) n ≡ shifted k (first_from (λ j. test (k + j)) i n)
unfolding first_from
shift test k i zero = refl
shift test k i (suc n) =
    let e : suc (k + i) ≡ k + suc i = omega arith in
    rw e (ap (cond (test (k + i)) (at (k + i))) (shift test k (suc i) n) ∙ shifted-cond (test (k + i)) k i (first_from (λ j. test (k + j)) (suc i) n))

-- ---- a loop that has come to k: the test was true nowhere before

pub record Seeking (test : ℕ → Bool) (n k : ℕ) : Type 0 where
  pub far : k ≤ n
  pub is : first_where n test ≡ first_from test k (n - k)

module _ {test : ℕ → Bool} {n : ℕ} where
  pub seek_start : Seeking test n 0
  seek_start = let e : n - 0 ≡ n = omega arith in record { far = omega arith; is = rw e }

  module _ {k : ℕ} (s : Seeking test n k) where
    -- what stands at k, and the rest
    ahead : k < n → first_where n test ≡ cond (test k) (at k) (first_from test (k + 1) (n - (k + 1)))
    unfolding first_from
    ahead h = let e : n - k ≡ suc (n - (k + 1)) = omega arith in s.is ∙ rw (e, add-one k)

    pub seek_turn : k < n → test k ≡ false → Seeking test n (k + 1)
    seek_turn h e = record { far = omega arith; is = ahead h ∙ rw e }

    pub seek_found : k < n → test k ≡ true → at k ≡ first_where n test
    seek_found h e = sym (ahead h ∙ rw e)

    pub seek_end : n ≤ k → nowhere ≡ first_where n test
    unfolding first_from
    seek_end h = let e : n - k ≡ 0 = omega arith in sym (s.is ∙ rw e)

-- ---- an answer of the code that a test gives

pub when_some : (b : Bool) (p : ℕ) → place_of (then_some b p) ≡ when b p
when_some true p = refl
when_some false p = refl

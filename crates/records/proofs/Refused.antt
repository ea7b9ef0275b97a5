-- 01, demand 1: "A refusal is given on its condition and on no other." The call refuses with (n, p) exactly when condition n of the list holds with
-- place p and no earlier one holds; it closes exactly when none holds. Then each condition in plain facts.
use mathlib.Core.Path.{◌≡◌, refl, sym, ap, ◌∙◌}
use mathlib.Core.Logic.{◌↔◌, ◌⊎◌, inl, inr}
use mathlib.Core.Bool.{Bool, true, false, not, cond}
use mathlib.Core.List.{List, [], ◌∷◌, ◌++◌}
use Prim.Native.Nat.{ℕ, zero, suc, ◌+◌, ◌*◌, ◌≤◌, ◌<◌, suc-le-suc}
use native.Mathlib.Nat.{le_of_suc-le-suc, not-suc-le-zero, zero-lt-suc}
use native.Mathlib.Omega.{arith}
use lib.ListN.{length, get_or}
use borrow.Author.Tests.{ltb-true, ltb-false, lt-ltb, le-ltb, eqb-true, eq-eqb, eqb-false, ne_eqb, not-true, not-false}
use Rattle.records.specs.Bytes.{◌<?◌, ◌=?◌}
use Rattle.records.specs.Face.{header_size, loops, count, start, kind, points, reals, needed, real_of}
use Rattle.records.specs.declared.limits.Limits.{Limits}
use Rattle.records.specs.Limits.{min_points, holds, range}
use Rattle.records.specs.Refusals.{Place, nowhere, at, when, first_where, Condition, never, conditions, Verdict, passes, refuses, refuse_at, verdict, FirstToHold, NoneHolds, too_few_lent, wrong_byte, wrong_header, too_many_loops, ends_in_counts, too_few_points, too_many_points, wrong_length, bad_real, first_bad_real}
use Rattle.records.specs.Call.{refused, closed, outcome, judge}
use Rattle.records.proofs.Search.{nowhere≢at, when-holds, Least, first_holds}

-- ---- a list of conditions

passes≢refuses : {n p : ℕ} → passes ≡ refuses n p → ⊥
passes≢refuses {n} {p} e = let z : ◌≡◌ {A = ℕ} 0 1 = cc in omega arith

module _ (s : List ℕ) where
  -- the first condition does not hold
  later : (c : Condition) (cs : List Condition) (n p : ℕ) → c.place s ≡ nowhere → FirstToHold cs s n p → FirstToHold (c ∷ cs) s n p
  later c cs n p e f = record { row = suc f.row; numbered = f.numbered; holds = f.holds; before = go }
    where
      go : (j : ℕ) → j < suc f.row → (get_or (c ∷ cs) j never).place s ≡ nowhere
      go zero h = e
      go (suc j) h = f.before j (le_of_suc-le-suc h)

  refuses→ : (cs : List Condition) (n p : ℕ) → verdict cs s ≡ refuses n p → FirstToHold cs s n p
  unfolding verdict
  refuses→ [] n p e = absurd (passes≢refuses e)
  refuses→ (c ∷ cs) n p e = go (c.place s) refl e (refuses→ cs n p)
    where
      go : (q : Place) → c.place s ≡ q → refuse_at q c.number (verdict cs s) ≡ refuses n p
          → (verdict cs s ≡ refuses n p → FirstToHold cs s n p) → FirstToHold (c ∷ cs) s n p
      go nowhere q h ih = later c cs n p q (ih h)
      go (at k) q h ih =
          let z : k ≡ p = cc in
          record { row = 0; numbered = cc; holds = q ∙ ap at z; before = λ j l. absurd (not-suc-le-zero l) }

  refuses← : (cs : List Condition) (n p row : ℕ) → (get_or cs row never).number ≡ n → (get_or cs row never).place s ≡ at p
      → ((j : ℕ) → j < row → (get_or cs j never).place s ≡ nowhere) → verdict cs s ≡ refuses n p
  unfolding verdict
  refuses← [] n p row a h b = absurd (nowhere≢at h)
  refuses← (c ∷ cs) n p zero a h b = rw (h, a)
  refuses← (c ∷ cs) n p (suc row) a h b = rw (b zero (zero-lt-suc row)) (refuses← cs n p row a h (λ j l. b (suc j) (suc-le-suc l)))

  pub verdict_refuses : (cs : List Condition) (n p : ℕ) → verdict cs s ≡ refuses n p ↔ FirstToHold cs s n p
  verdict_refuses cs n p = (refuses→ cs n p, λ f. refuses← cs n p f.row f.numbered f.holds f.before)

  passes→ : (cs : List Condition) → verdict cs s ≡ passes → NoneHolds cs s
  unfolding verdict
  passes→ [] e j = refl
  passes→ (c ∷ cs) e j = go (c.place s) refl e (passes→ cs) j
    where
      go : (q : Place) → c.place s ≡ q → refuse_at q c.number (verdict cs s) ≡ passes → (verdict cs s ≡ passes → NoneHolds cs s) → NoneHolds (c ∷ cs) s
      go nowhere q h ih zero = q
      go nowhere q h ih (suc j) = ih h j
      go (at k) q h ih j = absurd (passes≢refuses (sym h))

  passes← : (cs : List Condition) → NoneHolds cs s → verdict cs s ≡ passes
  unfolding verdict
  passes← [] h = refl
  passes← (c ∷ cs) h = rw (h zero) (passes← cs (λ j. h (suc j)))

  pub verdict-passes : (cs : List Condition) → verdict cs s ≡ passes ↔ NoneHolds cs s
  verdict-passes cs = (passes→ cs, passes← cs)

-- ---- the call

outcome_refused : (v : Verdict) (b : List ℕ) (n p : ℕ) → outcome v b ≡ refused n p → v ≡ refuses n p
outcome_refused passes b n p e = let z : ◌≡◌ {A = ℕ} 0 1 = cc in absurd (omega arith)
outcome_refused (refuses m q) b n p e = cc

outcome-closed : (v : Verdict) (b c : List ℕ) → outcome v b ≡ closed c → (v ≡ passes) × (c ≡ b)
outcome-closed passes b c e = (refl, cc)
outcome-closed (refuses m q) b c e = let z : ◌≡◌ {A = ℕ} 0 1 = cc in absurd (omega arith)

module _ (L : Limits) (more : List Condition) (result : List ℕ → List ℕ) (lent : ℕ) (s : List ℕ) where
  abbrev all : List Condition
  all = conditions L lent ++ more

  pub refused_exactly : (n p : ℕ) → judge L more result lent s ≡ refused n p ↔ FirstToHold (conditions L lent ++ more) s n p
  unfolding judge
  refused_exactly n p = (
    (λ e. (verdict_refuses s all n p).0 (outcome_refused (verdict all s) (result s) n p e)),
    (λ f. ap (λ (v : Verdict). outcome v (result s)) ((verdict_refuses s all n p).1 f)),
  )

  pub closed_exactly : (b : List ℕ) → judge L more result lent s ≡ closed b ↔ NoneHolds (conditions L lent ++ more) s × (b ≡ result s)
  unfolding judge
  closed_exactly b = (
    (λ e. let r = outcome-closed (verdict all s) (result s) b e in ((verdict-passes s all).0 r.0, r.1)),
    (λ r. ap (λ (v : Verdict). outcome v (result s)) ((verdict-passes s all).1 r.0) ∙ ap closed (sym r.1)),
  )

-- ---- the conditions in plain facts

-- a test that says P where it is true and Q where it is false
pub record Says (b : Bool) (P Q : Type 0) : Type 0 where
  pub true→ : b ≡ true → P
  pub →true : P → b ≡ true
  pub false→ : b ≡ false → Q
  pub →false : Q → b ≡ false

pub below : (m n : ℕ) → Says (m <? n) (m < n) (n ≤ m)
below m n = record { true→ = ltb-true m n; →true = lt-ltb m n; false→ = ltb-false m n; →false = le-ltb m n }

pub differ : (m n : ℕ) → Says (not (m =? n)) (m ≡ n → ⊥) (m ≡ n)
differ m n = record {
  true→ = λ e. eqb-false m n (not-true _ e);
  →true = λ h. ap not (ne_eqb m n h);
  false→ = λ e. eqb-true m n (not-false _ e);
  →false = λ e. ap not (eq-eqb m n e);
}

pub refuted : (b : Bool) → Says (not b) (b ≡ false) (b ≡ true)
refuted b = record { true→ = not-true b; →true = ap not; false→ = not-false b; →false = ap not }

pub when-exactly : (b : Bool) {P Q : Type 0} → Says b P Q → (p q : ℕ) → when b p ≡ at q ↔ P × (q ≡ p)
when-exactly b w p q = (
  (λ e. let r = (when-holds b p q).0 e in (w.true→ r.0, r.1)),
  (λ r. (when-holds b p q).1 (w.→true r.0, r.1)),
)

pub first-exactly : (test : ℕ → Bool) {P Q : ℕ → Type 0} → ((k : ℕ) → Says (test k) (P k) (Q k)) → (n p : ℕ)
    → first_where n test ≡ at p ↔ (p < n) × P p × ((j : ℕ) → j < p → Q j)
first-exactly test w n p = (
  (λ e. let l = (first_holds test n p).0 e in (l.inside, (w p).true→ l.here, λ j h. (w j).false→ (l.before j h))),
  (λ r. (first_holds test n p).1 (record { inside = r.0; here = (w p).→true r.1; before = λ j h. (w j).→false (r.2 j h) })),
)

module _ (L : Limits) (s : List ℕ) (p : ℕ) where
  pub refusal_1 : (lent : ℕ) → too_few_lent L lent s ≡ at p ↔ (lent < L.result) × (p ≡ L.result)
  unfolding too_few_lent
  refusal_1 lent = when-exactly _ (below lent L.result) L.result p

  pub refusal_3 : too_many_loops L s ≡ at p ↔ (L.loops < loops s) × (p ≡ loops s)
  unfolding too_many_loops
  refusal_3 = when-exactly _ (below L.loops (loops s)) (loops s) p

  pub refusal_5 : too_many_points L s ≡ at p ↔ (p < loops s) × (L.points < start s (suc p)) × ((j : ℕ) → j < p → start s (suc j) ≤ L.points)
  unfolding too_many_points
  refusal_5 = first-exactly (λ k. L.points <? start s (suc k)) (λ k. below L.points (start s (suc k))) (loops s) p

-- those that no limit touches
module _ (s : List ℕ) (p : ℕ) where
  pub refusal_2 : wrong_header s ≡ at p ↔ ((length s < header_size) × (p ≡ length s)) ⊎ ((header_size ≤ length s) × Least (wrong_byte s) header_size p)
  unfolding wrong_header
  refusal_2 = (go→ (length s <? header_size) refl, go←)
    where
      go→ : (b : Bool) → (length s <? header_size) ≡ b → cond b (at (length s)) (first_where header_size (wrong_byte s)) ≡ at p
          → ((length s < header_size) × (p ≡ length s)) ⊎ ((header_size ≤ length s) × Least (wrong_byte s) header_size p)
      go→ true q e = inl (ltb-true (length s) header_size q, cc)
      go→ false q e = inr (ltb-false (length s) header_size q, (first_holds (wrong_byte s) header_size p).0 e)

      go← : ((length s < header_size) × (p ≡ length s)) ⊎ ((header_size ≤ length s) × Least (wrong_byte s) header_size p)
          → cond (length s <? header_size) (at (length s)) (first_where header_size (wrong_byte s)) ≡ at p
      go← (inl w) = rw (lt-ltb (length s) header_size w.0, w.1)
      go← (inr w) = rw (le-ltb (length s) header_size w.0) ((first_holds (wrong_byte s) header_size p).1 w.1)

  pub refusal_4 : too_few_points s ≡ at p ↔ (p < loops s) × (count s p < min_points) × ((j : ℕ) → j < p → min_points ≤ count s j)
  unfolding too_few_points
  refusal_4 = first-exactly (λ k. count s k <? min_points) (λ k. below (count s k) min_points) (loops s) p

  -- the two halves of 6
  pub refusal_6_counts : ends_in_counts s ≡ at p ↔ (length s < header_size + 2 * loops s) × (p ≡ header_size + 2 * loops s)
  unfolding ends_in_counts
  refusal_6_counts = when-exactly _ (below (length s) (header_size + 2 * loops s)) (header_size + 2 * loops s) p

  pub refusal_6_length : wrong_length s ≡ at p ↔ (length s ≡ needed s → ⊥) × (p ≡ needed s)
  unfolding wrong_length
  refusal_6_length = when-exactly _ (differ (length s) (needed s)) (needed s) p

  pub refusal_7 : first_bad_real s ≡ at p
      ↔ (p < reals s) × (holds (range (kind s) (points s) p) (real_of s p) ≡ false) × ((j : ℕ) → j < p → holds (range (kind s) (points s) j) (real_of s j) ≡ true)
  unfolding first_bad_real bad_real
  refusal_7 = first-exactly (bad_real s) (λ i. refuted (holds (range (kind s) (points s) i) (real_of s i))) (reals s) p

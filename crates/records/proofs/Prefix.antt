-- Of a record that is longer than the longest acceptable one, 20,621 bytes in version 1, the answer depends on one byte more than that alone: 2 to 5 look at
-- the header and the counts, and 6 gives the length needed, not the length found. So a caller need not read further.
use mathlib.Core.Path.{◌≡◌, refl, sym, ap, ◌∙◌}
use mathlib.Core.Bool.{Bool, true, false}
use mathlib.Core.List.{List, ◌∷◌, ◌++◌}
use Prim.Native.Nat.{ℕ, zero, suc, ◌+◌, ◌*◌, ◌≤◌, ◌<◌}
use native.Mathlib.Omega.{arith}
use lib.ListN.{length, get_or, take, length-take}
use lib.Seq.{take_all, get_or-take}
use borrow.Author.Tests.{ltb-true, ltb-false, le-ltb, ne_eqb}
use Rattle.records.specs.Bytes.{◌<?◌, number_at, number}
use Rattle.records.specs.Face.{header_size, head_reals, loops, count, start, points, needed}
use Rattle.records.specs.declared.limits.Limits.{Limits}
use Rattle.records.specs.Refusals.{Place, nowhere, at, first_from, Condition, record_conditions, Verdict, refuses, refuse_at, verdict, too_few_lent, wrong_byte, wrong_header, too_many_loops, ends_in_counts, too_few_points, too_many_points, wrong_length}
use Rattle.records.specs.Call.{Outcome, outcome, judge}
use Rattle.records.proofs.Search.{when_fails, first_fails}
use Rattle.records.proofs.Numbers.{number_at-cons}
use Rattle.records.proofs.Accepted.{last-total}

abbrev pub longest : Limits → ℕ
longest L = header_size + 2 * L.loops + 8 * (head_reals + 5 * L.points)

-- ---- two records and a list of conditions: f and g agree on refusals

module _ {B : Type 0} (t s : List ℕ) (f g : Verdict → B) (agree : (n p : ℕ) → f (refuses n p) ≡ g (refuses n p)) where
  -- the next condition says the same of both, and so do the later ones if it does not hold
  step : (c : Condition) (cs : List Condition) → c.place t ≡ c.place s → (c.place s ≡ nowhere → f (verdict cs t) ≡ g (verdict cs s))
      → f (verdict (c ∷ cs) t) ≡ g (verdict (c ∷ cs) s)
  unfolding verdict
  step c cs e rest = rw e (go (c.place s) refl)
    where
      go : (p : Place) → c.place s ≡ p → f (refuse_at p c.number (verdict cs t)) ≡ g (refuse_at p c.number (verdict cs s))
      go nowhere h = rest h
      go (at p) h = agree c.number p

  -- the next condition holds of both, with one place
  stop : (c : Condition) (cs : List Condition) (p : ℕ) → c.place t ≡ at p → c.place s ≡ at p → f (verdict (c ∷ cs) t) ≡ g (verdict (c ∷ cs) s)
  unfolding verdict
  stop c cs p e h = rw (e, h) (agree c.number p)

-- ---- searches with tests that agree

first_alike : (test test' : ℕ → Bool) (k n : ℕ) → ((j : ℕ) → j < k + n → test j ≡ test' j) → first_from test k n ≡ first_from test' k n
unfolding first_from
first_alike test test' k zero h = refl
first_alike test test' k (suc n) h = rw (h k (omega arith), first_alike test test' (suc k) n (λ j l. h j (omega arith)))

-- ---- what the limits say

module _ (L : Limits) (s : List ℕ) where
  pub few_loops : too_many_loops L s ≡ nowhere → loops s ≤ L.loops
  unfolding too_many_loops
  few_loops e = ltb-false L.loops (loops s) ((when_fails _ (loops s)).0 e)

  pub few_points : too_many_points L s ≡ nowhere → points s ≤ L.points
  unfolding too_many_points
  few_points e =
      last-total s L.points (loops s)
      (λ k h. ltb-false L.points (start s (suc k)) ((first_fails (λ i. L.points <? start s (suc i)) (loops s)).0 e k h))

-- ---- a record that is longer than the longest acceptable one

module _ (L : Limits) (s : List ℕ) (long : longest L < length s) where
  abbrev most : ℕ
  most = longest L

  abbrev t : List ℕ
  t = take (suc most) s

  t_long : length t ≡ suc most
  t_long = simp length-take (omega arith)

  byte : (i : ℕ) → i ≤ most → get_or t i 0 ≡ get_or s i 0
  byte i h = get_or-take (suc most) s i 0 (omega arith)

  loops_alike : loops t ≡ loops s
  loops_alike = byte 2 (omega arith)

  wrong_alike : (i : ℕ) → wrong_byte t i ≡ wrong_byte s i
  unfolding wrong_byte
  wrong_alike i = rw (byte 0 (omega arith), byte 1 (omega arith), byte 3 (omega arith), byte 4 (omega arith))

  header_alike : wrong_header t ≡ wrong_header s
  unfolding wrong_header
  header_alike =
      let l = t_long in
      rw (le-ltb (length t) header_size (omega arith), le-ltb (length s) header_size (omega arith))
      (first_alike (wrong_byte t) (wrong_byte s) 0 header_size (λ i h. wrong_alike i))

  many_alike : too_many_loops L t ≡ too_many_loops L s
  unfolding too_many_loops
  many_alike = rw loops_alike

  module _ (few : loops s ≤ L.loops) where
    ends_alike : ends_in_counts t ≡ ends_in_counts s
    unfolding ends_in_counts
    ends_alike =
        let l = t_long in
        let e = loops_alike in
        rw (le-ltb (length t) (header_size + 2 * loops t) (omega arith), le-ltb (length s) (header_size + 2 * loops s) (omega arith))

    count_alike : (k : ℕ) → k < L.loops → count t k ≡ count s k
    unfolding number_at number
    count_alike k h =
        let p : ℕ = header_size + 2 * k in
        number_at-cons 1 t p ∙ ap (λ (n : ℕ). get_or t p 0 + 256 * n) (number_at-cons 0 t (suc p))
        ∙ rw (byte p (omega arith), byte (suc p) (omega arith))
        (sym (number_at-cons 1 s p ∙ ap (λ (n : ℕ). get_or s p 0 + 256 * n) (number_at-cons 0 s (suc p))))

    start_alike : (k : ℕ) → k ≤ L.loops → start t k ≡ start s k
    unfolding start
    start_alike zero h = refl
    start_alike (suc k) h = rw (start_alike k (omega arith), count_alike k (omega arith))

    few_alike : too_few_points t ≡ too_few_points s
    unfolding too_few_points
    few_alike = rw loops_alike (first_alike _ _ 0 (loops s) (λ k h. rw (count_alike k (omega arith))))

    total_alike : too_many_points L t ≡ too_many_points L s
    unfolding too_many_points
    total_alike = rw loops_alike (first_alike _ _ 0 (loops s) (λ k h. rw (start_alike (suc k) (omega arith))))

    needed_alike : needed t ≡ needed s
    needed_alike = rw loops_alike (let e = start_alike (loops s) few in omega arith)

  length_wrong : (r : List ℕ) → needed r ≡ needed s → most < length r → points s ≤ L.points → loops s ≤ L.loops → wrong_length r ≡ at (needed s)
  unfolding wrong_length
  length_wrong r e l h k = rw (ne_eqb (length r) (needed r) (λ q. omega arith), e)

  module _ {B : Type 0} (f g : Verdict → B) (agree : (n p : ℕ) → f (refuses n p) ≡ g (refuses n p)) where
    pub long_alike : (more : List Condition) → f (verdict (record_conditions L ++ more) t) ≡ g (verdict (record_conditions L ++ more) s)
    long_alike more =
        step t s f g agree _ _ header_alike (λ h1. step t s f g agree _ _ many_alike (λ h2.
        let few = few_loops L s h2 in
        step t s f g agree _ _ (ends_alike few) (λ h3. step t s f g agree _ _ (few_alike few) (λ h4. step t s f g agree _ _ (total_alike few) (λ h5.
        let total = few_points L s h5 in
        let l = t_long in
        stop t s f g agree _ _ (needed s) (length_wrong t (needed_alike few) (omega arith) total few) (length_wrong s refl long total few))))))

-- ---- any record

module _ (L : Limits) (s : List ℕ) where
  cut : (A : List ℕ → Type 0) → A s → (longest L < length s → A (take (suc (longest L)) s)) → A (take (suc (longest L)) s)
  cut A whole long = go (longest L <? length s) refl
    where
      go : (b : Bool) → (longest L <? length s) ≡ b → A (take (suc (longest L)) s)
      go true e = long (ltb-true (longest L) (length s) e)
      go false e = let l = ltb-false (longest L) (length s) e in rw (take_all (suc (longest L)) s (omega arith)) whole

  pub judge_prefix : (more : List Condition) (result : List ℕ → List ℕ) (lent : ℕ)
      → judge L more result lent (take (suc (longest L)) s) ≡ judge L more result lent s
  unfolding judge too_few_lent
  judge_prefix more result lent = cut (λ r. judge L more result lent r ≡ judge L more result lent s) refl
      (λ long.
      let t : List ℕ = take (suc (longest L)) s in
      let f : Verdict → Outcome = λ v. outcome v (result t) in
      let g : Verdict → Outcome = λ v. outcome v (result s) in
      step t s f g (λ n p. refl) _ _ refl (λ h. long_alike L s long f g (λ n p. refl) more))

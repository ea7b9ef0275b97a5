-- Where two loops wrap, they are the last and the first that do, and all others are holes.
use Prim.Native.Nat.{ℕ, zero, suc, ◌+◌, ◌≤◌, ◌<◌}
use mathlib.Core.Path.{◌≡◌, refl, sym, ap, ◌∙◌}
use mathlib.Core.Logic.{◌⊎◌, inl, inr}
use mathlib.Core.Bool.{Bool, true, false, cond, true≢false}
use mathlib.Core.List.{List, [], ◌∷◌, map, flatten}
use native.Mathlib.Nat.{eq-or-lt_of_le}
use native.Mathlib.Omega.{arith}
use lib.ListN.{length, get_or, length-map}
use Rattle.numbers.specs.declared.math.Vec3.{Vec3}
use Rattle.tables.specs.Corners.{Corners}
use Rattle.bands.specs.Given.{Measured, Loop, given_of}
use Rattle.lists.specs.Elements.{only, sum}
use Rattle.records.specs.Refusals.{nowhere, at, first_where}
use Rattle.records.proofs.Search.{Least, nowhere≢at, first_holds, first_fails}
use Rattle.call.specs.Face.{loops_in, measured_in, is_wrapping, wrapping, given_in, wraps_in}
use Rattle.call.proofs.Judged.{loop_in, none, wraps_in_lem, unmarked, corners_in_lem}
use Rattle.call.proofs.Each.{all_get_d}
use Rattle.call.proofs.Loops.{measured_some}
use Rattle.call.specs.Later.{wraps_at}
use Rattle.measuring.specs.LastWhere.{last_where}
use Rattle.measuring.proofs.RingsGiven.{Greatest, last-holds, only-first, none_passes, one_passes, as_many, first-given, later-given}
use Rattle.holes.specs.Others.{is_ring, others}
use Rattle.filling.proofs.Others.{is_first, is_second, is_neither, others_are, others-sum, others_many, total-length}

-- ---- what is found last, if anything passes

last_fails : (test : ℕ → Bool) (n : ℕ) → last_where n test ≡ nowhere → (j : ℕ) → j < n → test j ≡ false
unfolding last_where
last_fails test zero e j h = absurd (omega arith)
last_fails test (suc n) e j h = by_test (test n) refl e (eq-or-lt_of_le h) (last_fails test n)
  where
    by_test : (t : Bool) → test n ≡ t → cond t (at n) (last_where n test) ≡ nowhere → (suc j ≡ suc n) ⊎ (suc j < suc n)
        → (last_where n test ≡ nowhere → (j : ℕ) → j < n → test j ≡ false) → test j ≡ false
    by_test true q f w ih = absurd (nowhere≢at (sym f))
    by_test false q f (inl z) ih = let e : j ≡ n = omega arith in ap test e ∙ q
    by_test false q f (inr c) ih = ih f j (omega arith)

-- ---- how many pass

module _ {A : Type 0} (test : A → Bool) (d : A) where
  abbrev Passes : List A → ℕ → Type 0
  Passes l k = (k < length l) × (test (get_or l k d) ≡ true)

  one_more : (x : A) (l : List A) → test x ≡ true → length (only test (x ∷ l)) ≡ suc (length (only test l))
  one_more x l e = ap length (only-first test d x l true e)

  -- the first element alone adds at most one
  grows : (x : A) (l : List A) → (length (only test l) ≤ length (only test (x ∷ l))) × (length (only test (x ∷ l)) ≤ suc (length (only test l)))
  grows x l = by_test (test x) refl
    where
      by_test : (t : Bool) → test x ≡ t → (length (only test l) ≤ length (only test (x ∷ l))) × (length (only test (x ∷ l)) ≤ suc (length (only test l)))
      by_test true e = let n = one_more x l e in (omega arith, omega arith)
      by_test false e = let n = ap length (only-first test d x l false e) in (omega arith, omega arith)

  two_pass : (l : List A) (p q : ℕ) → p < q → Passes l p → Passes l q → 2 ≤ length (only test l)
  two_pass [] p q h (a, t) w = absurd (omega arith)
  two_pass (x ∷ l) p zero h v w = absurd (omega arith)
  two_pass (x ∷ l) zero (suc q) h (a, t) (b, w) = let n = one_more x l t in let m = one_passes test d l q (omega arith) w in omega arith
  two_pass (x ∷ l) (suc p) (suc q) h (a, t) (b, w) = let n = grows x l in let m = two_pass l p q (omega arith) (omega arith, t) (omega arith, w) in omega arith

  three_pass : (l : List A) (p q r : ℕ) → p < q → q < r → Passes l p → Passes l q → Passes l r → 3 ≤ length (only test l)
  three_pass [] p q r h k (a, t) v w = absurd (omega arith)
  three_pass (x ∷ l) p zero r h k t v w = absurd (omega arith)
  three_pass (x ∷ l) p (suc q) zero h k t v w = absurd (omega arith)
  three_pass (x ∷ l) zero (suc q) (suc r) h k (a, t) (b, v) (c, w) =
      let n = one_more x l t in let m = two_pass l q r (omega arith) (omega arith, v) (omega arith, w) in omega arith
  three_pass (x ∷ l) (suc p) (suc q) (suc r) h k (a, t) (b, v) (c, w) =
      let n = grows x l in let m = three_pass l p q r (omega arith) (omega arith) (omega arith, t) (omega arith, v) (omega arith, w) in omega arith

  one-passes-alone : (l : List A) (p : ℕ) → ((k : ℕ) → k < length l → ((k ≡ p) → ⊥) → test (get_or l k d) ≡ false) → length (only test l) ≤ 1
  unfolding only
  one-passes-alone [] p h = omega arith
  one-passes-alone (x ∷ l) zero h =
      let n = grows x l in
      let e = ap length (none_passes test d l (λ j c. h (suc j) (omega arith) (λ z. omega arith))) in
      omega arith
  one-passes-alone (x ∷ l) (suc p) h =
      let n = ap length (only-first test d x l false (h 0 (omega arith) (λ z. omega arith))) in
      let m = one-passes-alone l p (λ k c z. h (suc k) (omega arith) (λ y. z (omega arith))) in
      omega arith

-- ---- the record

module _ (s : List ℕ) (two : wrapping s ≡ 2) where
  abbrev loop : ℕ → Measured Vec3
  loop k = get_or (measured_in s) k none

  wraps_there : (k : ℕ) → wraps_at (wraps_in s) k ≡ is_wrapping (loop k)
  unfolding loop_in
  wraps_there k = wraps_in_lem s k

  many : length (only is_wrapping (measured_in s)) ≡ 2
  unfolding wrapping
  many = two

  not_none : ((k : ℕ) → k < length (wraps_in s) → wraps_at (wraps_in s) k ≡ false) → ⊥
  not_none h =
      let n = as_many s two in
      let e = ap length (none_passes is_wrapping none (measured_in s) (λ j c. sym (wraps_there j) ∙ h j (omega arith))) in
      let m = many in
      omega arith

  -- the searches for the rings find them
  pub some_first : first_where (length (wraps_in s)) (wraps_at (wraps_in s)) ≡ nowhere → ⊥
  some_first e = not_none ((first_fails (wraps_at (wraps_in s)) (length (wraps_in s))).0 e)

  pub some_last : last_where (length (wraps_in s)) (wraps_at (wraps_in s)) ≡ nowhere → ⊥
  some_last e = not_none (last_fails (wraps_at (wraps_in s)) (length (wraps_in s)) e)

  module _ (a b : ℕ) (a_last : last_where (length (wraps_in s)) (wraps_at (wraps_in s)) ≡ at a) (b_first : first_where (length (wraps_in s)) (wraps_at (wraps_in s)) ≡ at b) where
    last : Greatest (wraps_at (wraps_in s)) (length (wraps_in s)) a
    last = last-holds _ _ a a_last

    first : Least (wraps_at (wraps_in s)) (length (wraps_in s)) b
    first = (first_holds (wraps_at (wraps_in s)) (length (wraps_in s)) b).0 b_first

    -- those that wrap lie between the two
    between : (k : ℕ) → k < length (measured_in s) → is_wrapping (loop k) ≡ true → (b ≤ k) × (k ≤ a)
    between k h t = (from (λ l. true≢false (sym t ∙ sym (wraps_there k) ∙ first.before k l)), to (λ l. true≢false (sym t ∙ sym (wraps_there k) ∙ last.behind k l (let n = as_many s two in omega arith))))
      where
        from : (k < b → ⊥) → b ≤ k
        from n = omega arith

        to : (a < k → ⊥) → k ≤ a
        to n = omega arith

    a-passes : Passes is_wrapping none (measured_in s) a
    a-passes = let n = as_many s two in let h = last.inside in (omega arith, sym (wraps_there a) ∙ last.here)

    b-passes : Passes is_wrapping none (measured_in s) b
    b-passes = let n = as_many s two in let h = first.inside in (omega arith, sym (wraps_there b) ∙ first.here)

    pub apart : b < a
    apart = by (eq-or-lt_of_le (between b b-passes.0 b-passes.1).1)
      where
        other : b ≡ a → (k : ℕ) → k < length (measured_in s) → ((k ≡ a) → ⊥) → (t : Bool) → is_wrapping (loop k) ≡ t → t ≡ false
        other e k h n true w = absurd (n (let l = between k h w in omega arith))
        other e k h n false w = refl

        by : (b ≡ a) ⊎ (b < a) → b < a
        by (inl e) = let l = one-passes-alone is_wrapping none (measured_in s) a (λ k h n. other e k h n (is_wrapping (loop k)) refl) in let m = many in absurd (omega arith)
        by (inr h) = h

    wraps-exactly : (k : ℕ) → k < length (measured_in s) → is_wrapping (loop k) ≡ is_ring a b k
    wraps-exactly k h = by_test (is_wrapping (loop k)) refl
      where
        inside : (b ≡ k) ⊎ (b < k) → (k ≡ a) ⊎ (k < a) → is_wrapping (loop k) ≡ true → true ≡ is_ring a b k
        inside x (inl e) t = sym (is_first a b k e)
        inside (inl e) (inr l) t = sym (is_second a b k (λ z. omega arith) (sym e))
        inside (inr l) (inr m) t = let n = three_pass is_wrapping none (measured_in s) b k a l m b-passes (h, t) a-passes in let m = many in absurd (omega arith)

        by_test : (t : Bool) → is_wrapping (loop k) ≡ t → t ≡ is_ring a b k
        by_test true t = let l = between k h t in inside (eq-or-lt_of_le l.0) (eq-or-lt_of_le l.1) t
        by_test false t =
            let not_a : (k ≡ a) → ⊥ = λ e. true≢false (sym a-passes.1 ∙ ap (λ (j : ℕ). is_wrapping (loop j)) (sym e) ∙ t) in
            let not-b : (k ≡ b) → ⊥ = λ e. true≢false (sym b-passes.1 ∙ ap (λ (j : ℕ). is_wrapping (loop j)) (sym e) ∙ t) in
            sym (is_neither a b k not_a not-b)

    -- both are among the loops
    pub inside : a < length (loops_in s)
    inside = let h = a-passes.0 in let n = ap length (unmarked s) in let m = length-map (measured_in s) (λ (m : Measured Vec3). m.corners) in omega arith

    -- "A hole is a loop that does not wrap"
    pub holes-given : (given_in s).holes ≡ others a b (loops_in s)
    unfolding given_in given_of
    holes-given = others_are (λ (m : Measured Vec3). m.corners) is_wrapping none a b (measured_in s) 0 (λ k h. wraps-exactly k h ∙ ap (is_ring a b) (omega arith)) ∙ ap (others a b) (unmarked s)

    pub holes_many : length (given_in s).holes + 2 ≡ length (loops_in s)
    holes_many = let e = ap length holes-given in let n = others_many [] a b (loops_in s) apart inside in omega arith

    -- ---- the rings are loops

    pub first-corners : (given_in s).first.corners ≡ get_or (loops_in s) a []
    first-corners = ap (λ (l : Loop Vec3). l.corners) (first-given s two a a_last) ∙ corners_in_lem s a

    pub later-corners : (given_in s).later.corners ≡ get_or (loops_in s) b []
    later-corners = ap (λ (l : Loop Vec3). l.corners) (later-given s two b b_first) ∙ corners_in_lem s b

    ring_some : (k : ℕ) → is_wrapping (loop k) ≡ true → 0 < length (loop_in s k).corners
    unfolding loop_in
    ring_some k t = all_get_d (measured_some s) k _ (λ e. absurd (true≢false (sym e))) t

    -- holes and rings have all points of the loops
    pub points_parted : length (flatten (given_in s).holes) + (length (given_in s).first.corners + length (given_in s).later.corners) ≡ length (flatten (loops_in s))
    points_parted =
        let e = others-sum length [] a b (loops_in s) apart inside in
        let h = ap (λ (ls : List (Corners Vec3)). sum (map length ls)) holes-given in
        let f = ap length first-corners in
        let l = ap length later-corners in
        let m = total-length (given_in s).holes in
        let n = total-length (loops_in s) in
        omega arith

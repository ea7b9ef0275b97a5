-- What the code finds of the counts of a face record: the total of all points, and the refusals 3 to 6.
use mathlib.Core.Path.{◌≡◌, refl, sym, ap, ◌∙◌, subst}
use mathlib.Core.Bool.{Bool, true, false, cond}
use mathlib.Core.List.{List}
use Prim.Native.Nat.{ℕ, suc, ◌+◌, ◌*◌, ◌≤◌, ◌<◌}
use native.Mathlib.Numerals.{add-one}
use native.Mathlib.Omega.{arith}
use lib.ListN.{length}
use borrow.Author.Tests.{ltb-false, eqb-true, not-false}
use Rattle.records.specs.Bytes.{◌<?◌}
use Rattle.records.specs.Face.{header_size, loops, count, start, points, needed}
use Rattle.std.specs.Prelude.{Some, None}
use Rattle.records.specs.FirstLoop.{Decides, FirstLoop}
use Rattle.records.specs.Refusals.{nowhere, at, first_where, wrong_byte, wrong_header, ends_in_counts, wrong_length}
use Rattle.records.proofs.Search.{nowhere≢at, when_fails, Seeking, seek_start, seek_turn, seek_found, seek_end}

start_next : (s : List ℕ) (total n k : ℕ) → total ≡ start s k → n ≡ count s k → total + n ≡ start s (k + 1)
unfolding start
start_next s total n k e f = rw (add-one k) (omega arith)

-- ---- the total of all points

-- `total` is that of the loops before k
pub record Adding (s : List ℕ) (total k : ℕ) : Type 0 where
  pub far : k ≤ loops s
  pub is : total ≡ start s k
  pub small : total ≤ 65535 * k

module _ {s : List ℕ} where
  pub add_start : Adding s 0 0
  unfolding start
  add_start = record { far = omega arith; is = refl; small = omega arith }

  pub add_turn : {total n k : ℕ} → Adding s total k → k < loops s → n ≡ count s k → n < 65536 → Adding s (total + n) (k + 1)
  add_turn {total} {n} {k} a h e l = record { far = omega arith; is = start_next s total n k a.is e; small = let z = a.small in omega arith }

  pub add_end : {total k : ℕ} → Adding s total k → loops s ≤ k → total ≡ points s
  add_end {total} {k} a h = let e : k ≡ loops s = let z = a.far in omega arith in a.is ∙ ap (start s) e

-- ---- what is known where a condition does not hold

module _ (s : List ℕ) where
  pub header_there : wrong_header s ≡ nowhere → header_size ≤ length s
  unfolding wrong_header
  header_there e = ltb-false (length s) header_size (go (length s <? header_size) e)
    where
      go : (b : Bool) → cond b (at (length s)) (first_where header_size (wrong_byte s)) ≡ nowhere → b ≡ false
      go true e = absurd (nowhere≢at (sym e))
      go false e = refl

  pub counts_there_lem : ends_in_counts s ≡ nowhere → header_size + 2 * loops s ≤ length s
  unfolding ends_in_counts
  counts_there_lem e = ltb-false (length s) (header_size + 2 * loops s) ((when_fails _ (header_size + 2 * loops s)).0 e)

  pub all_there : wrong_length s ≡ nowhere → length s ≡ needed s
  unfolding wrong_length
  all_there e = eqb-true (length s) (needed s) (not-false _ ((when_fails _ (needed s)).0 e))

-- ---- 4 and 5: the loops, each asked by its points and by the total up to its end

pub record Walking (says : ℕ → ℕ → Bool → Type 0) (s : List ℕ) (total k : ℕ) : Type 0 where
  pub adding : Adding s total k
  pub seeking : (test : ℕ → Bool) → Decides says s test → Seeking test (loops s) k

module _ {says : ℕ → ℕ → Bool → Type 0} {s : List ℕ} where
  pub walk_start : Walking says s 0 0
  walk_start = record { adding = add_start; seeking = λ test d. seek_start }

  module _ {total n k : ℕ} {refused : Bool} (w : Walking says s total k) (h : k < loops s) (e : n ≡ count s k) (c : says n (total + n) refused) where
    at_loop : says (count s k) (start s (suc k)) refused
    at_loop =
        let all : total + n ≡ start s (suc k) = start_next s total n k w.adding.is e ∙ ap (start s) (add-one k) in
        subst (λ (m : ℕ). says m (start s (suc k)) refused) e (subst (λ (m : ℕ). says n m refused) all c)

    pub walk_found : refused ≡ true → FirstLoop says s (Some k)
    walk_found t = λ test d. seek_found (w.seeking test d) h (sym (d k refused h at_loop) ∙ t)

    pub walk_turn : n < 65536 → refused ≡ false → Walking says s (total + n) (k + 1)
    walk_turn b f = record { adding = add_turn w.adding h e b; seeking = λ test d. seek_turn (w.seeking test d) h (sym (d k refused h at_loop) ∙ f) }

  pub walk_end : {total k : ℕ} → Walking says s total k → loops s ≤ k → FirstLoop says s None
  walk_end w h = λ test d. seek_end (w.seeking test d) h

-- what is known of a record that a condition has let pass
pub ruleset let_pass = (header_there, counts_there_lem, all_there)

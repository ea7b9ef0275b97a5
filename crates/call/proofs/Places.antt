-- A place is small: by limits whose results can be encoded four bytes hold each place of the whole call. And of a record that is longer than the longest
-- acceptable one the answer depends on one byte more than that alone.
use Prim.Native.Nat.{ℕ, zero, suc, ◌^◌, ◌<◌, suc-le-suc}
use mathlib.Core.Path.{◌≡◌, refl, ap, subst}
use mathlib.Core.Bool.{Bool, true, false}
use mathlib.Core.List.{List, ◌++◌}
use native.Mathlib.Omega.{arith}
use borrow.Author.Tests.{ltb-true, ltb-false}
use lib.ListN.{get_or, take, get_or-append, get_or-eq_default}
use Rattle.records.specs.declared.limits.Limits.{Limits}
use Rattle.records.specs.Accepted.{Accepted}
use Rattle.records.specs.Bytes.{◌<?◌}
use Rattle.records.specs.Call as Call
use Rattle.records.specs.Call.{refused}
use Rattle.records.specs.Encodable.{Encodable}
use Rattle.records.specs.Limits.{version1}
use Rattle.records.specs.Refusals.{nowhere, at, Condition, never, conditions, record_conditions}
use Rattle.records.proofs.Accepted.{accepted_exactly}
use Rattle.records.proofs.Places.{in_row}
use Rattle.records.proofs.Prefix.{longest, judge_prefix}
use Rattle.records.proofs.Refused.{refused_exactly, verdict-passes, refusal_1}
use Rattle.records.proofs.Search.{nowhere≢at}
use Rattle.call.specs.Judge.{result, judge}
use Rattle.call.specs.Later.{later_conditions}
use Rattle.call.proofs.Loops.{loops-wrap}
use Rattle.call.proofs.Plain.{refusal_8, refusal_9, refusal_10, refusal_11, refusal_12}
use Rattle.call.proofs.Strips.{strip-most}

module _ (L : Limits) (fit : Encodable L) (lent : ℕ) (s : List ℕ) (byte : get_or s 2 0 < 256) (p : ℕ) where
  abbrev all : List Condition
  all = conditions L lent ++ later_conditions L

  abbrev Before : ℕ → Type 0
  Before row = (j : ℕ) → j < row → (get_or all j never).place s ≡ nowhere

  abbrev InFourBytes : Type 0
  InFourBytes = p < 2 ^ 32

  -- ---- the conditions of the record alone are the rows 1 to 7

  front : (j : ℕ) → j < 7 → get_or (record_conditions L ++ later_conditions L) j never ≡ get_or (record_conditions L) j never
  front j h = get_or-append (record_conditions L) (later_conditions L) never j h

  record-row : (row : ℕ) → row < 7 → (get_or all (suc row) never).place s ≡ at p → Before (suc row) → InFourBytes
  record-row row h e b =
      let n = in_row L s byte p row (subst (λ (c : Condition). c.place s ≡ at p) (front row h) e)
      (λ j k. subst (λ (c : Condition). c.place s ≡ nowhere) (front j (omega arith)) (b (suc j) (suc-le-suc k))) in
      omega arith

  -- ---- the others come after them

  passed : Before 8 → Accepted L s
  passed b = (accepted_exactly s L).0 ((verdict-passes s (record_conditions L)).1 (λ j. none j (j <? 7) refl))
    where
      none : (j : ℕ) (t : Bool) → (j <? 7) ≡ t → (get_or (record_conditions L) j never).place s ≡ nowhere
      none j true h = let l = ltb-true j 7 h in subst (λ (c : Condition). c.place s ≡ nowhere) (front j l) (b (suc j) (suc-le-suc l))
      none j false h = ap (λ (c : Condition). c.place s) (get_or-eq_default (record_conditions L) never (ltb-false j 7 h))

  later-row : (row : ℕ) → (get_or (later_conditions L) row never).place s ≡ at p → Accepted L s → InFourBytes
  later-row zero e a = let r = (refusal_8 s p).0 e in let h = r.0 in let l = a.loops_are in omega arith
  later-row (suc zero) e a = let r = (refusal_9 s p).0 e in let h = r.1.0 in let l = a.loops_are in omega arith
  later-row (suc (suc zero)) e a = let r = (refusal_10 s p).0 e in let h = r.1 in let w = loops-wrap s in let l = a.loops_are in omega arith
  later-row (suc (suc (suc zero))) e a = let r = (refusal_11 s p).0 e in let h = r.1 in omega arith
  later-row (suc (suc (suc (suc zero)))) e a = let r = (refusal_12 s p L).0 e in let h = r.1 in let m = strip-most s a in omega arith
  later-row (suc (suc (suc (suc (suc row))))) e a = absurd (nowhere≢at e)

  any_row : (row : ℕ) → (get_or all row never).place s ≡ at p → Before row → InFourBytes
  any_row zero e b = let h = ((refusal_1 L s p lent).0 e).1 in omega arith
  any_row (suc zero) e b = record-row 0 (omega arith) e b
  any_row (suc (suc zero)) e b = record-row 1 (omega arith) e b
  any_row (suc (suc (suc zero))) e b = record-row 2 (omega arith) e b
  any_row (suc (suc (suc (suc zero)))) e b = record-row 3 (omega arith) e b
  any_row (suc (suc (suc (suc (suc zero))))) e b = record-row 4 (omega arith) e b
  any_row (suc (suc (suc (suc (suc (suc zero)))))) e b = record-row 5 (omega arith) e b
  any_row (suc (suc (suc (suc (suc (suc (suc zero))))))) e b = record-row 6 (omega arith) e b
  any_row (suc (suc (suc (suc (suc (suc (suc (suc row)))))))) e b = later-row row e (passed (λ j h. b j (omega arith)))

  pub place_small : (n : ℕ) → Call.judge L (later_conditions L) result lent s ≡ refused n p → p < 2 ^ 32
  place_small n e = let f = (refused_exactly L (later_conditions L) result lent s n p).0 e in any_row f.row f.holds f.before

pub prefix_alike : (lent : ℕ) (s : List ℕ) → judge lent (take (suc (longest version1)) s) ≡ judge lent s
prefix_alike lent s = judge_prefix version1 s (later_conditions version1) result lent

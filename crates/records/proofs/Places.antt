-- A place is small: none is above the length of the longest acceptable record, or above the 255 that a byte can tell of loops.
use mathlib.Core.Path.{◌≡◌}
use mathlib.Core.Logic.{◌⊎◌, inl, inr}
use mathlib.Core.List.{List}
use Prim.Native.Nat.{ℕ, zero, suc, ◌+◌, ◌≤◌, ◌<◌}
use native.Mathlib.Omega.{arith}
use lib.ListN.{length, get_or}
use Rattle.records.specs.Face.{header_size}
use Rattle.records.specs.declared.limits.Limits.{Limits}
use Rattle.records.specs.Refusals.{nowhere, at, refuses, verdict, record_conditions, never, wrong_byte}
use Rattle.records.proofs.Search.{nowhere≢at, Least}
use Rattle.records.proofs.Refused.{verdict_refuses, refusal_2, refusal_3, refusal_4, refusal_5, refusal_6_counts, refusal_6_length, refusal_7}
use Rattle.records.proofs.Prefix.{longest, few_loops, few_points}

module _ (L : Limits) (s : List ℕ) (byte : get_or s 2 0 < 256) (p : ℕ) where
  abbrev pub Small : Type 0
  Small = p ≤ longest L + 255

  in_header : ((length s < header_size) × (p ≡ length s)) ⊎ ((header_size ≤ length s) × Least (wrong_byte s) header_size p) → Small
  in_header (inl w) = let a = w.0 in let b = w.1 in omega arith
  in_header (inr w) = let a = w.1.inside in omega arith

  pub in_row : (row : ℕ) → (get_or (record_conditions L) row never).place s ≡ at p → ((j : ℕ) → j < row → (get_or (record_conditions L) j never).place s ≡ nowhere) → Small
  in_row zero h b = in_header ((refusal_2 s p).0 h)
  in_row (suc zero) h b = let e = ((refusal_3 L s p).0 h).1 in omega arith
  in_row (suc (suc zero)) h b = let e = ((refusal_6_counts s p).0 h).1 in let l = few_loops L s (b 1 (omega arith)) in omega arith
  in_row (suc (suc (suc zero))) h b = let e = ((refusal_4 s p).0 h).0 in omega arith
  in_row (suc (suc (suc (suc zero)))) h b = let e = ((refusal_5 L s p).0 h).0 in omega arith
  in_row (suc (suc (suc (suc (suc zero))))) h b =
      let e = ((refusal_6_length s p).0 h).1 in
      let l = few_loops L s (b 1 (omega arith)) in
      let t = few_points L s (b 4 (omega arith)) in
      omega arith
  in_row (suc (suc (suc (suc (suc (suc zero)))))) h b = let e = ((refusal_7 s p).0 h).0 in let t = few_points L s (b 4 (omega arith)) in omega arith
  in_row (suc (suc (suc (suc (suc (suc (suc row))))))) h b = absurd (nowhere≢at h)

  pub place_small : (n : ℕ) → verdict (record_conditions L) s ≡ refuses n p → Small
  place_small n e = let f = (verdict_refuses s (record_conditions L) n p).0 e in in_row f.row f.holds f.before

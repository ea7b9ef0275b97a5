-- A part of a list by its start and count, where it reaches past the end too.
use Rattle.std.proofs.Common.{◌≡◌, ℕ, ◌+◌, ◌-◌, ◌≤◌, ◌<◌, min, List, length, take, drop, sym, ◌∙◌, arith, length-drop}
use native.Mathlib.Decide.{dec_le}
use lib.ListN.{drop_of_length-le}
use lib.Seq.{take_all, take-nil}
use Rattle.lists.specs.Parts.{part_of}

module _ {A : Type 0} (xs : List A) (s c : ℕ) where
  -- the part that the code takes: from the start, or the end where that is past it
  pub part_is : (from to : ℕ) → from ≡ min s (length xs) → to ≡ min (from + c) (length xs) → take (to - from) (drop from xs) ≡ part_of s c xs
  unfolding part_of
  part_is from to f t = by_start (dec_le s (length xs))
    where
      past : length xs < s → take (to - from) (drop from xs) ≡ part_of s c xs
      past h =
          let l : length xs ≤ s = omega arith in
          let m : length xs ≤ from = omega arith in
          rw (drop_of_length-le xs {i = from}, drop_of_length-le xs {i = s}, take-nil (to - from)) (sym (take-nil c))

      short : s ≤ length xs → length xs < s + c → take (to - from) (drop from xs) ≡ part_of s c xs
      short h k =
          let e : from ≡ s = omega arith in
          rw e (take_all (to - s) (drop s xs) (simp length-drop (omega arith)) ∙ sym (take_all c (drop s xs) (simp length-drop (omega arith))))

      within : s + c ≤ length xs → take (to - from) (drop from xs) ≡ part_of s c xs
      within h =
          let e : from ≡ s = omega arith in
          let n : to - s ≡ c = omega arith in
          rw (e, n)

      by_start : Dec (s ≤ length xs) → take (to - from) (drop from xs) ≡ part_of s c xs
      by_start (no h) = past (omega arith)
      by_start (yes h) = by_end (dec_le (s + c) (length xs))
        where
          by_end : Dec (s + c ≤ length xs) → take (to - from) (drop from xs) ≡ part_of s c xs
          by_end (yes k) = within k
          by_end (no k) = short h (omega arith)

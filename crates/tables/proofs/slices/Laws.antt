-- The passes over one slice, on plain lists and numbers.
use Rattle.std.proofs.Common.{◌≡◌, ℕ, ◌+◌, ◌-◌, ◌≤◌, ◌<◌, true, false, leb, List, ◌++◌, length, take, drop, refl, sym, arith, append_assoc}
use borrow.Author.Tests.{leb-true, leb-false}
use lib.Ieee.{nan, div, of_bits, binary64}
use lib.Seq.{drop-drop}
use Rattle.lists.specs.Placed.{placed}
use Rattle.lists.proofs.Placed.{placed-fits, placed_short}

-- the library's NaN
pub nan_is : of_bits binary64 0x7ff8_0000_0000_0000 ≡ nan
unfolding of_bits
nan_is = refl

-- 0 / 0 is it too
pub zero_by_zero : div binary64 (of_bits binary64 0) (of_bits binary64 0) ≡ nan
unfolding div of_bits
zero_by_zero = refl

module _ {A : Type 0} (from : ℕ) (w d : List A) where
  pub copied : (w' : List A) → leb (from + length w) (length d) ≡ true → w' ≡ w
      → take from d ++ (w' ++ drop (from + length w - from) (drop from d)) ≡ placed from w d
  copied w' t e =
      let room : from + length w ≤ length d = leb-true (from + length w) (length d) t in
      let n : from + length w - from ≡ length w = omega arith in
      rw (e, n, placed-fits from w d room, drop-drop (length w) from d) (sym (append_assoc (take from d) w (drop (from + length w) d)))

  pub not_copied : leb (from + length w) (length d) ≡ false → d ≡ placed from w d
  not_copied t =
      let short : length d < from + length w = leb-false (from + length w) (length d) t in
      sym (placed_short from w d short)

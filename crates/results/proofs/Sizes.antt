-- The size of a record from its counts: a loop over the counts, and what the writer may then do.
use mathlib.Core.Path.{◌≡◌, refl, ap, ◌∙◌}
use mathlib.Core.Bool.{true, false}
use mathlib.Core.List.{List, [], ◌∷◌}
use Prim.Native.Nat.{ℕ, ◌+◌, ◌-◌, ◌*◌, ◌≤◌, ◌<◌}
use native.Mathlib.Numerals.{add-one}
use native.Mathlib.Omega.{arith}
use lib.ListN.{length, get_or, drop, drop_of_length-le}
use lib.Seq.{drop-cons}
use borrow.Author.Tests.{lt-ltb, le-ltb, le-leb, lt-leb}
use Rattle.lists.specs.Elements.{sum}
use Rattle.std.specs.Prelude.{Some, None}
use Rattle.results.specs.Written.{all_short, header_holds, size_of}

-- i counts are taken: all are short, and `corners` is their sum
pub record Summing (counts : List ℕ) (corners i : ℕ) : Type 0 where
  pub far : i ≤ length counts
  pub small : corners ≤ 65535 * i
  pub is : sum counts ≡ corners + sum (drop i counts)
  pub short : all_short counts ≡ all_short (drop i counts)

pub sum-start : {counts : List ℕ} → Summing counts 0 0
sum-start = record { far = omega arith; small = omega arith; is = omega arith; short = refl }

module _ (counts : List ℕ) where
  no_loop : length counts < 1 → None ≡ size_of counts
  unfolding size_of header_holds
  no_loop h = rw (lt-leb 1 (length counts) h)

  pub none : {n : ℕ} → n ≡ length counts → n < 1 → None ≡ size_of counts
  none e h = no_loop (omega arith)

  pub too_many : {n : ℕ} → n ≡ length counts → 1 ≤ n → 256 < n → None ≡ size_of counts
  unfolding size_of header_holds
  too_many e l h = rw (le-leb 1 (length counts) (omega arith), lt-leb (length counts) 256 (omega arith))

  module _ {corners i : ℕ} (s : Summing counts corners i) where
    -- the count at i, and the rest
    ahead : i < length counts → drop i counts ≡ get_or counts i 0 ∷ drop (i + 1) counts
    ahead h = rw (add-one i, drop-cons counts i 0 h)

    module _ {n : ℕ} (e : n ≡ length counts) (some : 1 ≤ n) (few : n ≤ 256) where
      pub too_long : i < n → 65535 < get_or counts i 0 → None ≡ size_of counts
      unfolding size_of header_holds all_short
      too_long h l =
          let q : all_short counts ≡ false = s.short ∙ ap all_short (ahead (omega arith)) ∙ rw (le-ltb (get_or counts i 0) 65536 (omega arith)) in
          rw (le-leb 1 (length counts) (omega arith), le-leb (length counts) 256 (omega arith), q)

      pub sum_turn : i < n → get_or counts i 0 ≤ 65535 → Summing counts (corners + get_or counts i 0) (i + 1)
      unfolding sum all_short
      sum_turn h l =
          let a = ahead (omega arith) in
          let q : sum (drop i counts) ≡ get_or counts i 0 + sum (drop (i + 1) counts) = ap sum a in
          let t : all_short (drop i counts) ≡ all_short (drop (i + 1) counts) = ap all_short a ∙ rw (lt-ltb (get_or counts i 0) 65536 (omega arith)) in
          record { far = omega arith; small = let z = s.small in omega arith; is = let z = s.is in omega arith; short = s.short ∙ t }

      pub sized : n ≤ i → Some (record { corners = corners; length = 4 + 10 * (n - 1 + 1) + 40 * corners }) ≡ size_of counts
      unfolding size_of header_holds all_short sum
      sized h =
          let d : drop i counts ≡ [] = drop_of_length-le counts {i = i} (omega arith) in
          let c : sum counts ≡ corners = s.is ∙ rw d (omega arith) in
          let q : all_short counts ≡ true = s.short ∙ ap all_short d in
          rw (le-leb 1 (length counts) (omega arith), le-leb (length counts) 256 (omega arith), q, c, e)

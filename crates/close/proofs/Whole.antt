-- The answer to the bytes that are read is the answer to the whole input.
use Prim.Native.Nat.{ℕ, ◌≤◌}
use mathlib.Core.Path.{◌≡◌, refl, ap, ◌∙◌, subst}
use mathlib.Core.List.{List, []}
use native.Mathlib.Omega.{arith}
use borrow.Author.Tests.{le-leb}
use lib.ListN.{length, take}
use Rattle.lists.specs.Placed.{placed}
use Rattle.lists.proofs.Placed.{front-placed}
use Rattle.records.specs.Bytes.{bytes}
use Rattle.records.specs.Call.{Outcome, refused, closed, output}
use Rattle.records.specs.Limits.{version1}
use Rattle.call.specs.Judge.{judge}
use Rattle.call.proofs.Demands.{complete}
use Rattle.call.proofs.Places.{prefix_alike}
use Rattle.answers.specs.Written.{written, written_length, FoundIn}
use Rattle.answers.proofs.Front.{wrote_within}

-- what is to be written fits where a call has all the bytes that it asks for
fits : (s : List ℕ) (o : Outcome) → judge version1.result s ≡ o → length (output o) ≤ version1.result
unfolding bytes
fits s (refused number place) e = omega arith
fits s (closed result) e = (complete version1.result s result e []).fits

-- so many bytes were lent, r is answered, and the lent bytes, which were `old`, are `new`
module _ (s old : List ℕ) (full : length old ≡ version1.result) {r : ℕ} {new : List ℕ} (answered : r ≡ written_length (judge (length old) s) old)
    (left : new ≡ written (judge (length old) s) old) where
  abbrev front : List ℕ
  front = output (judge version1.result s)

  room : length front ≤ length old
  room = rw full (fits s (judge version1.result s) refl)

  whole : r ≡ length front
  unfolding written_length
  whole = answered ∙ ap (λ (n : ℕ). written_length (judge n s) old) full ∙ rw (le-leb (length front) (length old) room)

  laid : new ≡ placed 0 front old
  laid = left ∙ ap (λ (n : ℕ). written (judge n s) old) full

  pub within : r ≤ length new
  within = wrote_within (judge (length old) s) old (answered, left)

  -- s is as much of the input as there is room for
  module _ (input : List ℕ) {places : ℕ} (enough : places ≡ 20622) (first : s ≡ take places input) where
    judged_alike : judge version1.result s ≡ judge version1.result input
    judged_alike =
        ap (judge version1.result) (first ∙ ap (λ (k : ℕ). take k input) enough) ∙ prefix_alike version1.result input

    pub of_all : FoundIn (judge (length old) s) old new
        → (take r new ≡ output (judge version1.result input)) × FoundIn (judge version1.result input) old new
    of_all found = (
      rw (whole, laid) (front-placed front old room) ∙ ap output judged_alike,
      subst (λ (o : Outcome). FoundIn o old new) (ap (λ (n : ℕ). judge n s) full ∙ judged_alike) found,
    )

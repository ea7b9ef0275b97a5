-- What is to be written stands in the front of the lent bytes, and is read from there.
use Prim.Native.Nat.{ℕ, ◌≤◌, ◌<◌, ◌^◌}
use mathlib.Core.Path.{◌≡◌, refl, sym, ap, ◌∙◌}
use mathlib.Core.Bool.{Bool, true, false, cond}
use mathlib.Core.List.{List, ◌∷◌, ◌++◌}
use native.Mathlib.Nat.{zero-add}
use native.Mathlib.Omega.{arith}
use borrow.Author.Tests.{le-leb, lt-leb, leb-true}
use lib.ListN.{length, drop, length-append}
use lib.Seq.{sets, sets-eq}
use Rattle.lists.proofs.Placed.{placed-fits, placed_short, length-placed}
use Rattle.records.specs.Bytes.{◌≤?◌, bytes, number, number_at}
use Rattle.records.specs.Call.{Outcome, refused, closed, lent_after, output}
use Rattle.std.specs.Prelude.{Ok, Err}
use Rattle.records.specs.declared.refusal.Refusal.{Refusal}
use Rattle.records.specs.Answers.{refusal_number, refusal_place}
use Rattle.closer.specs.Returned.{Tells}
use Rattle.answers.specs.Written.{written, written_length, RefusalIn, FoundIn}

-- r bytes are to be written, and the lent bytes, which were `old`, are `new`
abbrev pub Wrote : Outcome → List ℕ → ℕ → List ℕ → Type 0
Wrote o old r new = (r ≡ written_length o old) × (new ≡ written o old)

-- so many bytes are there
pub wrote_within : (o : Outcome) (old : List ℕ) {r : ℕ} {new : List ℕ} → Wrote o old r new → r ≤ length new
unfolding written_length
wrote_within o old w = rw (w.0, w.1, length-placed 0 (output o) old) (by_room (length (output o) ≤? length old) refl)
  where
    by_room : (t : Bool) → (length (output o) ≤? length old) ≡ t → cond t (length (output o)) 0 ≤ length old
    by_room true e = leb-true (length (output o)) (length old) e
    by_room false e = omega arith

-- ---- six bytes

module _ (old : List ℕ) (number place : ℕ) where
  abbrev six : List ℕ
  six = 0 ∷ number ∷ bytes 4 place

  pub six_short : length old < 6 → Wrote (refused number place) old 0 old
  unfolding bytes written_length
  six_short h = (rw (lt-leb 6 (length old) h), sym (placed_short 0 six old h))

  pub six_written : {new : List ℕ} → 6 ≤ length old → new ≡ sets old 0 (0 ∷ number ∷ bytes 4 place) → Wrote (refused number place) old 6 new
  unfolding bytes written_length
  six_written h s = (rw (le-leb 6 (length old) h), s ∙ sets-eq six old 0 h ∙ sym (placed-fits 0 six old h))

  -- they are read back where four bytes hold the place
  pub six_found : place < 2 ^ 32 → 6 ≤ length old → RefusalIn (written (refused number place) old) number place
  unfolding bytes number number_at
  six_found small h = rw (placed-fits 0 six old h) (record { marked = refl; number_is = refl; place_is = omega arith })

pub found_in : (o : Outcome) (old : List ℕ) {new : List ℕ} → new ≡ written o old → ((number place : ℕ) → o ≡ refused number place → place < 2 ^ 32)
    → FoundIn o old new
found_in o old left small number place e h =
    rw (left, e) (six_found old number place (small number place e) h)

-- ---- a result record

result-written : (result old : List ℕ) → length result ≤ length old → Wrote (closed result) old (length result) (result ++ drop (length result) old)
unfolding written_length
result-written result old h = (
  rw (le-leb (length result) (length old) h),
  ap (λ (k : ℕ). result ++ drop k old) (sym (zero-add (length result))) ∙ sym (placed-fits 0 result old (omega arith)),
)

-- ---- what was judged, and so answered: the lent bytes, which were `old`, are as the call leaves them

module _ (o : Outcome) (old : List ℕ) where
  module _ {new : List ℕ} {n : ℕ} (answered : Tells (Ok n) o) (left : new ≡ lent_after o old) (long : length new ≡ length old) where
    -- a result record fits what was lent
    pub closed-fits : n ≤ length new
    closed-fits = by_outcome o answered left
      where
        by_outcome : (o : Outcome) → Tells (Ok n) o → new ≡ lent_after o old → n ≤ length new
        by_outcome (closed result) told kept =
            let l = length-append result (drop (length result) old) in
            let w = ap length kept in
            omega arith
        by_outcome (refused number place) told kept = absurd told

    -- and is what is to be written
    pub closed-written : Wrote o old n new
    closed-written = by_outcome o answered left
      where
        by_outcome : (o : Outcome) → Tells (Ok n) o → new ≡ lent_after o old → Wrote o old n new
        by_outcome (closed result) told kept =
            let f = closed-fits in
            rw (told, kept) (result-written result old (omega arith))
        by_outcome (refused number place) told kept = absurd told

  -- six bytes are what is to be written of a refusal, which left the lent bytes as they were
  pub refused_written : (r : Refusal) {lent new : List ℕ} {n number place : ℕ} → Tells (Err r) o → lent ≡ lent_after o old
      → number ≡ refusal_number r → place ≡ refusal_place r → Wrote (refused number place) lent n new → Wrote o old n new
  refused_written r {lent} {new} {n} {number} {place} answered left number_is place_is wrote = by_outcome o answered left
    where
      by_outcome : (o : Outcome) → Tells (Err r) o → lent ≡ lent_after o old → Wrote o old n new
      by_outcome (refused m q) told kept =
          let a : number ≡ m = number_is ∙ told.0 in
          let b : place ≡ q = place_is ∙ told.1 in
          rw (← a, ← b, ← kept) wrote
      by_outcome (closed result) told kept = absurd told

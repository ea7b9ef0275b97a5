-- What holds of every face that the call closes, whatever the conditions after 7 and the face that it makes: the record is as described, enough bytes were
-- lent, the bytes are read as that face, their length, and that the lent bytes keep their number.
use mathlib.Core.Path.{◌≡◌, refl, ap, ◌∙◌}
use mathlib.Core.List.{List, [], ◌∷◌, ◌++◌}
use Prim.Native.Nat.{ℕ, zero, suc, ◌+◌, ◌≤◌}
use native.Mathlib.Omega.{arith}
use lib.ListN.{length, drop, length-append, length-drop}
use borrow.Author.Tests.{ltb-false}
use Rattle.lists.specs.Elements.{sum}
use Rattle.records.specs.declared.limits.Limits.{Limits}
use Rattle.records.specs.Refusals.{nowhere, Condition, conditions, record_conditions, too_few_lent, NoneHolds}
use Rattle.records.specs.Accepted.{Accepted}
use Rattle.records.specs.Encodable.{Encodable, most_corners}
use Rattle.records.specs.Result.{Result, encode, decode, result_length, holes_in, corners_in, Writable}
use Rattle.records.specs.Call.{closed, judge, lent_after}
use Rattle.records.proofs.Search.{when_fails}
use Rattle.records.proofs.Refused.{verdict-passes, closed_exactly}
use Rattle.records.proofs.Accepted.{accepted_exactly}
use Rattle.records.proofs.RoundTrip.{decode-encode, length_read, encode-fits}

front-none : (cs ds : List Condition) (s : List ℕ) → NoneHolds (cs ++ ds) s → NoneHolds cs s
front-none [] ds s h j = refl
front-none (c ∷ cs) ds s h zero = h 0
front-none (c ∷ cs) ds s h (suc j) = front-none cs ds s (λ i. h (suc i)) j

enough : (L : Limits) (lent : ℕ) (s : List ℕ) → too_few_lent L lent s ≡ nowhere → L.result ≤ lent
unfolding too_few_lent
enough L lent s e = ltb-false lent L.result ((when_fails _ L.result).0 e)

module _ (L : Limits) (more : List Condition) (face : List ℕ → Result) (lent : ℕ) (s b : List ℕ) (h : judge L more (λ r. encode (face r)) lent s ≡ closed b) where
  none : NoneHolds (conditions L lent ++ more) s
  none = ((closed_exactly L more (λ r. encode (face r)) lent s b).0 h).0

  pub closed_is : b ≡ encode (face s)
  closed_is = ((closed_exactly L more (λ r. encode (face r)) lent s b).0 h).1

  pub closed-lent : L.result ≤ lent
  closed-lent = enough L lent s (none 0)

  pub closed_accepted : Accepted L s
  closed_accepted = (accepted_exactly s L).0 ((verdict-passes s (record_conditions L)).1 (front-none (record_conditions L) more s (λ j. none (suc j))))

  module _ (w : Writable (face s)) where
    -- read from the lent bytes, whatever stands behind the record
    pub closed_read : (rest : List ℕ) → decode (b ++ rest) ≡ face s
    closed_read rest = rw closed_is (decode-encode (face s) w rest)

    -- the length, with the holes and the counts read from those bytes
    pub closed-length : (rest : List ℕ) → length b ≡ result_length (holes_in (b ++ rest)) (corners_in (b ++ rest))
    closed-length rest = rw closed_is (length_read (face s) w rest)

    module _ (fit : Encodable L) (few : length (face s).counts ≤ L.loops + 1) (corners : sum (face s).counts ≤ most_corners L) where
      pub closed-fits : length b ≤ L.result
      closed-fits = rw closed_is (encode-fits (face s) w L fit few corners)

      pub lent_stays : (old : List ℕ) → length old ≡ lent → length (lent_after (closed b) old) ≡ lent
      lent_stays old e =
          let f = closed-fits in
          let l = closed-lent in
          length-append b (drop (length b) old) ∙ ap (λ (n : ℕ). length b + n) (length-drop (length b) old) ∙ (omega arith)

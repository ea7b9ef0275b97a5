-- The call: a face record in, a refusal or the bytes of a result record out.
use Rattle.std.specs.Prelude.{ℕ, List, ◌∷◌, ◌++◌, length, drop}
use Rattle.records.specs.declared.limits.Limits.{Limits}
use Rattle.records.specs.Bytes.{bytes}
use Rattle.records.specs.Refusals.{Verdict, passes, refuses, Condition, conditions, verdict}

pub data Outcome : Type 0 where
  refused : ℕ → ℕ → Outcome
  closed : List ℕ → Outcome

abbrev pub outcome : Verdict → List ℕ → Outcome
outcome passes result = closed result
outcome (refuses number place) result = refused number place

-- by the limits L; `later` are the conditions after 7, `result` gives the result record of a face that none of them refuses
module _ (L : Limits) (later : List Condition) (result : List ℕ → List ℕ) where
  unfoldable pub judge : ℕ → List ℕ → Outcome
  judge lent s = outcome (verdict (conditions L lent ++ later) s) (result s)

-- 01, "The result record": "The call returns 0 and the length", or the refusal and its place
abbrev pub code : Outcome → ℕ
code (refused number place) = number
code (closed result) = 0

abbrev pub value : Outcome → ℕ
value (refused number place) = place
value (closed result) = length result

-- "Bytes past that length keep their values"; a refusal "writes nothing"
abbrev pub lent_after : Outcome → List ℕ → List ℕ
lent_after (refused number place) old = old
lent_after (closed result) old = result ++ drop (length result) old

-- what the program `close` writes: "this record, or six bytes: 0, the refusal, its place in four bytes"
abbrev pub output : Outcome → List ℕ
output (refused number place) = 0 ∷ number ∷ bytes 4 place
output (closed result) = result

-- The whole call: what it answers to a face record. What is claimed of the answer stands in Demands.
use Rattle.std.specs.Prelude.{ℕ, List, ◌++◌}
use Rattle.records.specs.Call as Call
use Rattle.records.specs.Call.{Outcome}
use Rattle.records.specs.Limits.{version1}
use Rattle.records.specs.Refusals.{Condition, conditions}
use Rattle.records.specs.Result.{encode}
use Rattle.call.specs.Later.{later_conditions}
use Rattle.call.specs.Paths.{result_in}

-- the conditions of the refusals 1 to 12, in the order in which they are tested, where so many result bytes are lent
abbrev pub all_conditions : ℕ → List Condition
all_conditions lent = conditions version1 lent ++ later_conditions version1

-- the result record of a face that none of them refuses
abbrev pub result : List ℕ → List ℕ
result s = encode (result_in s)

-- what a call comes to that is given the face record s and lent so many result bytes
abbrev pub judge : ℕ → List ℕ → Outcome
judge lent s = Call.judge version1 (later_conditions version1) result lent s

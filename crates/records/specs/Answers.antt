-- The paper's number and place for each answer of the code.
use Rattle.std.specs.Prelude.{ℕ, Option, Some, None, Result, Ok, Err}
use Rattle.records.specs.declared.refusal.Refusal.{Refusal}
use Rattle.records.specs.declared.refusal.Refusal.TheVariants.{TooFewLent, WrongHeader, TooManyLoops, TooFewPoints, TooManyPoints, WrongLength, BadReal, OpenRing, OneRing, ManyRings, OpenSurface, LongStrip}
use Rattle.records.specs.Refusals.{Place, nowhere, at, Verdict, passes, refuses}

abbrev pub place_of : Option ℕ → Place
place_of None = nowhere
place_of (Some p) = at p

-- the number of a refusal in the table, and its place
abbrev pub refusal_number : Refusal → ℕ
refusal_number (TooFewLent p) = 1
refusal_number (WrongHeader p) = 2
refusal_number (TooManyLoops p) = 3
refusal_number (TooFewPoints p) = 4
refusal_number (TooManyPoints p) = 5
refusal_number (WrongLength p) = 6
refusal_number (BadReal p) = 7
refusal_number (OpenRing p) = 8
refusal_number (OneRing p) = 9
refusal_number (ManyRings p) = 10
refusal_number (OpenSurface p) = 11
refusal_number (LongStrip p) = 12

abbrev pub refusal_place : Refusal → ℕ
refusal_place (TooFewLent p) = p
refusal_place (WrongHeader p) = p
refusal_place (TooManyLoops p) = p
refusal_place (TooFewPoints p) = p
refusal_place (TooManyPoints p) = p
refusal_place (WrongLength p) = p
refusal_place (BadReal p) = p
refusal_place (OpenRing p) = p
refusal_place (OneRing p) = p
refusal_place (ManyRings p) = p
refusal_place (OpenSurface p) = p
refusal_place (LongStrip p) = p

-- what an answer says of the conditions, whatever it gives where they pass
abbrev pub verdict_of : {A : Type 0} → Result A Refusal → Verdict
verdict_of (Ok a) = passes
verdict_of (Err r) = refuses (refusal_number r) (refusal_place r)

-- 02, N5: "A check that passes returns 0 and 0."
abbrev pub number_of : Verdict → ℕ
number_of passes = 0
number_of (refuses n p) = n

abbrev pub place_in : Verdict → ℕ
place_in passes = 0
place_in (refuses n p) = p

-- What the call answers, and an answer as the pair of numbers that 01 names.
use Rattle.std.specs.Prelude.{ℕ, min, ◌≡◌, List, Float, length, take, Option, Result, Ok, Err}
use Rattle.std.specs.Option.{unwrap_or}
use Rattle.tables.specs.declared.corners.Corner.{Corner as Held}
use Rattle.records.specs.declared.refusal.Refusal.{Refusal}
use Rattle.records.specs.Answers.{refusal_number, refusal_place}
use Rattle.records.specs.Call.{Outcome, refused, closed}
use Rattle.results.specs.declared.Path.{Path}
use Rattle.results.specs.Written.{WrittenTo}

-- 01, "The result record": "The call returns 0 and the length", or the refusal and its place. An answer tells an outcome by the length of its
-- result record, or by the number of the refusal and its place.
abbrev pub Tells : Result ℕ Refusal → Outcome → Type 0
Tells (Ok n) (closed result) = n ≡ length result
Tells (Err r) (refused number place) = (refusal_number r ≡ number) × (refusal_place r ≡ place)
Tells (Ok n) (refused number place) = ⊥
Tells (Err r) (closed result) = ⊥

abbrev pub code_of : Result ℕ Refusal → ℕ
code_of (Ok n) = 0
code_of (Err r) = refusal_number r

abbrev pub value_of : Result ℕ Refusal → ℕ
value_of (Ok n) = n
value_of (Err r) = refusal_place r

-- r bytes are written of a result with so many of the counts, none where something was too short
pub record WrittenBytes (path : Path) (loops : ℕ) (counts : List ℕ) (areas : List Float) (t : List Held) (old new : List ℕ) (r : ℕ) : Type 0 where
  pub written : Option ℕ
  pub written_to : WrittenTo path (take (min loops (length counts)) counts) areas t old new written
  pub bytes : r ≡ unwrap_or written 0

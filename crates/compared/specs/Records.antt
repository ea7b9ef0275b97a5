-- What reading and writing records answer, as it crosses to another language: 0 in the first place where nothing was done.
use Rattle.std.specs.Prelude.{ℕ, zero, suc, Option, Some, None}
use Rattle.results.specs.declared.Path.{Path}
use Rattle.results.specs.declared.Path.TheVariants.{Closed, Wrapped, Whole}
use Rattle.results.specs.declared.RecordSize.{RecordSize}
use Rattle.compared.specs.declared.of_records.Counted.{Counted}
use Rattle.compared.specs.declared.of_results.Room.{Room}

abbrev pub counted : Option ℕ → Counted
counted (Some n) = record { done = 1; number = n }
counted None = record { done = 0; number = 0 }

abbrev pub room_of : Option RecordSize → Room
room_of (Some size) = record { holds = 1; corners = size.corners; length = size.length }
room_of None = record { holds = 0; corners = 0; length = 0 }

-- 01, "The result record": path (0 closed, 1 wrapped, 2 whole surface); what is over 2 counts as whole
abbrev pub path_from : ℕ → Path
path_from zero = Closed
path_from (suc zero) = Wrapped
path_from (suc (suc k)) = Whole

-- What the passes over a slice do to the rows of a table: named by `using`, where a promise speaks of rows.
use Rattle.tables.proofs.Rows.{length-rows, rows-reverse, rows-each-u}
use Rattle.tables.proofs.PartRows.{rows-placed, rows_of_part}
use Rattle.tables.proofs.Unless.{rows_unless}

pub ruleset row_steps = (length-rows, rows-placed, rows_of_part, rows-reverse, rows-each-u, rows_unless)

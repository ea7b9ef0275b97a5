use Rattle.tables.proofs.ColumnLaws.{Taking}
use Rattle.tables.proofs.columns.column_into.Given as goal

abbrev pub invariant-loop-i : goal.invariant-loop-i
invariant-loop-i g l = Taking (goal.F-post g l.read) l.t l.initial.dst l.dst l.i

use Rattle.tables.proofs.ColumnLaws.{Putting}
use Rattle.tables.proofs.columns.rows_from.Given as goal

abbrev pub invariant-loop-i : goal.invariant-loop-i
invariant-loop-i l = Putting l.fn.u l.v l.x l.y l.z l.initial.t l.n l.t l.i

use Rattle.closed_region.proofs.BoxTable.{Growing}
use Rattle.closed_region.proofs.box_table.box_of.Given as goal

abbrev pub invariant-loop-row : goal.invariant-loop-row
invariant-loop-row g l = Growing (g.R.TableRow.rows_of l.t) l.b l.row-index

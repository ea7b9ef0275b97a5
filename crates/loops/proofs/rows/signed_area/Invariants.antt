use Rattle.loops.proofs.rows.Reading.{Adding}
use Rattle.loops.proofs.rows.signed_area.Given as goal

abbrev pub invariant-loop-i : goal.invariant-loop-i
invariant-loop-i g l = Adding g.R.TableRow.rows_of l.t l.sum l.i

use Rattle.full_domain.proofs.WholeRows.{Putting}
use Rattle.full_domain.proofs.table.put_side.Given as goal

abbrev pub invariant-loop-i : goal.invariant-loop-i
invariant-loop-i l = Putting l.patch.surface l.patch.frame l.axis l.fixed l.back l.rungs l.initial.t l.start l.t l.i

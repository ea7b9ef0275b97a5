use Rattle.records.proofs.Reals.{Scan}
use Rattle.records.proofs.check.first_outside.Given as goal

abbrev pub invariant-loop-j : goal.invariant-loop-j
invariant-loop-j g l = Scan l.face l.first l.count l.j

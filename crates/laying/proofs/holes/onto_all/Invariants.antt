use Rattle.laying.proofs.EachHole.{Moving}
use Rattle.laying.proofs.holes.onto_all.Given as goal

abbrev pub invariant-loop-points : goal.invariant-loop-points
invariant-loop-points l = Moving l.period l.lo l.counts l.initial.t l.t l.from l.points-index

use Rattle.holes.proofs.picked.Laws.{Picking}
use Rattle.holes.proofs.picked.pick.Given as goal

abbrev pub invariant-loop-i : goal.invariant-loop-i
invariant-loop-i g l = Picking l.at l.src l.a l.b l.initial.dst l.dst l.k l.i

use Rattle.std.proofs.Common.{map}
use Rattle.rings.proofs.Decisions.{Nearing}
use Rattle.rings.proofs.choices.nearest.Given as goal

abbrev pub invariant-loop-i : goal.invariant-loop-i
invariant-loop-i g l = Nearing l.period l.cut (map g.T.RingPoint.u_of l.ring) l.best l.low l.i

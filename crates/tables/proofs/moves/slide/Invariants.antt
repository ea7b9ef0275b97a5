use Rattle.lists.proofs.Mapping.{Mapping}
use Rattle.tables.proofs.moves.slide.Given as goal

abbrev pub invariant-loop-x : goal.invariant-loop-x
invariant-loop-x g l = Mapping (g.T.RingPoint.slid l.m) l.fn.s l.x-items l.x-index

use Rattle.closed_region.proofs.MovedHoles.{Rephasing}
use Rattle.closed_region.proofs.holes.rephase_holes.Given as goal

abbrev pub invariant-loop-k : goal.invariant-loop-k
invariant-loop-k l = Rephasing l.outer l.b l.counts l.initial.t l.initial.areas l.t l.areas l.from l.k

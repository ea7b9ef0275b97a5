use Rattle.closed_region.proofs.outer.Laws as laws
use Rattle.closed_region.proofs.outer.last_largest.Given as goal

abbrev pub invariant-loop-i : goal.invariant-loop-i
invariant-loop-i l = laws.Largest l.areas l.best l.i

use Rattle.strip.proofs.repeats.Laws as laws
use Rattle.strip.proofs.repeats.trim.Given as goal

abbrev pub invariant-loop-end : goal.invariant-loop-end
invariant-loop-end l = laws.Trimming l.t l.end

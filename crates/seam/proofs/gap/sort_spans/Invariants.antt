use Rattle.seam.proofs.Sorting.{Sorting}
use Rattle.seam.proofs.gap.sort_spans.Given as goal

abbrev pub invariant-loop-i : goal.invariant-loop-i
invariant-loop-i l = Sorting l.initial.spans l.spans l.i

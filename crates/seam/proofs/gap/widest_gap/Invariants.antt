use Rattle.lists.proofs.Folds.{Folding}
use Rattle.seam.specs.Gap.{passed}
use Rattle.seam.proofs.gap.widest_gap.Given as goal

abbrev pub invariant-loop-s : goal.invariant-loop-s
invariant-loop-s l = Folding passed l.initial.g l.spans l.g l.s-index

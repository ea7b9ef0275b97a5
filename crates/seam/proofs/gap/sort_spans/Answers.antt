use Rattle.seam.proofs.Sorting.{sorting, sorting_turn}
use Rattle.seam.proofs.gap.sort_spans.Goals as goal

pub loop-i-init : goal.loop-i-init
loop-i-init c = sorting _

pub loop-i-preserved : goal.loop-i-preserved
loop-i-preserved c = sorting_turn _ _ _ _ _ c.loop-i.invariant c.loop-i-test.true c.below.ensures
    c.turn_left.ensures.after c.turn_left.ensures.len

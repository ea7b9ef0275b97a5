use native.Mathlib.Omega.{arith}
use Rattle.records.proofs.Counting as counting
use Rattle.records.proofs.points.Goals as goal

pub loop-k-init : goal.loop-k-init
loop-k-init c = (counting.add_start, c.loops-k-end.ensures)

pub loop-k-preserved : goal.loop-k-preserved
loop-k-preserved c =
    (counting.add_turn c.loop-k.invariant.0 (omega arith) c.count_at-total.ensures.0 c.count_at-total.ensures.1, c.loop-k.invariant.1)

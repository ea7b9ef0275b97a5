use native.Mathlib.Omega.{arith}
use Rattle.records.proofs.Counting.{walk_start, walk_found, walk_turn, walk_end}
use Rattle.records.proofs.check.first_loop.Goals as goal

pub loop-k-init : goal.loop-k-init
loop-k-init g c = (walk_start, c.loops-k-end.ensures)

pub returns-then-refuses : goal.returns-then-refuses
returns-then-refuses g c = walk_found c.loop-k.invariant.0 (omega arith) c.count_at-n.ensures.0 c.refuses.ensures c.if-refuses.true

pub loop-k-preserved : goal.loop-k-preserved
loop-k-preserved g c = (
  walk_turn c.loop-k.invariant.0 (omega arith) c.count_at-n.ensures.0 c.refuses.ensures c.count_at-n.ensures.1 c.if-refuses.false,
  c.loop-k.invariant.1,
)

pub returns : goal.returns
returns g c = walk_end c.loop-k.invariant.0 (omega arith)

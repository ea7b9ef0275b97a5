use Rattle.std.proofs.Common.{arith}
use Rattle.surfaces.proofs.knots.Walk as walk
use Rattle.surfaces.proofs.knots.merge_even.Goals as goal

pub overflow_add-k : goal.overflow_add-k
overflow_add-k c = let few = walk.writing_few _ _ _ _ _ c.loop-x.invariant c.in-Some.ensures.steps in omega arith

pub loop-x-preserved : goal.loop-x-preserved
loop-x-preserved c = walk.writing_turn _ _ _ _ _ c.loop-x.invariant c.in-Some.ensures.steps c.put-in-loop-x.ensures

pub returns-then-lo-hi : goal.returns-then-lo-hi
returns-then-lo-hi c =
    let r = walk.writing_ended _ _ _ _ _ c.loop-x.invariant c.in-None.ensures.steps.0 _ c.division.ensures c.put.ensures c.if-lo-hi.true c.max.ensures
    c.put-then-lo-hi.ensures in record { out_after = r.0; end_written = r.1 }

pub returns-else-lo-hi : goal.returns-else-lo-hi
returns-else-lo-hi c =
    let r = walk.writing_end _ _ _ _ _ c.loop-x.invariant c.in-None.ensures.steps.0 _ c.division.ensures c.put.ensures c.if-lo-hi.false in
    record { out_after = r.0; end_written = r.1 }

use Rattle.std.proofs.Common.{length, inl, arith, ap}
use Rattle.std.proofs.lemmas.Iterator.Consumers.{YieldsList-from_first, count_from_yields_List}
use Rattle.surfaces.specs.Rungs.{kept_left}
use Rattle.surfaces.proofs.knots.Walk as walk
use Rattle.surfaces.proofs.knots.merge_even_steps.Goals as goal

pub count-k-requires-clause-fits : goal.count-k-requires-clause-fits
count-k-requires-clause-fits c =
    let few = walk.others-few c.args.lo c.args.hi c.args.n in
    let long = ap length c.new.ensures in
    inl (omega arith)

pub returns-then-lo-hi : goal.returns-then-lo-hi
returns-then-lo-hi c =
    let all = count_from_yields_List _ _ c.count-k.ensures.ran (YieldsList-from_first (λ x. x) kept_left _ c.new.ensures) in
    let r = walk.counted_ended _ _ _ all c.if-lo-hi.true c.max.ensures in
    record { value = r.0; ends_on = r.1 }

pub returns-else-lo-hi : goal.returns-else-lo-hi
returns-else-lo-hi c =
    let all = count_from_yields_List _ _ c.count-k.ensures.ran (YieldsList-from_first (λ x. x) kept_left _ c.new.ensures) in
    let r = walk.counted_end _ _ _ all c.if-lo-hi.false in
    record { value = r.0; ends_on = r.1 }

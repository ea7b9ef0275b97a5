use Rattle.std.proofs.Common.{refl}
use Rattle.wrapped_region.specs.Rings.{rings_of}
use Rattle.wrapped_region.proofs.ordered.Laws.{ordered_first, ordered_later}
use Rattle.wrapped_region.proofs.ordered.close_ordered.Goals as goal

pub returns-then-first_is_lower : goal.returns-then-first_is_lower
returns-then-first_is_lower c =
    let r = ordered_first _ _ c.args.with1 c.args.with2 (rings_of c.args.first.now c.args.later.now) _ _ _ _ _ _ _ _ _ _ _
    c.v_period.ensures
    c.mean_v-mean1.ensures
    c.mean_v-mean2.ensures
    c.first_is_lower.ensures
    c.if-first_is_lower.true
    c.crosses-crossed.ensures
    (c.close_between.ensures.value, c.close_between.ensures.out_after)
    refl c.close_between.ensures.upper_after in record { value = r.0; out_after = r.1.0; first_after = r.1.1.0; later_after = r.1.1.1 }

pub returns : goal.returns
returns c = let r = ordered_later _ _ c.args.with1 c.args.with2 (rings_of c.args.first.now c.args.later.now) _ _ _ _ _ _ _ _ _ _ _
    c.v_period.ensures
    c.mean_v-mean1.ensures
    c.mean_v-mean2.ensures
    c.first_is_lower.ensures
    c.if-first_is_lower.false
    c.crosses-crossed-2.ensures
    (c.close_between-2.ensures.value, c.close_between-2.ensures.out_after)
    refl c.close_between-2.ensures.upper_after in record { value = r.0; out_after = r.1.0; first_after = r.1.1.0; later_after = r.1.1.1 }

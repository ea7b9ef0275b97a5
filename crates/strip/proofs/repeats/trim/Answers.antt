use Rattle.std.proofs.Common.{refl, ◌∙◌}
use Rattle.strip.proofs.repeats.Laws as laws
use Rattle.strip.proofs.repeats.trim.Goals as goal

pub returns-then-not-repeated_by : goal.returns-then-not-repeated_by
returns-then-not-repeated_by c = laws.trim_stop _ _ _ c.loop-end.invariant c.loop-end-test.true c.repeated_by.ensures
    c.if-not-repeated_by.true

pub loop-end-init : goal.loop-end-init
loop-end-init c = laws.trimming _ _ refl

pub loop-end-preserved : goal.loop-end-preserved
loop-end-preserved c = laws.trim_again _ _ _ c.loop-end.invariant c.loop-end-test.true c.repeated_by.ensures
    c.if-not-repeated_by.false

pub returns : goal.returns
returns c = c.min.ensures ∙ laws.trim_few _ _ c.loop-end.invariant c.loop-end-test.false

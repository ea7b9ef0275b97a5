use Rattle.std.proofs.Common.{true, false, length, refl, ap, ◌∙◌, arith, rules}
use Rattle.surfaces.specs.Rungs.{kept_left}
use Rattle.surfaces.proofs.knots.Walk.{left_step, left_none}
use Rattle.surfaces.proofs.knots.KeptDivisionsIterator.next.Goals as goal

pub loop-i-init : goal.loop-i-init
unfolding kept_left
loop-i-init c = refl

pub loop-i-preserved : goal.loop-i-preserved
loop-i-preserved c = c.loop-i.invariant ∙ left_step _ _ _ _ _ _ true c.loop-i-test.true c.division-x.ensures c.near.ensures c.if-not-near.false

pub returns-then-not-near-clause-steps : goal.returns-then-not-near-clause-steps
unfolding kept_left
returns-then-not-near-clause-steps c = c.loop-i.invariant ∙ left_step _ _ _ _ _ _ false c.loop-i-test.true c.division-x.ensures c.near.ensures c.if-not-near.true

pub returns-then-not-near-clause-goes : goal.returns-then-not-near-clause-goes
returns-then-not-near-clause-goes c = let shorter = ap length (returns-then-not-near-clause-steps c) in search rules

pub returns-clause-steps : goal.returns-clause-steps
unfolding kept_left
returns-clause-steps c = (c.loop-i.invariant ∙ left_none _ _ _ _ _ _ c.loop-i-test.false, left_none _ _ _ _ _ _ (omega arith))

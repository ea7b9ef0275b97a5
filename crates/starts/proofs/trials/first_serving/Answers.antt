use borrow.Author.Rules.{rules}
use Rattle.starts.proofs.Laws as laws
use Rattle.starts.proofs.trials.first_serving.Goals as goal

pub returns-then-serves : goal.returns-then-serves
returns-then-serves c = laws.trying_found _ _ _ _ _ _ _ c.loop-k.invariant _
    c.loop-k-test.true c.serves.ensures c.if-serves.true

pub loop-k-preserved : goal.loop-k-preserved
loop-k-preserved c = laws.trying_turn _ _ _ _ _ _ _ c.loop-k.invariant _ _ (search rules)
    c.loop-k-test.true c.serves.ensures c.if-serves.false

pub returns : goal.returns
returns c = laws.trying_end _ _ _ _ _ _ _ c.loop-k.invariant c.loop-k-test.false

pub loop-k-init : goal.loop-k-init
loop-k-init c = laws.trying _ _ _ _ _ c.requires (laws.starts_of _ _ c.saturating_sub-all.ensures)

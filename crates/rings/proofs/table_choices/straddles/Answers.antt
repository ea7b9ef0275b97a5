use Rattle.rings.proofs.Decisions.{past_end, below-begin}
use Rattle.rings.proofs.table_choices.straddles.Goals as goal

pub returns-then-greatest-lo : goal.returns-then-greatest-lo
returns-then-greatest-lo c = past_end _ _ _ _ c.greatest.ensures c.if-greatest-lo.true

pub returns : goal.returns
returns c = below-begin _ _ _ _ c.greatest.ensures c.if-greatest-lo.false _ c.least.ensures

use Rattle.full_domain.proofs.WholeRows.{walked-back, walked_on}
use Rattle.full_domain.proofs.table.rung_of.Goals as goal

pub returns-then-back : goal.returns-then-back
returns-then-back c = rw c.if-back.true (walked-back c.args.rungs.now _ c.requires)

pub returns : goal.returns
returns c = rw c.if-back.false (walked_on c.args.rungs.now _ c.requires)

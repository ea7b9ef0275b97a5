use Rattle.std.proofs.Common.{ap, ◌∙◌, arith}
use Rattle.tables.specs.Rows.{rows}
use Rattle.tables.proofs.Rows.{rows-set}
use Rattle.full_domain.proofs.WholeRows.{putting_turn, putting_end}
use Rattle.full_domain.proofs.table.put_side.Goals as goal

pub loop-i-preserved : goal.loop-i-preserved
loop-i-preserved c = putting_turn _ _ _ _ _ _ _ _ _ _ _ _ _ c.loop-i.invariant (omega arith)
    c.rung_of-x.ensures c.corner_along.ensures (ap rows c.put.ensures ∙ rows-set _ _ _)

pub returns : goal.returns
returns c = putting_end _ _ _ _ _ _ _ _ _ _ c.loop-i.invariant (omega arith)

use Rattle.std.proofs.Common.{arith}
use Rattle.tables.proofs.ColumnLaws.{taking, taking_turn, taking_end, taking_none}
use Rattle.tables.proofs.columns.column_into.Goals as goal

pub returns-then-dst-t : goal.returns-then-dst-t
returns-then-dst-t g c = taking_none _ _ _ (omega arith)

pub loop-i-init : goal.loop-i-init
loop-i-init g c = taking _ _ _ (omega arith)

pub loop-i-preserved : goal.loop-i-preserved
loop-i-preserved g c = taking_turn _ _ _ _ _ _ c.loop-i.invariant c.loop-i-test.true c.read.ensures

pub returns : goal.returns
returns g c = taking_end _ _ _ _ _ c.loop-i.invariant (omega arith)

use Rattle.std.proofs.Common.{arith}
use Rattle.tables.proofs.ColumnLaws.{putting, putting_held, putting_end, putting_none}
use Rattle.tables.proofs.columns.rows_from.Goals as goal

pub returns-then-t-n : goal.returns-then-t-n
returns-then-t-n c = putting_none c.args.u.now c.args.v.now c.args.x.now c.args.y.now c.args.z.now c.args.t.now c.min-n.result (omega arith) (omega arith)

pub loop-i-init : goal.loop-i-init
loop-i-init c = putting _ _ _ _ _ _ _ (omega arith) (omega arith)

pub loop-i-preserved : goal.loop-i-preserved
loop-i-preserved c = putting_held _ _ _ _ _ _ _ _ _ c.loop-i.invariant c.loop-i-test.true

pub returns : goal.returns
returns c = putting_end _ _ _ _ _ _ _ _ _ c.loop-i.invariant c.loop-i-test.false

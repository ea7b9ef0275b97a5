use Rattle.std.proofs.Common.{arith}
use Rattle.tables.proofs.AnyRows.{rows_counted, row_there}
use Rattle.closed_region.proofs.BoxTable.{growing_turn, growing_end}
use Rattle.closed_region.proofs.box_table.box_of.Goals as goal

pub loop-row-preserved : goal.loop-row-preserved
loop-row-preserved g c =
    let are = g.met.R.TableRow.rows_are in
    let many = rows_counted _ _ are c.args.t.now in
    let there = row_there _ _ are _ _ _ _ c.loop-row-test.true c.row-item.is c.corner-c.ensures in
    growing_turn _ _ _ _ c.loop-row.invariant (omega arith) (rw there c.hull-b.ensures)

pub returns : goal.returns
returns g c =
    let many = rows_counted _ _ g.met.R.TableRow.rows_are c.args.t.now in
    growing_end _ _ _ c.loop-row.invariant (omega arith)

use Rattle.std.proofs.Common.{arith, sym, ap, ◌∙◌}
use Rattle.tables.proofs.AnyRows.{rows_counted, row_there}
use Rattle.results.proofs.Corners as corners
use Rattle.results.proofs.Rows as rows
use Rattle.results.proofs.put_positions.Goals as goal

pub loop-i-preserved : goal.loop-i-preserved
loop-i-preserved g c =
    let are = g.met.R.TableRow.rows_are in
    let many = rows_counted _ _ are c.args.t.now in
    let there = row_there _ _ are _ _ _ _ c.loop-i-test.true c.index-t-i.is c.corner-c.ensures in
    let bytes = corners.three_reals _ _ _ ∙ ap corners.xyz_bytes (sym there) in
    (omega arith, rows.corners_turn corners.xyz_wide c.loop-i.invariant.1 (omega arith) bytes c.put_reals.ensures)

pub returns : goal.returns
returns g c =
    let many = rows_counted _ _ g.met.R.TableRow.rows_are c.args.t.now in
    rows.corners_end corners.xyz_wide c.loop-i.invariant.1 (omega arith) (corners.all_xyz _)

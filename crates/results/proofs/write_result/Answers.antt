use Rattle.std.proofs.Common.{sym}
use Rattle.tables.proofs.AnyRows.{rows_counted}
use Rattle.results.proofs.Whole as whole
use Rattle.results.proofs.write_result.Goals as goal

pub returns-in_err-size : goal.returns-in_err-size
returns-in_err-size g c = rw c.from_residual.ensures (whole.too_large c.in_err-size.ensures)

pub returns-then-out-size : goal.returns-then-out-size
returns-then-out-size g c = whole.short_out (whole.sized c.in_ok-size.ensures) c.if-out-size.true

pub returns-then-areas-loops : goal.returns-then-areas-loops
returns-then-areas-loops g c = whole.short_areas (whole.sized c.in_ok-size.ensures)
    c.if-areas-loops.true

pub returns-then-loops-size : goal.returns-then-loops-size
returns-then-loops-size g c = whole.short_columns
    (whole.sized c.in_ok-size.ensures)
    (sym (rows_counted _ _ g.met.R.TableRow.rows_are c.args.loops.corners.now)) c.if-loops-size.true

pub put_result-requires : goal.put_result-requires
put_result-requires g c = whole.fitting
    (whole.sized c.in_ok-size.ensures)
    c.if-out-size.false c.if-areas-loops.false (sym (rows_counted _ _ g.met.R.TableRow.rows_are c.args.loops.corners.now))
    c.if-loops-size.false

pub returns : goal.returns
returns g c = whole.done
    (whole.sized c.in_ok-size.ensures)
    (whole.fitting (whole.sized c.in_ok-size.ensures) c.if-out-size.false c.if-areas-loops.false (sym (rows_counted _ _ g.met.R.TableRow.rows_are c.args.loops.corners.now))
    c.if-loops-size.false)
    c.put_result.ensures

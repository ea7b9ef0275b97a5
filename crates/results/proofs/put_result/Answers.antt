use Rattle.tables.proofs.AnyRows.{rows_counted, rows_taken}
use Rattle.results.proofs.Whole as whole
use Rattle.results.proofs.put_result.Goals as goal

pub slice_bounds-t-end : goal.slice_bounds-t-end
slice_bounds-t-end g c = whole.front_long c.requires _ (rows_counted _ _ g.met.R.TableRow.rows_are c.args.loops.corners.now)

pub returns : goal.returns
returns g c =
    let taken = rows_taken _ _ g.met.R.TableRow.rows_are c.args.m c.args.loops.corners.now in
    whole.whole c.requires _ taken
    c.put_head.ensures
    c.put_counts.ensures
    c.put_reals.ensures
    c.put_parameters.ensures c.put_positions.ensures

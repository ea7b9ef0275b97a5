use Rattle.std.proofs.Common.{arith, ap, sym, ◌∙◌}
use lib.Ieee.{nan, div, neg, of_bits}
use Rattle.numbers.specs.Order.{min_of}
use Rattle.loops.specs.Span.{least_of}
use Rattle.lists.proofs.Folds.{folding, folding_turn, folding_end}
use Rattle.tables.proofs.AnyRows.{us_counted, u_there}
use Rattle.rings.proofs.table_choices.least.Goals as goal

pub loop-c-init : goal.loop-c-init
unfolding div neg of_bits
loop-c-init g c = folding _ _ _

pub loop-c-preserved : goal.loop-c-preserved
loop-c-preserved g c =
    let many = us_counted _ _ g.met.R.TableRow.rows_are c.args.t.now in
    let u = u_there _ _ g.met.R.TableRow.rows_are _ _ _ _ c.loop-c-test.true c.c-item.is c.corner.ensures in
    folding_turn _ _ _ nan _ _ _ c.loop-c.invariant (omega arith) (c.min-lo.ensures ∙ ap (min_of c.loop-c.lo) (sym u))

pub returns : goal.returns
unfolding least_of
returns g c =
    let many = us_counted _ _ g.met.R.TableRow.rows_are c.args.t.now in
    folding_end _ _ _ _ _ c.loop-c.invariant (omega arith)

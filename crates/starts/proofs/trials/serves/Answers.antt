use Rattle.std.proofs.Common.{sym, ◌∙◌, arith, length}
use lib.Seq.{length-take-le}
use Rattle.tables.specs.Rows.{rows}
use Rattle.tables.proofs.Rows.{length-rows}
use Rattle.starts.proofs.Laws.{slice_backward, slices_serve}
use Rattle.starts.proofs.trials.serves.Goals as goal

pub returns-then-begins_backward : goal.returns-then-begins_backward
returns-then-begins_backward c =
    slice_backward _ (rows c.args.first.now) (rows c.args.later.now) _ _ c.first_into.ensures _ c.begins_backward.ensures c.if-begins_backward.true

pub slice_bounds-put-end-2 : goal.slice_bounds-put-end-2
slice_bounds-put-end-2 c =
    sym (length-take-le (length c.args.later.now) c.split_at_mut-begun.result.1.now (omega (arith, length-rows c.args.first.now, length-rows c.args.later.now)))

pub later_into-requires : goal.later_into-requires
later_into-requires c =
    length-take-le (length c.args.later.now) c.split_at_mut-begun.result.1.now (omega (arith, length-rows c.args.first.now, length-rows c.args.later.now))
    ∙ sym (length-rows c.args.later.now)

pub returns : goal.returns
returns c =
    slices_serve _ (rows c.args.first.now) (rows c.args.later.now) _ _ c.first_into.ensures _ c.first_of-cut.ensures _ c.later_into.ensures _ c.serve.ensures

use Rattle.std.proofs.Common.{rules, ◌∙◌}
use Rattle.std.proofs.lemmas.Iterator.{YieldsList-from_slice}
use Rattle.std.proofs.lemmas.Iterator.Consumers.{fold_from_yields_List}
use Rattle.numbers.specs.Rounded.{◌⊕◌}
use Rattle.wrapped_region.proofs.mean.Laws.{sum_is}
use Rattle.wrapped_region.proofs.mean.sum_v.Goals as goal

pub returns : goal.returns
returns g c =
    let row = g.R.TableRow.row_of in
    let summed = fold_from_yields_List _ (λ s x. s ⊕ (row x).v) _ _ c.fold.ensures.ran (YieldsList-from_slice c.args.t.now cc) (λ s x r f' k. search rules) in
    summed ∙ sum_is _ _ g.met.R.TableRow.rows_are c.args.t.now

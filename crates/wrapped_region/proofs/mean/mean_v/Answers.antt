use Rattle.std.proofs.Common.{rules}
use Rattle.wrapped_region.proofs.mean.Laws.{mean_none, mean_some}
use Rattle.wrapped_region.proofs.mean.mean_v.Goals as goal

pub returns-then-is_empty : goal.returns-then-is_empty
returns-then-is_empty g c = mean_none _ _ g.met.R.TableRow.rows_are c.args.t.now (search rules)

pub returns : goal.returns
returns g c = mean_some _ _ g.met.R.TableRow.rows_are c.args.t.now _ _ (λ none. search rules) c.sum_v.ensures c.nearest_u64_to_f64.ensures

use Rattle.starts.proofs.Laws.{later_in}
use Rattle.starts.proofs.trials.later_into.Goals as goal

pub returns : goal.returns
returns c = later_in c.args.later.now c.args.u.now _ _ c.requires c.us_into.ensures _ _ c.later_for.ensures

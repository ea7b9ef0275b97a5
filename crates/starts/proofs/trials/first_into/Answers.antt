use Rattle.starts.proofs.Laws.{first_in}
use Rattle.starts.proofs.trials.first_into.Goals as goal

pub returns : goal.returns
returns c = first_in c.args.first.now c.args.u.now _ _ c.requires c.us_into.ensures _ _ c.begin_ring_at.ensures

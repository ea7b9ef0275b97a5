use Rattle.tables.specs.Rows.{rows}
use Rattle.closed_region.proofs.MovedHoles.{branch_is}
use Rattle.closed_region.proofs.holes.branch_of.Goals as goal

pub returns : goal.returns
returns c = branch_is _ (rows c.args.t.now) _ _ _ _ c.box_of-b.ensures c.unwrap_or.ensures c.unwrap_or-2.ensures

use Rattle.surfaces.specs.Rungs.{kept_left}
use Rattle.surfaces.proofs.knots.Walk.{left-start}
use Rattle.surfaces.proofs.knots.KeptDivisions.new.Goals as goal

pub returns : goal.returns
unfolding kept_left
returns c = left-start _ _ _ c.slack.ensures c.division.ensures

use Rattle.rings.specs.Choices.{least_u}
use Rattle.rings.proofs.table_choices.least_u.Goals as goal

pub returns : goal.returns
unfolding least_u
returns c = cc

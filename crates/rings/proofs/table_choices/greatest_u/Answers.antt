use Rattle.rings.specs.Choices.{greatest_u}
use Rattle.rings.proofs.table_choices.greatest_u.Goals as goal

pub returns : goal.returns
unfolding greatest_u
returns c = cc

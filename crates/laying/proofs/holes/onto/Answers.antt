use Rattle.std.proofs.Common.{ap, ◌∙◌}
use Rattle.tables.specs.Rows.{rows}
use Rattle.tables.proofs.Unless.{rows_unless}
use Rattle.laying.proofs.EachHole.{onto_is}
use Rattle.laying.proofs.holes.onto.Goals as goal

pub returns : goal.returns
returns c = onto_is _ _ _ _ _ c.strip_shift-step.ensures.value (ap rows c.slide_unless_zero.ensures ∙ rows_unless _ _ _)

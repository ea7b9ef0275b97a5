use Rattle.std.proofs.Common.{ap, ◌∙◌}
use Rattle.tables.specs.Rows.{rows}
use Rattle.tables.proofs.Rows.{rows-reverse}
use Rattle.laying.proofs.Steps.{rises, stays}
use Rattle.laying.proofs.place.rise.Goals as goal

pub returns-then-falls : goal.returns-then-falls
returns-then-falls c = rises _ _ _ c.if-falls.true (ap rows c.reverse.ensures.after ∙ rows-reverse _)

pub returns-else-falls : goal.returns-else-falls
returns-else-falls c = stays _ _ c.if-falls.false

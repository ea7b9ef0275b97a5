use Rattle.tables.proofs.Unless.{moved_unless, stays_if}
use Rattle.tables.proofs.moves.slide_unless_zero.Goals as goal

pub returns-then-step : goal.returns-then-step
returns-then-step g c = moved_unless _ _ _ _ c.if-step.true c.slide.ensures

pub returns-else-step : goal.returns-else-step
returns-else-step g c = stays_if _ _ _ c.if-step.false

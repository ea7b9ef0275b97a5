use Rattle.rings.proofs.Turning.{stays_at, stays_few, turned_past_guards}
use Rattle.rings.proofs.moves.turn_unless.Goals as goal

pub returns-then-k-eq0 : goal.returns-then-k-eq0
returns-then-k-eq0 g c = stays_at _ _ _ _ c.if-k-eq0.true

pub returns-then-ring-few : goal.returns-then-ring-few
returns-then-ring-few g c = stays_few _ _ _ _ c.if-ring-few.true

pub returns : goal.returns
returns g c = turned_past_guards _ _ _ _ _ c.if-k-eq0.false c.if-ring-few.false c.turn.ensures

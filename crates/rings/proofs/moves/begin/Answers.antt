use Rattle.std.proofs.Common.{refl}
use Rattle.rings.proofs.Turning.{begun_left}
use Rattle.rings.proofs.moves.begin.Goals as goal

pub returns : goal.returns
returns g c = begun_left _ _ _ _ _ _ _ _ c.min-round.ensures c.turn_left.ensures.after refl refl c.slide.ensures

use Rattle.std.proofs.Common.{rules}
use Rattle.rings.proofs.Turning.{turned_in}
use Rattle.rings.proofs.moves.turn.Goals as goal

pub returns : goal.returns
returns g c = turned_in (g.T.RingPoint.slid c.args.again) (g.T.RingPoint.slid c.args.again) _ _ c.requires _ _ _ c.begin.ensures (search rules) c.slid.ensures

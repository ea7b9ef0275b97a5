use Rattle.std.proofs.Common.{rules}
use Rattle.laying.proofs.EachHole.{holes_moving_turn, holes_moving_end}
use Rattle.laying.proofs.holes.onto_all.Goals as goal

pub loop-points-preserved : goal.loop-points-preserved
loop-points-preserved c = holes_moving_turn _ _ _ _ _ _ _ _ _ c.loop-points.invariant c.loop-points-test.true c.piece_end-to.ensures c.onto.ensures
    (search rules)

pub returns : goal.returns
returns c = holes_moving_end _ _ _ _ _ _ _ c.loop-points.invariant c.loop-points-test.false

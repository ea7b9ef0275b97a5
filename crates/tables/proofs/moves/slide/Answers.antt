use Rattle.lists.proofs.Mapping.{mapping_turn}
use Rattle.tables.proofs.moves.slide.Goals as goal

pub loop-x-preserved : goal.loop-x-preserved
loop-x-preserved g c = mapping_turn _ _ c.x-item.result _ _ _ c.loop-x.invariant c.loop-x-test.true c.slid.ensures

use Rattle.closed_region.proofs.OuterAmong.{by_area, by_boxes}
use Rattle.closed_region.proofs.region.closed_region.Goals as goal

pub returns-then-boxes-n-clause-value : goal.returns-then-boxes-n-clause-value
returns-then-boxes-n-clause-value g c = by_area _ _ _ _ _ _ _ c.boxes_into.ensures c.part.ensures c.if-boxes-n.true c.last_largest.ensures

pub returns-clause-value : goal.returns-clause-value
returns-clause-value g c = by_boxes _ _ _ _ _ _ _ c.boxes_into.ensures c.part-2.ensures c.if-boxes-n.false c.outer_loop.ensures

use Rattle.full_domain.proofs.boundary.Sides.{laid}
use Rattle.full_domain.proofs.boundary.write_rungs.Goals as goal

pub returns-clause-out_after : goal.returns-clause-out_after
returns-clause-out_after c = (laid _ _ _ _ _ c.range_of-along.ensures c.steps.ensures _ _ c.merge_even.ensures.out_after).0

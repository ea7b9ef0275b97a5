use Rattle.full_domain.proofs.boundary.Sides.{counted}
use Rattle.full_domain.proofs.boundary.side_count.Goals as goal

pub returns : goal.returns
returns c =
    let r = counted _ _ _ _ _ c.range_of-along.ensures c.steps.ensures _ c.merge_even_steps.ensures.value in
    record { value = r.0; rungs_end = r.1 }

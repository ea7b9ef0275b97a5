use Rattle.rings.proofs.ByU.{later_put}
use Rattle.starts.proofs.later_for.Goals as goal

pub returns : goal.returns
returns g c = later_put g.T.RingPoint.u_of g.T.RingPoint.slid _ _ _ _ _ _ _ _ _ c.nearest-k.ensures c.u_at.ensures
    c.branch_shift-shift.ensures.value c.align_at.ensures c.first_of.ensures c.slide_unless_zero.ensures

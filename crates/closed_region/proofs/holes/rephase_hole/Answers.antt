use Rattle.closed_region.proofs.MovedHoles.{hole_stays, hole_moves}
use Rattle.closed_region.proofs.holes.rephase_hole.Goals as goal

pub returns-then-stays : goal.returns-then-stays
returns-then-stays c = let r = hole_stays _ _ _ _ _ _ _ c.box_of-own.ensures c.hole_shift-su.ensures.value
    c.hole_shift-sv.ensures.value c.stays.ensures c.if-stays.true in record { value = r.0; t_after = r.1 }

pub returns : goal.returns
returns c = let r = hole_moves _ _ _ _ _ _ _ c.box_of-own.ensures c.hole_shift-su.ensures.value
    c.hole_shift-sv.ensures.value c.stays.ensures
    c.if-stays.false _ _ (c.move_hole.ensures.value, c.move_hole.ensures.t_after) in record { value = r.0; t_after = r.1 }

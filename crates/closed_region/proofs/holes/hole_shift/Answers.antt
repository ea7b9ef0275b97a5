use Rattle.closed_region.proofs.MovedHoles.{shift_answer, open_answer}
use Rattle.closed_region.proofs.holes.hole_shift.Goals as goal

pub returns-then-period : goal.returns-then-period
returns-then-period c =
    let r = shift_answer _ _ _ _ c.well_formed.1.1.0.1 c.well_formed.1.0.1 c.if-period.true c.round.ensures in
    record { value = r.0; leaves_half = r.1 }

pub returns : goal.returns
returns c = let r = open_answer _ _ _ c.if-period.false in record { value = r.0; leaves_half = r.1 }

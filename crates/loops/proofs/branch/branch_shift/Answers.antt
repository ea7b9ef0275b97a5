use Rattle.loops.proofs.Landing.{shift_answer}
use Rattle.loops.proofs.branch.branch_shift.Goals as goal

pub returns : goal.returns
returns c = let a = c.args in
    let g = c.well_formed in
    let r = shift_answer a.value a.reference a.period _ g.0.1 g.1.0.1 (rw c.round.ensures) in record { value = r.0; leaves_half = r.1 }

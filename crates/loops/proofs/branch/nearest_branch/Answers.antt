use Rattle.loops.specs.Branch.{nearest_branch}
use Rattle.loops.proofs.Landing.{branch_answer}
use Rattle.loops.proofs.branch.nearest_branch.Goals as goal

pub returns-then-period : goal.returns-then-period
unfolding nearest_branch
returns-then-period c = let a = c.args in
    let g = c.well_formed in
    let r = branch_answer a.value a.reference a.period _ g.0.1 g.1.0.1 (rw c.if-period.true) in record { value = r.0; lands_near = r.1 }

pub returns : goal.returns
unfolding nearest_branch
returns c = let a = c.args in
    let g = c.well_formed in
    let r = branch_answer a.value a.reference a.period _ g.0.1 g.1.0.1 (rw (c.if-period.false, c.branch_shift.ensures.value)) in
    record { value = r.0; lands_near = r.1 }

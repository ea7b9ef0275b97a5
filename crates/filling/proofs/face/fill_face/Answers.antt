use Rattle.std.proofs.lemmas.Result.{err_from_is_err_and}
use Rattle.records.specs.Limits.{version1}
use Rattle.records.specs.Refusals.{record_conditions}
use Rattle.call.specs.Later.{later_conditions}
use Rattle.filling.proofs.Stages.{refused_as, filled_as, accepted_as}
use Rattle.filling.proofs.face.fill_face.Goals as goal

pub returns-in_err-check : goal.returns-in_err-check
returns-in_err-check c =
    let p = err_from_is_err_and c.from_residual.result c.from_residual.ensures.1 in
    let found = rw c.version1.ensures at c.in_err-check.ensures in
    rw (p.1, p.2) (refused_as _ (record_conditions version1) (later_conditions version1) _ found _)

pub returns : goal.returns
returns c =
    let found = rw c.version1.ensures at c.in_ok-check.ensures in
    filled_as _ (record_conditions version1) (later_conditions version1) found _ _ (c.fill_record.ensures (accepted_as _ found))

use Rattle.std.proofs.Common.{ap, ◌∙◌}
use Rattle.tables.specs.Rows.{rows}
use Rattle.tables.proofs.Rows.{rows-each-u}
use Rattle.rings.specs.Choices.{first_of}
use Rattle.rings.proofs.ReadRows.{us_of_rows}
use Rattle.laying.proofs.Steps.{shift_answer}
use Rattle.laying.proofs.place.shift.Goals as goal

pub returns : goal.returns
returns c = let first = c.first_of in
    let good = c.well_formed in
    let r = shift_answer _ _ _ _ _ _ first.type_inv good.1.0.1 (first.ensures ∙ ap first_of (us_of_rows _)) c.branch_shift-step.ensures.value (ap rows c.slide.ensures ∙ rows-each-u _ _) in
    record { t_after = r.0; lands_near = r.1 }

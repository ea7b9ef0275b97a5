use Rattle.std.proofs.Common.{◌∙◌}
use Rattle.numbers.proofs.rounding.Laws.{floor_is}
use Rattle.rings.proofs.Shifts.{strip_answer}
use Rattle.rings.proofs.table_choices.strip_shift.Goals as goal

pub returns : goal.returns
returns c =
    let least = c.least in
    let r = strip_answer _ _ _ _ _ least.type_inv c.well_formed.1.0.1 least.ensures (c.floor.ensures ∙ floor_is _) in
    record { value = r.0; leaves_turn = r.1 }

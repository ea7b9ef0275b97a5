use Rattle.std.proofs.Common.{ap, ◌∙◌}
use Rattle.tables.specs.Rows.{rows}
use Rattle.tables.proofs.Rows.{length-rows}
use Rattle.tables.proofs.PartRows.{rows_of_part}
use Rattle.strip.proofs.closing.Laws as laws
use Rattle.strip.proofs.closing.close_rows.Goals as goal

pub returns-clause-value : goal.returns-clause-value
returns-clause-value c = laws.closed_as_lem _ _ _ _ _ _ _ _ _ c.requires.0 (rw length-rows c.requires.1) c.keep_successive-m.ensures.value
    c.keep_successive-m.ensures.out_after (ap rows c.part.ensures ∙ rows_of_part _ _ _) c.trim-count.ensures
    (ap rows c.part-2.ensures ∙ rows_of_part _ _ _) c.signed_area-area.ensures

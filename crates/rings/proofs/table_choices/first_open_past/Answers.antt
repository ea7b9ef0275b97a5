use Rattle.rings.proofs.ReadRows.{open_rows-none, open_rows-past}
use Rattle.rings.proofs.table_choices.first_open_past.Goals as goal

pub returns-then-t-eq0 : goal.returns-then-t-eq0
returns-then-t-eq0 c = open_rows-none _ _ c.if-t-eq0.true

pub returns : goal.returns
returns c = open_rows-past _ _ _ c.first_past.ensures

use Rattle.std.proofs.Common.{sym, ◌∙◌}
use Rattle.tables.proofs.slices.Laws.{copied, not_copied}
use Rattle.tables.proofs.slices.copy_into.Goals as goal

pub returns-then-has_room : goal.returns-then-has_room
returns-then-has_room g c = copied _ _ _ _ (sym c.has_room.ensures ∙ c.if-has_room.true) c.copy_from_slice.ensures.after

pub returns-else-has_room : goal.returns-else-has_room
returns-else-has_room g c = not_copied _ _ _ (sym c.has_room.ensures ∙ c.if-has_room.false)

use Rattle.tables.proofs.slices.Parts.{part_is}
use Rattle.tables.proofs.slices.part.Goals as goal

pub returns : goal.returns
returns g c = part_is _ _ _ _ _ c.min-from.ensures c.piece_end.ensures

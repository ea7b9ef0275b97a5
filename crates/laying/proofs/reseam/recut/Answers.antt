use Rattle.std.proofs.Common.{ap, ◌∙◌}
use Rattle.tables.specs.Rows.{rows}
use Rattle.rings.proofs.ByU.{rows-recut_at}
use Rattle.laying.proofs.Reseaming.{recut_is}
use Rattle.laying.proofs.reseam.recut.Goals as goal

pub returns : goal.returns
returns c = recut_is _ _ _ _ _ c.first_open_past-k.ensures (ap rows c.recut_at.ensures ∙ rows-recut_at _ _ _)

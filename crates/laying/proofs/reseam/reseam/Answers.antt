use Rattle.laying.proofs.Reseaming.{no_room, with_room}
use Rattle.laying.proofs.reseam.reseam.Goals as goal

pub returns-then-spans-counts : goal.returns-then-spans-counts
returns-then-spans-counts c = no_room _ _ _ _ _ _ c.if-spans-counts.true

pub returns : goal.returns
returns c = with_room _ _ _ _ _ _ c.if-spans-counts.false _ c.reseam_with_room.ensures

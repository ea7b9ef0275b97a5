use Rattle.std.proofs.Common.{refl}
use Rattle.closed_face.proofs.Loops.{first_is}
use Rattle.closed_face.proofs.face.loop_first.Goals as goal

pub returns : goal.returns
returns c = first_is _ _ _ _ _ _ _ c.begin_of-from.ensures.0 c.loop_of-m.ensures refl c.begin_of-end.ensures.0 _ _ _ refl c.part_first.ensures

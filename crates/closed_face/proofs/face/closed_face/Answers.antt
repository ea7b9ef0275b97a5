use Rattle.lists.specs.Parts.{part_of}
use Rattle.closed_face.proofs.face.closed_face.Goals as goal

pub returns-clause-out_areas_after : goal.returns-clause-out_areas_after
unfolding part_of
returns-clause-out_areas_after c = rw (← c.closed_region-outer.ensures.value, ← c.part.ensures) c.part_first-2.ensures

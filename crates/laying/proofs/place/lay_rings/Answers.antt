use Rattle.laying.proofs.Steps.{first-laid, later-laid}
use Rattle.laying.proofs.place.lay_rings.Goals as goal

pub returns : goal.returns
returns c = record {
  first_after = λ holes. first-laid _ _ _ _ _ holes _ _ _ c.least_u-least.ensures c.shift.ensures.t_after c.rise.ensures;
  later_after = λ holes. later-laid _ _ _ _ _ holes _ _ _ c.least_u-least.ensures c.shift-2.ensures.t_after c.rise-2.ensures;
}

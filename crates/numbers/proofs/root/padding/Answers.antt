use Rattle.numbers.proofs.root.Laws as laws
use Rattle.numbers.proofs.root.padding.Goals as goal

pub returns : goal.returns
returns c = laws.padded _ _ c.requires.1 c.ilog2.ensures.power_le c.ilog2.ensures.next_power_gt

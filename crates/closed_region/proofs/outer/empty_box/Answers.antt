use Rattle.std.proofs.Common.{refl}
use lib.Ieee.{of_bits}
use Rattle.closed_region.proofs.outer.empty_box.Goals as goal

pub returns : goal.returns
unfolding of_bits
returns c = refl

use Rattle.std.proofs.Common.{refl}
use lib.Ieee.{of_bits}
use Rattle.tables.proofs.corners.no_corner.Goals as goal

pub returns : goal.returns
unfolding of_bits
returns c = refl

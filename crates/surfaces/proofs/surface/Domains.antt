-- The periods of each kind, and the domains of the two kinds that have a whole surface: both directions run from one finite constant up to another.
use Rattle.std.proofs.Common.{T}
use lib.Ieee.{binary64, neg, le, add, sub, fits, of_bits}
use Rattle.numbers.specs.Constants.{plus_zero, H, TAU}
use Rattle.surfaces.proofs.knots.Rising.{Stretch}

pub turn_stretch : Stretch plus_zero TAU
unfolding of_bits le add sub neg
turn_stretch = record { lower = tt; upper = tt; order = tt; wide = tt }

pub sphere_stretch : Stretch (neg H) H
unfolding of_bits le add sub neg
sphere_stretch = record { lower = tt; upper = tt; order = tt; wide = tt }

pub turn_fits : T (fits binary64 plus_zero)
unfolding of_bits fits
turn_fits = tt

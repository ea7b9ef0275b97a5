-- Positions of three reals, compared as numbers, are such elements, also where a coordinate is a NaN.
use Rattle.numbers.specs.Position.{same}
use Rattle.numbers.proofs.Position.{same_sym, same_trans}
use Rattle.loops.specs.Steps.{PartialEquivalence}

pub same-position : PartialEquivalence same
same-position = record { symmetric = same_sym; transitive = same_trans }

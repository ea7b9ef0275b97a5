use Rattle.std.proofs.Common.{T, sym, ap, ◌∙◌, subst}
use lib.Ieee.{binary64, fits, neg}
use Rattle.numbers.proofs.Reals as reals
use Rattle.numbers.proofs.rounding.Laws as laws
use Rattle.numbers.proofs.rounding.round.Goals as goal
use Rattle.numbers.proofs.rounding.round.Goals.{Start}

-- what owning an `f64` tells: the format holds it
held : (c : Start) → T (fits binary64 c.args.x)
held c = subst T (sym c.well_formed.0.1) tt

pub half_up-requires-then-x-2 : goal.half_up-requires-then-x-2
half_up-requires-then-x-2 c = reals.neg-above c.args.x c.if-x-2.true

pub returns-then-x-2 : goal.returns-then-x-2
returns-then-x-2 c = ap neg c.half_up-then-x-2.ensures ∙ laws.neg-round c.args.x

pub returns-else-x-2 : goal.returns-else-x-2
returns-else-x-2 c = sym (laws.still c.args.x (held (goal.at.returns-else-x-2 c).Start) c.if-x.false c.if-x-2.false).0

use Rattle.std.proofs.Common.{T, sym, subst}
use lib.Ieee.{binary64, fits}
use Rattle.numbers.proofs.trig.Laws as laws
use Rattle.numbers.proofs.trig.quarter_up.Goals as goal
use Rattle.numbers.proofs.trig.quarter_up.Goals.{Start}

held : (c : Start) → T (fits binary64 c.args.q)
held c = subst T (sym c.well_formed.0.1) tt

pub truncating_f64_to_u64-requires : goal.truncating_f64_to_u64-requires
truncating_f64_to_u64-requires c =
    let r = laws.quarter_range c.args.q c.requires c.if-q.true in
    record { lower_bound = r.0; upper_bound = r.1 }

pub returns-then-q : goal.returns-then-q
returns-then-q c = laws.quarter_is c.args.q c.requires c.if-q.true c.truncating_f64_to_u64.result c.truncating_f64_to_u64.ensures

pub returns-else-q : goal.returns-else-q
returns-else-q c = laws.quarter_big c.args.q (held (goal.at.returns-else-q c).Start) c.requires c.if-q.false

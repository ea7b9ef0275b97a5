use Rattle.std.proofs.Common.{T, sym, ◌∙◌, subst, arith}
use lib.Ieee.{binary64, fits}
use Rattle.numbers.proofs.rounding.Laws as laws
use Rattle.numbers.proofs.rounding.half_up.Goals as goal
use Rattle.numbers.proofs.rounding.half_up.Goals.{Start, Then-x}

-- what owning an `f64` tells: the format holds it
held : (c : Start) → T (fits binary64 c.args.x)
held c = subst T (sym c.well_formed.0.1) tt

-- below the test's bound
at : (c : Then-x) → laws.Small c.args.x
at c = laws.small c.args.x c.requires c.if-x.true

pub truncating_f64_to_u64-t-requires : goal.truncating_f64_to_u64-t-requires
truncating_f64_to_u64-t-requires c =
    let r = laws.double_range c.args.x (held (goal.at.truncating_f64_to_u64-t-requires c).Start)
    (at (goal.at.truncating_f64_to_u64-t-requires c).Then-x) in
    record { lower_bound = r.0; upper_bound = r.1 }

pub overflow_add-t : goal.overflow_add-t
overflow_add-t c = let k = laws.cut_double c.args.x (held (goal.at.overflow_add-t c).Start) (at (goal.at.overflow_add-t c).Then-x) in
    let e = c.truncating_f64_to_u64-t.ensures ∙ k.0 in
    record { fits = omega arith }

pub returns-then-x : goal.returns-then-x
returns-then-x c = c.nearest_u64_to_f64.ensures
    ∙ laws.half_up_is c.args.x (held (goal.at.returns-then-x c).Start) (at (goal.at.returns-then-x c).Then-x)
    c.truncating_f64_to_u64-t.result c.truncating_f64_to_u64-t.ensures

pub returns-else-x : goal.returns-else-x
returns-else-x c = sym (laws.big c.args.x (held (goal.at.returns-else-x c).Start) c.requires c.if-x.false).0

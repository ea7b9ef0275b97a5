use Rattle.std.proofs.Common.{◌+◌, ◌-◌, ◌*◌, ◌/◌, ◌%◌, ◌^◌, ◌<◌, T, sym, ◌∙◌, subst, arith}
use lib.Ieee.{binary64, fits, to_bits}
use Rattle.numbers.proofs.root.Laws as laws
use Rattle.numbers.proofs.root.positive.Goals as goal
use Rattle.numbers.proofs.root.positive.Goals.{Start}

held : (c : Start) → T (fits binary64 c.args.x)
held c = subst T (sym c.well_formed.0.1) tt

pub rooted-requires : goal.rooted-requires
rooted-requires c =
    let v = laws.value_low c.args.x (held (goal.at.rooted-requires c).Start) c.requires.above_zero c.requires.below_infinity c.if-e-eq0.true in
    let d : 0 < to_bits binary64 c.args.x % 2 ^ 52 * 2 ^ 0 = laws.some_digits c.args.x (to_bits binary64 c.args.x % 2 ^ 52 * 2 ^ 0)
    c.requires.above_zero v in
    (omega arith, omega arith, omega arith)

pub rooted-requires-else-e-eq0 : goal.rooted-requires-else-e-eq0
rooted-requires-else-e-eq0 c =
    let u = laws.bits-under c.args.x (held (goal.at.rooted-requires-else-e-eq0 c).Start) c.requires.above_zero c.requires.below_infinity in
    (omega arith, omega arith, omega arith)

pub returns-then-e-eq0 : goal.returns-then-e-eq0
returns-then-e-eq0 c =
    let v = laws.value_low c.args.x (held (goal.at.returns-then-e-eq0 c).Start) c.requires.above_zero c.requires.below_infinity c.if-e-eq0.true in
    c.rooted.ensures ∙ laws.root_of_value c.args.x (to_bits binary64 c.args.x % 2 ^ 52 * 2 ^ 0) c.requires.above_zero v

pub returns-else-e-eq0 : goal.returns-else-e-eq0
returns-else-e-eq0 c =
    let v = laws.value-high c.args.x (held (goal.at.returns-else-e-eq0 c).Start) c.requires.above_zero c.requires.below_infinity c.if-e-eq0.false in
    c.rooted-else-e-eq0.ensures
    ∙ laws.root_of_value c.args.x ((to_bits binary64 c.args.x % 2 ^ 52 + 2 ^ 52) * 2 ^ (to_bits binary64 c.args.x / 2 ^ 52 - 1))
    c.requires.above_zero v

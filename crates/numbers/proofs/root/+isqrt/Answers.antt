use Rattle.std.proofs.Common.{◌-◌, arith}
use Rattle.numbers.proofs.root.Laws as laws
use Rattle.numbers.proofs.root.+isqrt.Goals as goal

pub isqrt-p-requires : goal.isqrt-p-requires
isqrt-p-requires t c =
    (omega arith, (laws.rest_under c.args.x c.args.zeros c.args.bits c.if-zeros-eq0.true c.if-bits-eq0.false c.requires.0, omega arith))

pub isqrt-p-requires-2 : goal.isqrt-p-requires-2
isqrt-p-requires-2 t c =
    (omega arith, (laws.zero-under c.args.x c.args.zeros c.args.bits c.if-zeros-eq0.false c.if-bits-eq0.false c.requires.0, omega arith))

pub digit-requires-2 : goal.digit-requires-2
digit-requires-2 t c =
    let under = laws.zero-under c.args.x c.args.zeros c.args.bits c.if-zeros-eq0.false c.if-bits-eq0.false c.requires.0 in
    (c.isqrt-p-2.ensures.rest, laws.small_root _ _ _ (c.args.bits - 1) c.isqrt-p-2.ensures under (omega arith), omega arith)

pub returns : goal.returns
returns t c = laws.zero_digit _ _ _ _ _ _ c.if-zeros-eq0.false c.isqrt-p-2.ensures c.digit-2.ensures

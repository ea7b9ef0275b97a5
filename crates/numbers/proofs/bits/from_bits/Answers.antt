use Rattle.numbers.proofs.bits.Laws.{not_nan-bits, real_is, nan_is}
use Rattle.numbers.proofs.bits.from_bits.Goals as goal

pub float_from_bits-result : goal.float_from_bits-result
float_from_bits-result c = not_nan-bits c.args.b c.if-b-le9218868437227405312.true

pub returns-then-b-le9218868437227405312 : goal.returns-then-b-le9218868437227405312
returns-then-b-le9218868437227405312 c = real_is c.args.b c.if-b-le9218868437227405312.true

pub returns-else-b-le9218868437227405312 : goal.returns-else-b-le9218868437227405312
returns-else-b-le9218868437227405312 c = nan_is c.args.b c.if-b-le9218868437227405312.false

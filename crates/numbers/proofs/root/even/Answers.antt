use Rattle.std.proofs.Common.{◌^◌, ◌<◌, arith}
use Rattle.numbers.proofs.bits.Laws.{not_nan-bits}
use Rattle.numbers.proofs.root.Laws as laws
use Rattle.numbers.proofs.root.even.Goals as goal
use Rattle.numbers.proofs.root.even.Goals.{After-isqrt-p}

-- the root has 53 digits
under : (c : After-isqrt-p) → c.isqrt-p.result.q < 2 ^ 53
under c = laws.root_under _ c.args.h _ _ _ c.isqrt-p.ensures c.padding-z.ensures c.requires.2

pub float_from_bits-result : goal.float_from_bits-result
float_from_bits-result c = let q = under (goal.at.float_from_bits-result c).After-isqrt-p in not_nan-bits _ (omega arith)

pub float_from_bits-result-else-p : goal.float_from_bits-result-else-p
float_from_bits-result-else-p c = let q = under (goal.at.float_from_bits-result-else-p c).After-isqrt-p in not_nan-bits _ (omega arith)

pub returns-then-p : goal.returns-then-p
returns-then-p c = laws.even_up _ _ _ _ _ c.isqrt-p.ensures c.padding-z.ensures c.requires.2 c.if-p.true

pub returns-else-p : goal.returns-else-p
returns-else-p c = laws.even_down _ _ _ _ _ c.isqrt-p.ensures c.padding-z.ensures c.requires.2 c.if-p.false

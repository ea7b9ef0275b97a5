use Rattle.std.proofs.Common.{ℕ, ◌-◌, ◌%◌, ap, ◌∙◌, arith}
use lib.Ieee.{neg}
use Rattle.numbers.proofs.Reals as reals
use Rattle.numbers.proofs.trig.Laws as laws
use Rattle.numbers.proofs.trig.quarter.Goals as goal

pub quarter_up-requires-then-q-2 : goal.quarter_up-requires-then-q-2
quarter_up-requires-then-q-2 c = reals.neg-above c.args.q c.if-q-2.true

pub overflow_sub-result : goal.overflow_sub-result
overflow_sub-result c = let h = laws.quarter_lt (neg c.args.q) in let e = c.quarter_up-then-q-2.ensures in omega arith

pub returns-then-q-2 : goal.returns-then-q-2
returns-then-q-2 c = ap (λ (z : ℕ). (4 - z) % 4) c.quarter_up-then-q-2.ensures ∙ laws.quarter_neg c.args.q c.if-q-2.true

pub returns-else-q-2 : goal.returns-else-q-2
returns-else-q-2 c = laws.quarter_zero c.args.q c.if-q.false c.if-q-2.false

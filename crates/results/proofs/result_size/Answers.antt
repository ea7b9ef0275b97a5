use mathlib.Core.Path.{refl}
use Rattle.results.proofs.Sizes as sizes
use Rattle.results.proofs.result_size.Goals as goal

pub returns-then-n-lt1 : goal.returns-then-n-lt1
returns-then-n-lt1 c = sizes.none _ refl c.if-n-lt1.true

pub returns-then-n-gt256 : goal.returns-then-n-gt256
returns-then-n-gt256 c = sizes.too_many _ refl c.if-n-lt1.false c.if-n-gt256.true

pub returns-then-count-gt65535 : goal.returns-then-count-gt65535
returns-then-count-gt65535 c =
    sizes.too_long _ c.loop-count.invariant.0 refl c.if-n-lt1.false c.if-n-gt256.false c.loop-count-test.true c.if-count-gt65535.true

pub loop-count-preserved : goal.loop-count-preserved
loop-count-preserved c = (
  sizes.sum_turn _ c.loop-count.invariant.0 refl c.if-n-lt1.false c.if-n-gt256.false c.loop-count-test.true c.if-count-gt65535.false,
  c.loop-count.invariant.1,
)

pub returns : goal.returns
returns c = sizes.sized _ c.loop-count.invariant.0 refl c.if-n-lt1.false c.if-n-gt256.false c.loop-count-test.false

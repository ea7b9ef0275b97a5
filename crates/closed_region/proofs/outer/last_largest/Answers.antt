use Rattle.std.proofs.Common.{ap}
use mathlib.Core.Bool.{not}
use borrow.Author.Tests.{not-true, not-false}
use Rattle.closed_region.proofs.outer.Laws as laws
use Rattle.closed_region.proofs.outer.last_largest.Goals as goal
use Rattle.closed_region.proofs.outer.last_largest.Goals.{then-not-abs, else-not-abs}

pub loop-i-init : goal.loop-i-init
loop-i-init c = laws.largest _

pub loop-i-preserved : goal.loop-i-preserved
loop-i-preserved c = elim c.if-not-abs.branch [
  | then-not-abs w ↦ rw w.best-is (laws.largest_moves _ _ _ _ _ c.loop-i.invariant c.loop-i-test.true
      c.abs.ensures.value c.abs-in-loop-i.ensures.value (not-true _ (ap not w.if-not-abs.true)))
  | else-not-abs w ↦ rw w.best-is (laws.largest_stays _ _ _ _ _ c.loop-i.invariant c.loop-i-test.true
      c.abs.ensures.value c.abs-in-loop-i.ensures.value (not-false _ (ap not w.if-not-abs.false)))
]

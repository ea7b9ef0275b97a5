use Rattle.strip.proofs.repeats.Laws as laws
use Rattle.strip.proofs.closing.keep_successive.Goals as goal
use Rattle.strip.proofs.closing.keep_successive.Goals.{then-not-repeated_by, else-not-repeated_by}

pub returns-then-n-eq0 : goal.returns-then-n-eq0
returns-then-n-eq0 c = let r = laws.fold_none _ _ _ c.requires.0 c.if-n-eq0.true in record { value = r.0; out_after = r.1 }

pub loop-i-init : goal.loop-i-init
loop-i-init c = laws.folding _ _ _ _ c.requires.0 c.requires.1 c.if-n-eq0.false c.strip_corner-last.ensures

pub loop-i-preserved : goal.loop-i-preserved
loop-i-preserved c =
    elim c.if-not-repeated_by.branch [
      | then-not-repeated_by w ↦ rw (w.out-is, w.last-is, w.m-is) (laws.fold_other _ _ _ _ _ _ _ c.loop-i.invariant _ _ c.loop-i-test.true
          c.strip_corner-next.ensures c.repeated_by.ensures w.if-not-repeated_by.true)
      | else-not-repeated_by w ↦ rw (w.out-is, w.last-is, w.m-is) (laws.fold_repeat _ _ _ _ _ _ _ c.loop-i.invariant _ _ c.loop-i-test.true
          c.strip_corner-next.ensures c.repeated_by.ensures w.if-not-repeated_by.false)
    ]

pub returns : goal.returns
returns c = let r = laws.fold_end _ _ _ _ _ _ _ c.loop-i.invariant c.loop-i-test.false in record { value = r.0; out_after = r.1 }

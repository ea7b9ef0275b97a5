use native.Mathlib.Omega.{arith}
use Rattle.records.proofs.Reals.{scan_found, scan_turn, scan_end}
use Rattle.records.proofs.check.first_outside.Goals as goal

pub returns-then-not-contains : goal.returns-then-not-contains
returns-then-not-contains g c = scan_found _ _ _ c.loop-j.invariant c.range_of_real.result c.loop-j-test.true (omega arith)
    c.real_at.ensures (c.requires.ranged _ _ c.loop-j-test.true c.range_of_real.ensures) c.contains.ensures c.if-not-contains.true

pub loop-j-preserved : goal.loop-j-preserved
loop-j-preserved g c = scan_turn _ _ _ c.loop-j.invariant c.range_of_real.result c.loop-j-test.true (omega arith)
    c.real_at.ensures (c.requires.ranged _ _ c.loop-j-test.true c.range_of_real.ensures) c.contains.ensures c.if-not-contains.false

pub returns : goal.returns
returns g c = scan_end _ _ _ c.loop-j.invariant c.loop-j-test.false

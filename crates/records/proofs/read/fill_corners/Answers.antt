use mathlib.Core.Path.{refl}
use native.Mathlib.Omega.{arith}
use Rattle.tables.proofs.Rows.{length-rows, rows-set}
use Rattle.records.proofs.Columns as columns
use Rattle.records.proofs.read.fill_corners.Goals as goal

pub loop-i-init : goal.loop-i-init
loop-i-init c = columns.reading_start c.requires (omega (arith, c.loops.ensures)) refl

pub bounds-t-i : goal.bounds-t-i
bounds-t-i c = let l = length-rows c.args.t.now in omega arith

pub loop-i-preserved : goal.loop-i-preserved
loop-i-preserved c = columns.reading_turn c.loop-i.invariant c.loop-i-test.true c.corner_in.ensures (rows-set _ _ _)

pub returns : goal.returns
returns c = columns.reading_end c.loop-i.invariant c.loop-i-test.false

use mathlib.Core.Path.{sym, ◌∙◌}
use native.Mathlib.Omega.{arith}
use Rattle.records.proofs.Columns as columns
use Rattle.records.proofs.Reading as reading
use Rattle.records.proofs.read.read_head.Goals as goal

pub returns-then-not-counts_there : goal.returns-then-not-counts_there
returns-then-not-counts_there c = reading.head_gone _ _ (sym c.counts_there.ensures ∙ c.if-not-counts_there.true)

pub loops-requires : goal.loops-requires
loops-requires c = reading.there_header _ (sym c.counts_there.ensures ∙ c.if-not-counts_there.false)

pub returns-then-face-at : goal.returns-then-face-at
returns-then-face-at c = reading.no_head _ _ (omega arith) c.if-face-at.true

pub returns-then-dst-lt-HEAD_REALS : goal.returns-then-dst-lt-HEAD_REALS
returns-then-dst-lt-HEAD_REALS c = reading.no_head_room _ _ c.if-dst-lt-HEAD_REALS.true

pub loop-i-init : goal.loop-i-init
loop-i-init c = columns.head_start _ c.if-dst-lt-HEAD_REALS.false

pub loop-i-preserved : goal.loop-i-preserved
loop-i-preserved c = columns.head_turn _ c.loop-i.invariant (omega arith) c.loop-i-test.true c.real_at.ensures

pub returns : goal.returns
returns c = reading.head_read _ _ (omega arith) c.if-face-at.false c.if-dst-lt-HEAD_REALS.false
    (columns.head_end _ c.loop-i.invariant c.loop-i-test.false)

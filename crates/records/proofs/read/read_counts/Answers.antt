use mathlib.Core.Path.{sym, ◌∙◌}
use Rattle.records.proofs.Columns as columns
use Rattle.records.proofs.Reading as reading
use Rattle.records.proofs.read.read_counts.Goals as goal

pub returns-then-not-counts_there : goal.returns-then-not-counts_there
returns-then-not-counts_there c = reading.counts_gone _ _ (sym c.counts_there.ensures ∙ c.if-not-counts_there.true)

pub loops-l-requires : goal.loops-l-requires
loops-l-requires c = reading.there_header _ (sym c.counts_there.ensures ∙ c.if-not-counts_there.false)

pub returns-then-dst-l : goal.returns-then-dst-l
returns-then-dst-l c = reading.no_counts_room _ _ c.loops-l.ensures.0 c.if-dst-l.true

pub loop-k-init : goal.loop-k-init
loop-k-init c = (
  columns.counts_start _ c.loops-l.ensures.0 c.if-dst-l.false,
  reading.there_long _
      (sym c.counts_there.ensures ∙ c.if-not-counts_there.false),
)

pub loop-k-preserved : goal.loop-k-preserved
loop-k-preserved c =
    (columns.counts_turn _ c.loops-l.ensures.0 c.loop-k.invariant.0 c.loop-k-test.true c.count_at.ensures.0, c.loop-k.invariant.1)

pub returns : goal.returns
returns c =
    reading.counts_read _ _ (sym c.counts_there.ensures ∙ c.if-not-counts_there.false) c.loops-l.ensures.0
    c.if-dst-l.false (columns.counts_end _ c.loops-l.ensures.0 c.loop-k.invariant.0 c.loop-k-test.false)

use Rattle.std.proofs.Common.{arith, sym, ◌∙◌}
use Rattle.tables.specs.Rows.{rows}
use Rattle.tables.proofs.Rows.{length-rows, row_at}
use Rattle.measuring.proofs.Searches.{no_ends_in, ends_in}
use Rattle.measuring.proofs.refusals.ends_meet.Goals as goal

pub returns-then-t-eq0 : goal.returns-then-t-eq0
returns-then-t-eq0 c = no_ends_in (rows c.args.t.now) _ (sym (length-rows _)) c.if-t-eq0.true

pub returns : goal.returns
returns c = c.same.ensures ∙ ends_in (rows c.args.t.now) _ (sym (length-rows _)) c.if-t-eq0.false _ _
    (sym (row_at c.args.t.now _ (omega arith))) (sym (row_at c.args.t.now 0 (omega arith)))

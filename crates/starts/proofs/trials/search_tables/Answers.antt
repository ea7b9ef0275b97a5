use Rattle.tables.proofs.Rows.{length-rows}
use Rattle.std.proofs.Common.{sym, ap, ◌∙◌}
use Rattle.rings.specs.Choices.{begins_backward}
use Rattle.rings.proofs.ReadRows.{us_of_rows}
use mathlib.Core.Bool.{true, false}
use Rattle.starts.proofs.Laws.{starts_of, not_searched_lem, one-served, none-served}
use Rattle.starts.proofs.trials.search_tables.Goals as goal

pub returns-then-trial-first : goal.returns-then-trial-first
returns-then-trial-first c = not_searched_lem _ _ _ _ _ _ (sym (length-rows _)) (sym (length-rows _)) c.if-trial-first.true

pub returns-then-start-all : goal.returns-then-start-all
returns-then-start-all c = one-served _ _ _ _ _ _ (sym (length-rows _)) (sym (length-rows _)) c.if-trial-first.false _ _
    c.first_serving-start.ensures (starts_of _ _ c.saturating_sub-all.ensures) c.if-start-all.true

pub returns-then-begins_backward : goal.returns-then-begins_backward
returns-then-begins_backward c = none-served _ _ _ _ _ _ (sym (length-rows _)) (sym (length-rows _))
    c.if-trial-first.false _ _
    c.first_serving-start.ensures (starts_of _ _ c.saturating_sub-all.ensures) _ true
    c.if-start-all.false (c.begins_backward.ensures ∙ ap begins_backward (us_of_rows _)) c.if-begins_backward.true

pub returns : goal.returns
returns c = none-served _ _ _ _ _ _ (sym (length-rows _)) (sym (length-rows _)) c.if-trial-first.false _ _
    c.first_serving-start.ensures (starts_of _ _ c.saturating_sub-all.ensures) _ false
    c.if-start-all.false (c.begins_backward.ensures ∙ ap begins_backward (us_of_rows _)) c.if-begins_backward.false

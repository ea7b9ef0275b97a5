use Rattle.std.proofs.Common.{ap, ◌∙◌}
use Rattle.rings.specs.Choices.{begins_backward, first_of}
use Rattle.rings.proofs.Decisions.{serve_backward, serve-first, serve-later}
use Rattle.rings.proofs.ReadRows.{us_of_reals}
use Rattle.rings.proofs.choices.serve.Goals as goal

pub returns-then-begins_backward : goal.returns-then-begins_backward
returns-then-begins_backward c = serve_backward _ _ _ _
    (c.begins_backward.ensures ∙ ap begins_backward (us_of_reals c.args.first.now)) c.if-begins_backward.true

pub returns-then-stands_at_the_cut : goal.returns-then-stands_at_the_cut
returns-then-stands_at_the_cut c = serve-first _ _ _ _
    (c.begins_backward.ensures ∙ ap begins_backward (us_of_reals c.args.first.now)) c.if-begins_backward.false _
    (c.first_of-cut.ensures ∙ ap first_of (us_of_reals c.args.first.now)) _ c.stands_at_the_cut.ensures c.if-stands_at_the_cut.true

pub returns : goal.returns
returns c = serve-later _ _ _ _
    (c.begins_backward.ensures ∙ ap begins_backward (us_of_reals c.args.first.now)) c.if-begins_backward.false _
    (c.first_of-cut.ensures ∙ ap first_of (us_of_reals c.args.first.now)) _ _
    c.stands_at_the_cut.ensures c.if-stands_at_the_cut.false c.stands_at_the_cut-2.ensures

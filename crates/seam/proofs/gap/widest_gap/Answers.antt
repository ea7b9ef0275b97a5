use mathlib.Core.List.{[], ◌∷◌, foldl-append}
use Rattle.std.proofs.Common.{sym, ap, ◌∙◌}
use Rattle.lists.proofs.Folds.{folding_end}
use Rattle.seam.specs.declared.gap.Gap.{Gap}
use Rattle.seam.specs.Gap.{span, passed, gap_along}
use Rattle.seam.proofs.gap.widest_gap.Goals as goal

pub returns : goal.returns
unfolding gap_along
returns c =
    let last = span c.args.hi c.args.hi in
    c.passed.ensures ∙ ap (λ (g : Gap). passed g last) (folding_end passed _ _ _ _ c.loop-s.invariant c.loop-s-test.false)
    ∙ sym (foldl-append passed _ c.args.spans.now (last ∷ []))

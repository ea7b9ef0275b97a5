use Rattle.std.proofs.Common.{length, ap, ◌∙◌}
use Rattle.surfaces.proofs.knots.Inner as laws
use Rattle.surfaces.proofs.knots.Rungs.{inner-kept, inner-end}
use Rattle.surfaces.proofs.knots.inner_count.Goals as goal

pub returns : goal.returns
returns c = let count = laws.inner_counted _ c.merge_even_steps.ensures.value c.saturating_sub.ensures in
    record { value = count; ends_on = inner-end _ _ _ _ count; as_kept = count ∙ ap length (inner-kept _ _ _) }

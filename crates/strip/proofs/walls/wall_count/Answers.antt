use mathlib.Core.Path.{ap, ◌∙◌}
use lib.ListN.{length}
use Rattle.bands.proofs.Walls.{heights-kept}
use Rattle.strip.proofs.walls.Laws as laws
use Rattle.strip.proofs.walls.wall_count.Goals as goal

pub returns : goal.returns
returns c = let given = c.args in
    let least = c.min-lo.ensures in
    let most = c.max-hi.ensures in
    let steps = c.v_steps.ensures in
    let count = laws.count_is given.surface given.options given.lower given.upper _ _ _ least most steps _ c.inner_count.ensures.value in
    record {
      value = count;
      as_kept = count ∙ ap length (heights-kept _ _ _ _);
    }

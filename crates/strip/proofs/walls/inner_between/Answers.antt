use Rattle.std.proofs.Common.{length, sym, ap, ◌∙◌, arith}
use Rattle.strip.proofs.walls.Raising.{no_lower, no_upper, heights-there}
use Rattle.strip.proofs.walls.inner_between.Goals as goal

pub returns-in_default : goal.returns-in_default
returns-in_default c = sym (ap length (no_lower c.args.surface c.args.options c.args.lower.now c.args.upper.now (omega arith)))

pub returns-in_default-upper : goal.returns-in_default-upper
returns-in_default-upper c = sym (ap length (no_upper c.args.surface c.args.options c.args.lower.now c.args.upper.now (omega arith)))

pub returns : goal.returns
returns c =
    c.wall_count.ensures.value ∙ ap length (heights-there c.args.surface c.args.options c.args.lower.now c.args.upper.now (omega arith) (omega arith))

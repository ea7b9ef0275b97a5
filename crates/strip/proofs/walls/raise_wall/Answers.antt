use Rattle.std.proofs.Common.{arith}
use Rattle.strip.proofs.walls.Raising.{both_walls, no_lower, no_upper, no_wall, too_low, raised}
use Rattle.strip.proofs.walls.raise_wall.Goals as goal

pub returns-in_default : goal.returns-in_default
returns-in_default c =
    let r = both_walls _ _ _ _ _ (no_wall c.args.patch _ _ _ (no_lower c.args.patch.surface c.args.patch.options c.args.lower.now c.args.upper.now (omega arith))) in
    record { raised = r.0; as_kept = r.1 }

pub returns-in_default-upper : goal.returns-in_default-upper
returns-in_default-upper c =
    let r = both_walls _ _ _ _ _ (no_wall c.args.patch _ _ _ (no_upper c.args.patch.surface c.args.patch.options c.args.lower.now c.args.upper.now (omega arith))) in
    record { raised = r.0; as_kept = r.1 }

pub returns-then-wall-n : goal.returns-then-wall-n
returns-then-wall-n c =
    let low = too_low c.args.patch c.args.lower.now c.args.upper.now _ _ (omega arith) (omega arith) c.wall_count-n.ensures.value c.if-wall-n.true in
    let r = both_walls _ _ _ _ _ low in
    record { raised = r.0; as_kept = r.1 }

pub returns : goal.returns
returns c =
    let up = raised c.args.patch c.args.lower.now c.args.upper.now _ _ (omega arith) (omega arith) c.wall_count-n.ensures.value _ c.if-wall-n.false c.raise.ensures in
    let r = both_walls _ _ _ _ _ up in
    record { raised = r.0; as_kept = r.1 }

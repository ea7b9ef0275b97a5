use Rattle.std.proofs.Common.{map, ap, ◌∙◌}
use Rattle.tables.specs.Rows.{rows}
use Rattle.tables.proofs.Rows.{length-rows, rows-reverse}
use Rattle.std.proofs.lemmas.List.Edits.{sets}
use Rattle.strip.specs.Corners.{row_on}
use Rattle.strip.proofs.walls.Laws.{raised_up, read_up, read_down}
use Rattle.strip.proofs.walls.raise.Goals as goal

pub returns-then-lower-upper : goal.returns-then-lower-upper
returns-then-lower-upper c =
    let row = row_on c.args.patch c.args.u in
    let up = raised_up _ _ _ _ _ _ _ c.min-lo.ensures c.max-hi.ensures c.v_steps-steps.ensures row _ _ (length-rows c.args.wall.now ∙ c.requires)
    (c.raise_up.ensures ∙ ap (λ hs. sets (rows c.args.wall.now) 0 (map row hs)) c.new.ensures) in
    read_up _ _ _ _ row up c.if-lower-upper.true

pub returns : goal.returns
returns c =
    let row = row_on c.args.patch c.args.u in
    let up = raised_up _ _ _ _ _ _ _ c.min-lo.ensures c.max-hi.ensures c.v_steps-steps.ensures row _ _ (length-rows c.args.wall.now ∙ c.requires)
    (c.raise_up.ensures ∙ ap (λ hs. sets (rows c.args.wall.now) 0 (map row hs)) c.new.ensures) in
    read_down _ _ _ _ row up c.if-lower-upper.false (ap rows c.reverse.ensures.after ∙ rows-reverse c.raise_up.new.wall)

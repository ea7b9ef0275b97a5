use Rattle.std.proofs.Common.{ap, ◌∙◌, arith}
use Rattle.rings.specs.Choices.{first_of}
use Rattle.rings.proofs.ReadRows.{us_of_rows}
use Rattle.laying.proofs.Starting.{searched_in_room, none-taken, start-taken}
use Rattle.laying.proofs.start.take_start.Goals as goal

pub returns-then-room-first : goal.returns-then-room-first
returns-then-room-first c =
    let found = searched_in_room _ _ _ c.args.u.now c.args.v.now c.args.x.now c.args.y.now c.args.z.now _ _ (omega arith) c.search_tables-found.ensures in
    none-taken _ _ _ _ _ found (omega arith)

pub returns : goal.returns
returns c =
    let found = searched_in_room _ _ _ c.args.u.now c.args.v.now c.args.x.now c.args.y.now c.args.z.now _ _ (omega arith) c.search_tables-found.ensures in
    start-taken _ _ _ _ _ found (omega arith) _ _ _ c.take_first.ensures (c.first_of-cut.ensures ∙ ap first_of (us_of_rows c.take_first.new.first))
    c.take_later.ensures

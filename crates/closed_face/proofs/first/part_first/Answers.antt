use Rattle.std.proofs.Common.{ap, arith, length}
use Rattle.closed_face.proofs.first.Laws as laws
use Rattle.closed_face.proofs.first.part_first.Goals as goal

pub returns-then-dst-n : goal.returns-then-dst-n
returns-then-dst-n g c = laws.no_room _ _ _ _ c.if-dst-n.true

pub overflow_add-end : goal.overflow_add-end
overflow_add-end g c =
    let m = ap length c.part-first.ensures in
    let before = ap length c.part-before.ensures in
    omega (arith, laws.length_part c.args.start c.args.count c.args.src.now, laws.length_part 0 c.args.start c.args.src.now)

pub returns : goal.returns
returns g c = laws.first_is _ _ _ _ c.if-dst-n.false
    _ _ _ _ _ _ c.part-first.ensures
    c.copy_into.ensures
    c.part-before.ensures
    c.copy_into-2.ensures c.part.ensures
    c.copy_into-3.ensures

use Rattle.rings.proofs.Turning.{turned_onto_in, align_few, align_turned}
use Rattle.rings.proofs.moves.align_at.Goals as goal
use Rattle.std.proofs.Common.{arith, rules}

pub returns-then-ring-lt3 : goal.returns-then-ring-lt3
returns-then-ring-lt3 g c = align_few _ _ _ _ c.if-ring-lt3.true

pub returns : goal.returns
returns g c = align_turned _ _ _ _ _ c.if-ring-lt3.false
    (turned_onto_in _ _ _ _ (omega arith) _ _ _ _ c.begin.ensures c.slide.ensures (search rules) c.slid.ensures)

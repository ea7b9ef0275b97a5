use borrow.Author.Rules.{rules}
use Rattle.replay.proofs.Painting.{paint_end}
use Rattle.replay.proofs.painted.paint.Goals as goal

pub returns : goal.returns
returns c = search (paint_end, rules)

use Rattle.std.proofs.Common.{suc, rules}
use borrow.Author.Tests.{tests}
use Rattle.records.specs.Bytes.{◌<?◌}
use Rattle.records.specs.Face.{start}
use Rattle.records.specs.Refusals.{too_many_points}
use Rattle.records.proofs.check.too_many_points.Goals as goal

pub returns : goal.returns
unfolding too_many_points
returns c = c.first_loop.ensures (λ k. c.args.limits.points <? start c.args.face.bytes.now (suc k)) (λ k b h e. search (rules, tests))

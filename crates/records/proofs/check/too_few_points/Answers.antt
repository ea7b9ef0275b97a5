use Rattle.std.proofs.Common.{rules}
use borrow.Author.Tests.{tests}
use Rattle.records.specs.Bytes.{◌<?◌}
use Rattle.records.specs.Face.{count}
use Rattle.records.specs.Limits.{min_points}
use Rattle.records.specs.Refusals.{too_few_points}
use Rattle.records.proofs.check.too_few_points.Goals as goal

pub returns : goal.returns
unfolding too_few_points
returns c = c.first_loop.ensures (λ k. count c.args.face.bytes.now k <? min_points) (λ k b h e. search (rules, tests))

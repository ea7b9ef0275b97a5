use Rattle.std.proofs.Common.{arith, ◌∙◌}
use Rattle.std.proofs.lemmas.List.{length-map}
use lib.Ieee.{lt}
use Rattle.rings.proofs.Decisions.{few_forward, second-first}
use Rattle.rings.proofs.ReadRows.{read_of}
use Rattle.rings.proofs.choices.begins_backward.Goals as goal

pub returns-then-ring-le3 : goal.returns-then-ring-le3
returns-then-ring-le3 g c = few_forward _ (omega (arith, length-map c.args.ring.now g.T.RingPoint.u_of))

pub returns : goal.returns
returns g c =
    (λ i. lt (read_of g.T.RingPoint.u_of c.args.ring.now 1 _ _ (omega arith) c.index-ring-1.is c.u.ensures i)
    (read_of g.T.RingPoint.u_of c.args.ring.now 0 _ _ (omega arith) c.index-ring-0.is c.u-2.ensures i))
    ∙ second-first _ (omega (arith, length-map c.args.ring.now g.T.RingPoint.u_of))

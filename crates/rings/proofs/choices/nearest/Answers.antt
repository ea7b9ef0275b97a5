use Rattle.std.proofs.Common.{arith, ap, ◌∙◌, length, ◌-◌}
use Rattle.std.proofs.lemmas.List.{length-map, length-take, get_or-take}
use Rattle.rings.specs.Choices.{offset}
use Rattle.rings.proofs.Decisions.{nearing, nearing_less, nearing_other, nearing_end, nearest-none}
use Rattle.rings.proofs.ReadRows.{read_of}
use Rattle.rings.proofs.choices.nearest.Goals as goal
use Rattle.rings.proofs.choices.nearest.Goals.{then-x-low, else-x-low}

pub returns-then-ring-lt2 : goal.returns-then-ring-lt2
returns-then-ring-lt2 g c = nearest-none _ _ _ (omega (arith, length-map c.args.ring.now g.T.RingPoint.u_of))

pub loop-i-init : goal.loop-i-init
loop-i-init g c =
    nearing _ _ _ _ (omega (arith, length-map c.args.ring.now g.T.RingPoint.u_of))
    (c.offset-low.ensures ∙ ap (offset c.args.period c.args.cut) (read_of g.T.RingPoint.u_of c.args.ring.now 0 _ _ (omega arith) c.index-ring-0.is c.u.ensures))

pub loop-i-preserved : goal.loop-i-preserved
loop-i-preserved g c =
    let l = length-map c.args.ring.now g.T.RingPoint.u_of in
    let open_count = length-take (length c.args.ring.now - 1) c.args.ring.now in
    let item_is = c.point-item.is ∙ get_or-take (length c.args.ring.now - 1) c.args.ring.now c.loop-i.i _ (omega arith) in
    let x_is = c.offset-x.ensures ∙ ap (offset c.args.period c.args.cut)
    (read_of g.T.RingPoint.u_of c.args.ring.now c.loop-i.i _ _ (omega arith) item_is c.u-in-loop-i.ensures) in
    elim c.if-x-low.branch [
      | then-x-low w ↦ rw (w.best-is, w.low-is) (nearing_less _ _ _ _ _ _ _ c.loop-i.invariant (omega arith) x_is w.if-x-low.true)
      | else-x-low w ↦ rw (w.best-is, w.low-is) (nearing_other _ _ _ _ _ _ _ c.loop-i.invariant (omega arith) x_is w.if-x-low.false)
    ]

pub returns : goal.returns
returns g c = nearing_end _ _ _ _ _ _ c.loop-i.invariant
    (omega (arith, length-map c.args.ring.now g.T.RingPoint.u_of, length-take (length c.args.ring.now - 1) c.args.ring.now))

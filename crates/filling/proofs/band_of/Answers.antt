use Rattle.std.proofs.Common.{ap, ◌∙◌, refl, sym, arith, rules}
use Rattle.surfaces.specs.declared.patch.Patch.{Patch}
use Rattle.surfaces.specs.Domains.{u_period}
use Rattle.filling.proofs.BandFace.{band_face}
use Rattle.filling.proofs.Finding.{falls_held}
use Rattle.filling.proofs.Stages.{patch_in_lem, sense_in_lem}
use Rattle.filling.proofs.Taken.{a_inside, b_inside, ring-taken, falls-taken, counts-taken, holes-taken, band-taken, first_short, later_short}
use Rattle.filling.proofs.band_of.Goals as goal

pub returns : goal.returns
returns c = λ areas read rings room.
    let one = c.ring_of-one in
    let other = c.ring_of-other in
    let patch_is = patch_in_lem _ read.accepted _ _ _ read.read _ read.surface_is _ c.patch.ensures in
    let sense_is = c.has_sense.ensures ∙ sense_in_lem _ read.accepted _ _ _ read.read _ refl in
    let f = band_face c.args.face c.args.corners.now areas read _ _ rings _ patch_is _ sense_is in
    let period_is = c.u_period.ensures ∙ ap (λ (p : Patch). u_period p.surface) (sym c.patch.ensures) in
    band-taken _ _ _ _ _ _ _ _ f _ _ _ _ _ _
    (ring-taken _ _ _ _ _ _ _ _ f _ (a_inside _ _ _ _ _ _ _ _ f) _ _ _ _ one.ensures.0 (omega arith)
    (first_short _ _ _ _ _ _ _ _ f) c.min-m.ensures one.ensures.1)
    (ring-taken _ _ _ _ _ _ _ _ f _ (b_inside _ _ _ _ _ _ _ _ f) _ _ _ _ other.ensures.0 (omega arith)
    (later_short _ _ _ _ _ _ _ _ f) c.min-n.ensures other.ensures.1)
    (falls-taken _ _ _ _ _ _ _ _ f _ (a_inside _ _ _ _ _ _ _ _ f) _ _ one.ensures.0
    (falls_held _ one.result.travel (search rules) c.falls.ensures))
    (falls-taken _ _ _ _ _ _ _ _ f _ (b_inside _ _ _ _ _ _ _ _ f) _ _ other.ensures.0
    (falls_held _ other.result.travel (search rules) c.falls-2.ensures))
    (counts-taken _ _ _ _ _ _ _ _ f _ _ _ _ (omega arith) c.count_holes.ensures c.min-k.ensures c.pick.ensures)
    (holes-taken _ _ _ _ _ _ _ _ f _ _ room c.pick_holes.ensures) _ _ _ _ _ period_is c.unwrap_or-period.ensures
    c.band_between.ensures

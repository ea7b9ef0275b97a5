use Rattle.std.proofs.Common.{refl, ap, ◌∙◌, ◌≡◌, arith, rules}
use Rattle.std.specs.Prelude.{Ok}
use Rattle.std.proofs.lemmas.Result.{err_from_is_err_and}
use Rattle.records.specs.declared.refusal.Refusal.TheVariants.{LongStrip}
use Rattle.tables.specs.Rows.{rows}
use Rattle.tables.proofs.PartRows.{rows-placed}
use Rattle.filling.proofs.Taken.{room_in}
use Rattle.filling.proofs.Finding.{areas-put, rings_found}
use Rattle.filling.proofs.BandFace.{band_face}
use Rattle.filling.proofs.Banded.{filled_short, filled_long}
use Rattle.filling.proofs.Mapped.{by_cases}
use Rattle.filling.proofs.fill_band.Goals as goal

pub returns : goal.returns
returns c = λ read two.
    let a = c.args in
    let rings = rings_found _ _ _ _ _ _ read.wraps_are two c.last_wrapping.ensures c.unwrap_or-a.ensures c.first_wrapping.ensures c.unwrap_or-b.ensures in
    let f = band_face a.face a.corners.now a.areas.now read _ _ rings _ refl _ refl in
    let e : c.band_of.result ≡ Ok c.in_ok-closed.closed = by_cases c.band_of.result c.in_ok-closed.ensures.cases (λ closed is same. cc) (λ long is q. absurd q) in
    filled_short _ _ _ _ _ _ _ _ f _ _ _ (c.band_of.ensures a.areas.now read rings (room_in _ (omega arith))) _ e (omega arith)
    (omega arith)
    _ a.out.now.counts _ a.out.now.areas _ _ (search rules) (search rules)
    (ap rows c.copy_into.ensures ∙ rows-placed _ _ _) c.pick.ensures (areas-put _ _ _ _ _ _ read.areas_are c.pick-2.ensures) c.saturating_sub.ensures

pub returns-in_err-closed : goal.returns-in_err-closed
returns-in_err-closed c = λ read two.
    let a = c.args in
    let rings = rings_found _ _ _ _ _ _ read.wraps_are two c.last_wrapping.ensures c.unwrap_or-a.ensures c.first_wrapping.ensures c.unwrap_or-b.ensures in
    let f = band_face a.face a.corners.now a.areas.now read _ _ rings _ refl _ refl in
    let p = err_from_is_err_and c.from_residual.result c.from_residual.ensures.1 in
    by_cases c.band_of.result c.in_err-closed.ensures.cases (λ closed is q. absurd cc)
    (λ long is told. let q : c.in_err-closed.field-0.0 ≡ LongStrip long.corners = search (told, rules) in
    rw (p.1, p.2, q) (filled_long _ _ _ _ _ _ _ _ f _ _ _ (c.band_of.ensures a.areas.now read rings (room_in _ (omega arith))) long _ _ is))

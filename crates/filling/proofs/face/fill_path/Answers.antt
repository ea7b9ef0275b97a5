use Rattle.filling.proofs.Stages.{no_loops, some_loops, patch_in_lem, whole_filled, none-wraps, closed_filled, band-wraps}
use Rattle.filling.proofs.face.fill_path.Goals as goal

pub returns-then-face-eq0 : goal.returns-then-face-eq0
returns-then-face-eq0 c = λ f pass.
    whole_filled _ f.accepted _ _ _ f.read _ _
    (c.fill_whole.ensures _ f.accepted (no_loops _ f.accepted _ _ _ f.read c.if-face-eq0.true)
    (patch_in_lem _ f.accepted _ _ _ f.read _ f.surface_is _ c.patch.ensures))
    c.if-face-eq0.true

pub returns-then-wrapping_count-eq0 : goal.returns-then-wrapping_count-eq0
returns-then-wrapping_count-eq0 c = λ f pass.
    let none = c.if-wrapping_count-eq0.true in
    let many = c.wrapping_count.ensures in
    closed_filled _ f.accepted _ _ _ f.read _ f.wraps_are _ many none _ _
    (c.fill_closed.ensures f (some_loops _ f.accepted _ _ _ f.read c.if-face-eq0.false) (none-wraps _ f.accepted _ _ _ f.read _ f.wraps_are _ many none))

pub returns : goal.returns
returns c = λ f pass.
    c.fill_band.ensures f (band-wraps _ f.accepted _ _ _ f.read _ f.wraps_are _ c.wrapping_count.ensures pass c.if-wrapping_count-eq0.false)

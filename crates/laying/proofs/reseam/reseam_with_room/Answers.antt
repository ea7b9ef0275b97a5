use mathlib.Core.Bool.{not}
use Rattle.std.proofs.Common.{ap}
use Rattle.laying.proofs.Reseaming.{stripless, none_across, at_gap, no_gap}
use Rattle.laying.proofs.reseam.reseam_with_room.Goals as goal

pub returns-then-not-has_strip : goal.returns-then-not-has_strip
returns-then-not-has_strip c = stripless _ _ _ _ _ _ c.least_u-lo.ensures _ c.has_strip.ensures (ap not c.if-not-has_strip.true)

pub returns-then-not-any_straddles : goal.returns-then-not-any_straddles
returns-then-not-any_straddles c = none_across _ _ _ _ _ _ c.least_u-lo.ensures _ c.has_strip.ensures
    (ap not c.if-not-has_strip.false) _ c.onto_all.ensures _
    c.any_straddles.ensures (ap not c.if-not-any_straddles.true)

pub returns-then-usable : goal.returns-then-usable
returns-then-usable c = at_gap _ _ _ _ _ _ c.least_u-lo.ensures
    _
    c.has_strip.ensures
    (ap not c.if-not-has_strip.false)
    _
    c.onto_all.ensures
    _
    c.any_straddles.ensures
    (ap not c.if-not-any_straddles.false)
    _ c.gap_of-gap.ensures _
    c.usable.ensures
    c.if-usable.true _ _ _
    (c.cut_anew.ensures.first_after, (c.cut_anew.ensures.later_after, c.cut_anew.ensures.holes_after))

pub returns-else-usable : goal.returns-else-usable
returns-else-usable c = no_gap _ _ _ _ _ _ c.least_u-lo.ensures
    _
    c.has_strip.ensures
    (ap not c.if-not-has_strip.false) _
    c.onto_all.ensures _
    c.any_straddles.ensures
    (ap not c.if-not-any_straddles.false) _
    c.gap_of-gap.ensures _ c.usable.ensures c.if-usable.false

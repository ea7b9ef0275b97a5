use lib.Seq.{length-take-le}
use Rattle.laying.proofs.EachHole.{gap_is}
use Rattle.laying.proofs.reseam.gap_of.Goals as goal

pub returns : goal.returns
returns c = gap_is c.args.holes.counts.now c.args.holes.corners.now _ _ _ _ _ _ (length-take-le _ c.args.spans.now c.requires) c.spans_into.ensures
    c.sort_spans.ensures c.widest_gap.ensures

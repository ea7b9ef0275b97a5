use Rattle.std.proofs.Common.{arith, refl, rules}
use Rattle.bands.specs.Columns.{setting_on}
use Rattle.filling.proofs.Between.{between, still_short}
use Rattle.filling.proofs.band_between.Goals as goal

pub returns : goal.returns
returns c =
    λ few short. between (setting_on c.args.patch c.args.period c.args.sense) c.args.counts.now
    c.args.first.now c.args.later.now c.args.holes.now _ _ _ _ _ _ _ c.args.first_falls c.args.later_falls _ _
    c.lay_rings.ensures.first_after c.lay_rings.ensures.later_after c.reseam.ensures c.take_start.ensures.first_after
    c.take_start.ensures.later_after (omega arith)
    (still_short c.args.first.now c.reseam.new.first c.args.later.now c.reseam.new.later _ _ _ refl (search rules) refl (search rules)
    (omega arith)) _ _ _ _ _ _ c.goes_with-with1.ensures c.goes_with-with2.ensures
    (c.close_ordered.ensures.value c.args.sense) (c.close_ordered.ensures.out_after c.args.sense) (omega arith) (omega arith)

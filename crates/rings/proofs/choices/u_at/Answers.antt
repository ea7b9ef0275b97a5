use Rattle.std.proofs.Common.{◌≤◌, length, map, sym, ◌∙◌, rules}
use Rattle.std.proofs.lemmas.List.{length-map, get_or_past}
use Rattle.std.specs.Float.{nan}
use Rattle.tables.proofs.slices.Laws.{nan_is}
use Rattle.rings.proofs.choices.u_at.Goals as goal

pub returns-in-None : goal.returns-in-None
returns-in-None g c =
    let past : length (map g.T.RingPoint.u_of c.args.ring.now) ≤ c.args.k = search (rules, length-map) in
    nan_is ∙ sym (get_or_past (map g.T.RingPoint.u_of c.args.ring.now) c.args.k nan past)

use Rattle.std.proofs.Common.{◌≡◌, ◌≤◌, ◌<◌, length, get_or, sym, ap, ◌∙◌, rules}
use Rattle.std.proofs.lemmas.List.{get_or_past}
use Rattle.tables.specs.Rows.{corner_of}
use Rattle.tables.proofs.Rows.{absent, row_at, row_or}
use Rattle.tables.proofs.corners.corner_at.Goals as goal

pub returns-in-Some : goal.returns-in-Some
returns-in-Some c =
    let is : c.in-Some.c.now ≡ get_or c.args.t.now c.args.i absent = search rules in
    let there : c.args.i < length c.args.t.now = search rules in
    ap corner_of is ∙ sym (row_at c.args.t.now c.args.i there)

pub returns-in-None : goal.returns-in-None
returns-in-None c =
    let past : length c.args.t.now ≤ c.args.i = search rules in
    ap corner_of (sym (get_or_past c.args.t.now c.args.i c.no_corner.result past)) ∙ row_or c.args.t.now c.args.i c.no_corner.result c.no_corner.ensures

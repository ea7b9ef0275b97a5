use Rattle.std.proofs.Common.{◌∙◌}
use borrow.Author.Rules.{sfits_of}
use mir.Facts.{to_z-of_z}
use mir.Syntax.{w32}
use Rattle.loops.proofs.rows.Reading.{net-few, net_more}
use Rattle.loops.proofs.rows.wrap_every.Goals as goal

pub returns-in_default : goal.returns-in_default
returns-in_default g c = net-few _ _ g.met.R.TableRow.rows_are _ _ c.in_default.len_below

pub returns-in-len2-up : goal.returns-in-len2-up
returns-in-len2-up g c =
    let net = net_more _ _ g.met.R.TableRow.rows_are _ _ _ _ _ _ c.in-len2-up.len_at_least c.last-item.is c.corner.ensures c.first-item.is c.corner-in-len2-up.ensures in
    to_z-of_z {w = w32} (sfits_of c.turns_counted.type_inv) ∙ c.turns_counted.ensures ∙ net

use mathlib.Core.Bool.{not}
use Rattle.std.proofs.Common.{ap}
use borrow.Author.Tests.{not-true, not-false}
use mathlib.Core.Path.{sym, ◌∙◌}
use Rattle.tables.proofs.Rows.{length-rows, rows_take}
use Rattle.full_domain.proofs.WholeRows.{no_whole, no_room, boundary_left}
use Rattle.full_domain.proofs.boundary.Sides.{count_whole}
use Rattle.full_domain.proofs.table.full_domain_loop.Goals as goal

pub returns-then-not-is_whole : goal.returns-then-not-is_whole
returns-then-not-is_whole c =
    let r = no_whole _ _ _ _ _ c.is_whole.ensures (not-true _ (ap not c.if-not-is_whole.true)) in
    record { value = r.0; t_after = r.1.0; rows_reach = r.1.1 }

pub returns-then-t-n : goal.returns-then-t-n
returns-then-t-n c = let r = no_room _ _ _ _ _ _ (sym (length-rows c.args.t.now))
    (count_whole _ _ _ _ _ c.is_whole.ensures (not-false _ (ap not c.if-not-is_whole.false))
    c.side_count-su.ensures.value.0 c.side_count-sv.ensures.value.0) c.if-t-n.true in record {
      value = r.0;
      t_after = r.1.0;
      rows_reach = r.1.1;
    }

pub returns : goal.returns
returns c = let whole = c.is_whole.ensures in
    let r = boundary_left _ _ _ _ _ _ _ _ _ (sym (length-rows c.args.t.now))
    (count_whole _ _ _ _ _ whole (not-false _ (ap not c.if-not-is_whole.false))
    c.side_count-su.ensures.value.0 c.side_count-sv.ensures.value.0) c.if-t-n.false
    (sym whole ∙ not-false _ (ap not c.if-not-is_whole.false)) c.put_boundary.ensures (rows_take _ _) c.signed_area.ensures in
    record { value = r.0; t_after = r.1.0; rows_reach = r.1.1 }

use Rattle.std.proofs.Common.{sym}
use Rattle.tables.proofs.Rows.{length-rows}
use borrow.Author.Rules.{sfits_of}
use Rattle.loop_records.proofs.Recorded.{record_is}
use Rattle.loop_records.proofs.measure.measured.Goals as goal

pub returns : goal.returns
returns c = record_is _ _ _ _ _ _ _ (sym (length-rows _)) (sfits_of c.net_wrap-wrap.type_inv) (sfits_of c.signum.type_inv)
    c.net_wrap-wrap.ensures c.signum.ensures.value c.signed_area.ensures

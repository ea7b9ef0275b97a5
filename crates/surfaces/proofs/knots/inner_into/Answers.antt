use Rattle.std.proofs.Common.{ap, ◌∙◌}
use lib.Seq.{sets}
use Rattle.surfaces.proofs.knots.Inner as laws
use Rattle.surfaces.proofs.knots.Rungs.{inner-kept}
use Rattle.surfaces.proofs.knots.inner_into.Goals as goal

pub returns-then-m-out : goal.returns-then-m-out
returns-then-m-out c = let counted = c.inner_count-m.ensures in
    let written = laws.inner_part _ _ counted.value c.merge_even.ensures.out_after in
    record {
      value = counted.value;
      out_after = written;
      ends_on = counted.ends_on;
      out_as_kept = written ∙ ap (sets _ 0)
          (inner-kept _ _ _);
    }

pub returns-else-m-out : goal.returns-else-m-out
returns-else-m-out c = let counted = c.inner_count-m.ensures in
    let no_more = c.if-m-out.false in
    let written = laws.inner_whole _ _ counted.value no_more c.merge_even-else-m-out.ensures.out_after in
    record {
      value = counted.value;
      out_after = written;
      ends_on = counted.ends_on;
      out_as_kept = written ∙ ap (sets _ 0)
          (inner-kept _ _ _);
    }

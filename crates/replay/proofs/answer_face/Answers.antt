use mathlib.Core.Path.{sym}
use lib.Seq.{length-take-le}
use Rattle.answers.proofs.Front.{wrote_within}
use Rattle.replay.proofs.answer_face.Goals as goal

pub slice_bounds-six-end : goal.slice_bounds-six-end
slice_bounds-six-end c = wrote_within _ _ (c.write_refusal-length.ensures.value, c.write_refusal-length.ensures.out_after)

pub slice_bounds-write_stored-end-in-Err : goal.slice_bounds-write_stored-end-in-Err
slice_bounds-write_stored-end-in-Err c =
    sym (length-take-le _ _ (wrote_within _ _ (c.write_refusal-length.ensures.value, c.write_refusal-length.ensures.out_after)))

use Rattle.std.proofs.Common.{rules}
use Rattle.std.proofs.lemmas.Result.{err_from_is_err_and}
use Rattle.closer.proofs.Call.{promised, too_few, header_refused, face_refused, face-closed}
use Rattle.closer.proofs.close_face.Goals as goal

-- the six facts under the names of the clauses
by_clause : {A B C D E F : Type 0} → A × (B × (C × (D × (E × F))))
    → record { value : A; res_after : B; demand1 : C; band_demand : D; whole_demand : E; result_bounded : F }
by_clause h = record {
  value = h.0;
  res_after = h.1.0;
  demand1 = h.1.1.0;
  band_demand = h.1.1.1.0;
  whole_demand = h.1.1.1.1.0;
  result_bounded = h.1.1.1.1.1;
}

-- refusal 1
pub returns-then-res-limits : goal.returns-then-res-limits
returns-then-res-limits c =
    by_clause
    (promised c.args.«record».now _ (search rules)
    (too_few _ _ _ c.version1-limits.ensures c.if-res-limits.true))

-- refusal 2
pub returns-in-Some : goal.returns-in-Some
returns-in-Some c =
    by_clause
    (promised c.args.«record».now _ (search rules)
    (header_refused _ _ _ c.version1-limits.ensures c.if-res-limits.false _ c.in-Some.ensures))

-- the others
pub returns-in_err-filled : goal.returns-in_err-filled
returns-in_err-filled c =
    let p = err_from_is_err_and c.from_residual.result c.from_residual.ensures.1 in
    by_clause
    (promised c.args.«record».now _ (search rules)
    (rw (p.1, p.2) (face_refused _ _ _ c.version1-limits.ensures c.if-res-limits.false _ _ c.in_err-filled.ensures)))

pub returns : goal.returns
returns c =
    by_clause
    (promised c.args.«record».now _ (search rules)
    (face-closed _ _ _ c.version1-limits.ensures c.if-res-limits.false _ _ c.in_ok-filled.ensures _ _ c.write_filled.ensures))

use mathlib.Core.Path.{refl, sym, ◌∙◌}
use native.Mathlib.Omega.{arith}
use lib.Seq.{length-take-le}
use Rattle.std.proofs.lemmas.Result.{err_from_is_err_and}
use Rattle.records.specs.Limits.{version1}
use Rattle.call.specs.Later.{ring_conditions, strip_conditions}
use Rattle.filling.proofs.Reading.{counts_told, counts_many, rows_told, read_as}
use Rattle.filling.proofs.Refused.{rings_judged}
use Rattle.filling.proofs.Stages.{held, surface_in_lem, records_in, wraps_in_lem, areas_in, refused_as, filled_as}
use Rattle.filling.proofs.face.fill_record.Goals as goal

pub slice_bounds-counts-end : goal.slice_bounds-counts-end
slice_bounds-counts-end c = let b = counts_told _ _ _ _ c.read_counts.ensures _ c.unwrap_or-l.ensures in omega arith

pub slice_bounds-counts-end-2 : goal.slice_bounds-counts-end-2
slice_bounds-counts-end-2 c = sym (length-take-le _ _ (let b = counts_told _ _ _ _ c.read_counts.ensures _ c.unwrap_or-l.ensures in omega arith))

pub slice_bounds-corners-end : goal.slice_bounds-corners-end
slice_bounds-corners-end c = let b = rows_told _ _ _ _ c.read_corners.ensures _ c.unwrap_or-e.ensures in omega arith

pub slice_bounds-corners-end-2 : goal.slice_bounds-corners-end-2
slice_bounds-corners-end-2 c = sym (length-take-le _ _ (let b = rows_told _ _ _ _ c.read_corners.ensures _ c.unwrap_or-e.ensures in omega arith))

pub slice_bounds-wraps-end : goal.slice_bounds-wraps-end
slice_bounds-wraps-end c = let b = counts_told _ _ _ _ c.read_counts.ensures _ c.unwrap_or-l.ensures in omega arith

pub slice_bounds-wraps-end-2 : goal.slice_bounds-wraps-end-2
slice_bounds-wraps-end-2 c = sym (length-take-le _ _ (let b = counts_told _ _ _ _ c.read_counts.ensures _ c.unwrap_or-l.ensures in omega arith))

pub slice_bounds-areas-end : goal.slice_bounds-areas-end
slice_bounds-areas-end c = let b = counts_told _ _ _ _ c.read_counts.ensures _ c.unwrap_or-l.ensures in omega arith

pub slice_bounds-fill_path-end : goal.slice_bounds-fill_path-end
slice_bounds-fill_path-end c = sym (length-take-le _ _ (let b = counts_told _ _ _ _ c.read_counts.ensures _ c.unwrap_or-l.ensures in omega arith))

pub returns-in_err-check_rings : goal.returns-in_err-check_rings
returns-in_err-check_rings c = λ a.
    let read = read_as _ a _ _ _ c.read_head.ensures refl (omega arith) _ _ _ c.read_counts.ensures refl _ c.unwrap_or-l.ensures _ _ _
    c.read_corners.ensures refl _ c.unwrap_or-e.ensures in
    let many = counts_many _ _ _ _ c.read_counts.ensures (omega arith) _ c.unwrap_or-l.ensures in
    let surface_is = surface_in_lem _ a _ _ _ read _ c.kind.ensures _ _ c.at.ensures c.at-2.ensures _ c.surface_of-surface.ensures in
    let wraps_are = wraps_in_lem _ a _ _ _ read _ surface_is _ c.u_period.ensures _ c.measure_loops-loops.ensures _ many _ _ (omega arith)
    c.wraps_of.ensures in
    let p = err_from_is_err_and c.from_residual.result c.from_residual.ensures.1 in
    rw (p.1, p.2) (refused_as _ ring_conditions (strip_conditions version1) _
    (c.in_err-check_rings.ensures ∙ rings_judged _ _ (held _ a _ _ _ read) _ wraps_are _ c.kind-2.ensures) _)

pub returns : goal.returns
returns c = λ a.
    let read = read_as _ a _ _ _ c.read_head.ensures refl (omega arith) _ _ _ c.read_counts.ensures refl _ c.unwrap_or-l.ensures _ _ _
    c.read_corners.ensures refl _ c.unwrap_or-e.ensures in
    let many = counts_many _ _ _ _ c.read_counts.ensures (omega arith) _ c.unwrap_or-l.ensures in
    let surface_is = surface_in_lem _ a _ _ _ read _ c.kind.ensures _ _ c.at.ensures c.at-2.ensures _ c.surface_of-surface.ensures in
    let wraps_are = wraps_in_lem _ a _ _ _ read _ surface_is _ c.u_period.ensures _ c.measure_loops-loops.ensures _ many _ _ (omega arith)
    c.wraps_of.ensures in
    let found = c.in_ok-check_rings.ensures ∙ rings_judged _ _ (held _ a _ _ _ read) _ wraps_are _ c.kind-2.ensures in
    filled_as _ ring_conditions (strip_conditions version1) found _ _
    (c.fill_path.ensures
    (record {
      accepted = a;
      read = read;
      loops_are = records_in _ a _ _ _ read _ surface_is _ c.u_period.ensures _ c.measure_loops-loops.ensures;
      wraps_are = wraps_are;
      areas_are = areas_in _ a _ _ _ read _ surface_is _ c.u_period.ensures _ c.measure_loops-loops.ensures _ many _ _ (omega arith)
          c.areas_of.ensures;
      surface_is = surface_is;
    })
    (sym found))

use Rattle.std.proofs.Common.{rules, ap, ◌∙◌, arith, length, take, List, Bor}
use borrow.Author.Tests.{tests}
use Rattle.std.proofs.lemmas.Iterator.{YieldsList-from_map, YieldsList-from_take}
use Rattle.std.proofs.lemmas.Iterator.Consumers.{YieldsList-from_first, sum_by_from_yields_List, fits_by_from_yields_list}
use Rattle.tables.specs.Loops.{loops_in}
use Rattle.tables.specs.Rows.{rows}
use Rattle.tables.specs.declared.corners.Corner.{Corner as Held}
use Rattle.tables.proofs.Rows.{length-rows}
use Rattle.closed_face.proofs.Loops.{sum_of_rows, front_rows}
use Rattle.closed_face.proofs.face.begin_of.Goals as goal

pub sum-requires-clause-fits : goal.sum-requires-clause-fits
sum-requires-clause-fits c =
    let ls = take c.args.k (loops_in c.args.loops) in
    fits_by_from_yields_list length ls c.map.result _
    (YieldsList-from_map {s = c.map.result} _ length
    (YieldsList-from_take {s = c.map.result.iter} c.args.k (YieldsList-from_first (λ (one : Bor (List Held)). rows one.now) loops_in (loops_in c.args.loops) (ap (λ t. loops_in t.iter) c.map.ensures.source ∙ ap loops_in c.take.ensures.source)) (ap (λ t. t.n) c.map.ensures.source ∙ c.take.ensures.count))
    c.map.ensures.closure (λ one n q k. search (rules, tests, length-rows)))
    (omega (arith, sum_of_rows ls, front_rows c.args.loops c.args.k))

pub returns : goal.returns
returns c =
    let ls = take c.args.k (loops_in c.args.loops) in
    let is = sum_by_from_yields_List length ls c.map.result c.sum.result c.sum.ensures.ran
    (YieldsList-from_map {s = c.map.result} _ length
    (YieldsList-from_take {s = c.map.result.iter} c.args.k (YieldsList-from_first (λ (one : Bor (List Held)). rows one.now) loops_in (loops_in c.args.loops) (ap (λ t. loops_in t.iter) c.map.ensures.source ∙ ap loops_in c.take.ensures.source)) (ap (λ t. t.n) c.map.ensures.source ∙ c.take.ensures.count))
    c.map.ensures.closure (λ one n q k. search (rules, tests, length-rows))) in
    (is ∙ sum_of_rows ls, omega (arith, is, sum_of_rows ls, front_rows c.args.loops c.args.k))

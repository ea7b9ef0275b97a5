use Rattle.std.proofs.Common.{◌∷◌, length, take, drop, sym, ap, ap₂, ◌∙◌, rules}
use Rattle.lists.specs.Pieces.{pieces}
use Rattle.lists.proofs.Pieces.{no-pieces}
use Rattle.tables.proofs.AnyRows.{first_loop}
use Rattle.tables.proofs.loops.LoopsIterator.next.Goals as goal

pub returns-in_err-count-clause-steps : goal.returns-in_err-count-clause-steps
returns-in_err-count-clause-steps g c =
    let none = no-pieces c.args.self.now.counts.now (g.R.TableRow.rows_of c.args.self.now.corners.now) c.in_err-count.ensures.cases in
    rw c.from_residual.ensures (none, none)

pub returns-clause-steps : goal.returns-clause-steps
returns-clause-steps g c =
    let rows = g.R.TableRow.rows_of in
    let t = c.args.self.now.corners.now in
    let front = c.split_at.ensures.front ∙ ap (λ k. take k t) c.min.ensures in
    let back = c.split_at.ensures.back ∙ ap (λ k. drop k t) c.min.ensures in
    let many = ap (λ ns. pieces ns (rows t)) c.in_ok-count.ensures.cases.0 in
    let parts = first_loop _ rows g.met.R.TableRow.rows_are c.in_ok-count.count.now c.in_ok-count.counts.now t in
    let given = sym (ap₂ (λ a b. rows a ∷ pieces c.in_ok-count.counts.now (rows b)) front back) in
    many ∙ parts ∙ given

pub returns-clause-goes : goal.returns-clause-goes
returns-clause-goes g c = let shorter = ap length (returns-clause-steps g c) in search rules

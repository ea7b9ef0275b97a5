use Rattle.std.proofs.Common.{ℕ, ◌≡◌, true, false, rules}
use Rattle.std.proofs.lemmas.Iterator.{first_from_Range}
use Rattle.tables.specs.Loops.{loops_in}
use Rattle.call.specs.Later.{open_at}
use Rattle.measuring.proofs.Searches.{opening_found}
use Rattle.measuring.proofs.refusals.open_ring.Goals as goal

pub returns : goal.returns
returns c =
    let ls = loops_in c.args.loops in
    let ws = c.args.wraps.now in
    opening_found _ _ _ _
    (first_from_Range _ _ _ c.find.result (λ (k : ℕ). open_at ls ws k ≡ true) (λ (k : ℕ). open_at ls ws k ≡ false) c.find.ensures.ran
    (λ x q k. search rules) (λ x q k. search rules))

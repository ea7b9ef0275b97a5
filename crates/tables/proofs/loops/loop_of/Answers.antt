use Rattle.std.proofs.Common.{◌-◌, [], get_or, ap, sym, ◌∙◌, rules}
use Rattle.std.proofs.lemmas.List.{get_or_past}
use Rattle.tables.specs.Loops.{loops_in}
use Rattle.tables.proofs.Rows.{rows-none}
use Rattle.tables.proofs.LoopLaws.{loops_counted}
use Rattle.tables.proofs.loops.loop_of.Goals as goal

pub loop-i-init-derived : goal.loop-i-init-derived
loop-i-init-derived c = let many = loops_counted c.args.loops in search rules

pub returns-then-loops-k : goal.returns-then-loops-k
returns-then-loops-k c =
    let many = loops_counted c.args.loops in
    rows-none ∙ sym (get_or_past (loops_in c.args.loops) c.args.k [] (search rules))

pub returns : goal.returns
returns c =
    rows-none ∙ ap (λ ls. get_or ls (c.args.k - c.loop-i.i-iterator.count) []) (sym c.in-None.ensures.steps.0.0) ∙ c.loop-i.invariant.1

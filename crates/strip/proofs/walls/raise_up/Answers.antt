use Rattle.std.proofs.Common.{sym, ap, inl, ◌∙◌, arith}
use Rattle.surfaces.proofs.knots.Walk.{left-few}
use Rattle.strip.proofs.walls.Raising.{raising_full, raising_turn}
use Rattle.strip.proofs.walls.raise_up.Goals as goal

pub loop-k-init-derived : goal.loop-k-init-derived
loop-k-init-derived c =
    let few = left-few c.args.heights in
    let begin = c.into_iter-k-iterator.ensures.into_iter_gives in
    let count = ap (λ e. e.count) begin ∙ c.enumerate-k-items.ensures.count in
    let iter = ap (λ e. e.iter) begin ∙ c.enumerate-k-items.ensures.source in
    rw (count, iter) ((tt, tt, inl (omega arith)), tt)

pub returns-then-k-wall : goal.returns-then-k-wall
returns-then-k-wall c = let s = c.in-Some.ensures.steps in raising_full _ _ _ _ c.loop-k.invariant (sym s.1 ∙ c.if-k-wall.true)

pub loop-k-preserved : goal.loop-k-preserved
loop-k-preserved c =
    let s = c.in-Some.ensures.steps in
    rw (s.1, s.2) (raising_turn _ _ _ _ c.loop-k.invariant (λ e. c.if-k-wall.false (s.1 ∙ e)) s.0 c.point_at-at.ensures)

use Rattle.full_domain.proofs.boundary.Sides as laws
use Rattle.full_domain.proofs.boundary.full_domain_count.Goals as goal

pub returns-then-is_whole-clause-value : goal.returns-then-is_whole-clause-value
returns-then-is_whole-clause-value c = laws.count_whole _ _ _ _ _ c.is_whole.ensures c.if-is_whole.true
    c.side_count-su.ensures.value.0 c.side_count.ensures.value.0

pub returns-clause-value : goal.returns-clause-value
returns-clause-value c = laws.count_none _ _ _ c.is_whole.ensures c.if-is_whole.false

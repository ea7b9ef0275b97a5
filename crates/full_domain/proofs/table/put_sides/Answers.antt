use mathlib.Core.Path.{refl}
use Rattle.full_domain.proofs.WholeRows.{sides-put}
use Rattle.full_domain.proofs.table.put_sides.Goals as goal

pub returns : goal.returns
returns c = sides-put _ _ _ _ _ _ _ _ _ _ _ _ _ c.range_of-u.ensures c.range_of-v.ensures refl refl
    c.put_side.ensures c.put_side-2.ensures c.put_side-3.ensures c.put_side-4.ensures

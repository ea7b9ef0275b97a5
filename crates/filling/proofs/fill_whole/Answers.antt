use Rattle.std.proofs.Common.{refl, rules}
use Rattle.filling.proofs.Whole.{whole_filled}
use Rattle.filling.proofs.fill_whole.Goals as goal

pub returns : goal.returns
returns c = λ s a bare patch_is.
    whole_filled s bare c.args.patch patch_is c.args.out.now.counts _ c.args.out.now.areas _ c.args.out.now.corners _ _ _
    c.full_domain_count.ensures.value c.full_domain_loop.ensures.value refl refl
    c.full_domain_loop.ensures.t_after
    (search rules) (search rules) (search rules)

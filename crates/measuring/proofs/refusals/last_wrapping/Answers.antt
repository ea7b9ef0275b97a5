use Rattle.std.proofs.Common.{rules}
use Rattle.measuring.proofs.Searches.{last_found}
use Rattle.measuring.proofs.refusals.last_wrapping.Goals as goal

pub returns : goal.returns
returns c = last_found _ _ (search rules)

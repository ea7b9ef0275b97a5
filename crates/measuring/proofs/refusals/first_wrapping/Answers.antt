use Rattle.std.proofs.Common.{rules}
use Rattle.measuring.proofs.Searches.{first_found}
use Rattle.measuring.proofs.refusals.first_wrapping.Goals as goal

pub returns : goal.returns
returns c = first_found _ _ (search rules)

use Rattle.std.proofs.Common.{false}
use lib.Ieee.{inf}
use Rattle.numbers.specs.Order.{min_of}
use Rattle.lists.proofs.Folds.{Folding}
use Rattle.tables.specs.Corners.{us}
use Rattle.rings.proofs.table_choices.least.Given as goal

abbrev pub invariant-loop-c : goal.invariant-loop-c
invariant-loop-c g l = Folding min_of (inf false) (us (g.R.TableRow.rows_of l.t)) l.lo l.c-index

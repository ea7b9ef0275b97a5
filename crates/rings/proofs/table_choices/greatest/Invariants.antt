use Rattle.std.proofs.Common.{true}
use lib.Ieee.{inf}
use Rattle.numbers.specs.Order.{max_of}
use Rattle.lists.proofs.Folds.{Folding}
use Rattle.tables.specs.Corners.{us}
use Rattle.rings.proofs.table_choices.greatest.Given as goal

abbrev pub invariant-loop-c : goal.invariant-loop-c
invariant-loop-c g l = Folding max_of (inf true) (us (g.R.TableRow.rows_of l.t)) l.hi l.c-index

use Rattle.lists.proofs.Mapping.{Mapping}
use Rattle.tables.specs.Moves.{moved_by}
use Rattle.tables.proofs.Rows.{held_v}
use Rattle.tables.proofs.moves.move_v.Given as goal

abbrev pub invariant-loop-c : goal.invariant-loop-c
invariant-loop-c l = Mapping (held_v (moved_by l.m)) l.fn.t l.c-items l.c-index

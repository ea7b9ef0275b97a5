use mathlib.Core.Path.{◌≡◌}
use lib.ListN.{length, take}
use Rattle.close.proofs.read_more.Given as goal

abbrev pub invariant-loop : goal.invariant-loop
invariant-loop l = (length l.bytes ≡ length l.initial.bytes) × (take l.done l.bytes ≡ take l.done l.initial.bytes)

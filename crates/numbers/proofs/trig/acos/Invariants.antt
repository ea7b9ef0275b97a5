use Rattle.std.proofs.Common.{◌≡◌, ◌-◌}
use Rattle.numbers.specs.Trig.{acos_from, acos_of}
use Rattle.numbers.proofs.trig.acos.Given as goal

abbrev pub invariant-loop : goal.invariant-loop
invariant-loop l = acos_from l.c (60 - l.counter) l.lo l.hi ≡ acos_of l.c

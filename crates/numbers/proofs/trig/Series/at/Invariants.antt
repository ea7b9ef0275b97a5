use Rattle.std.proofs.Common.{◌≡◌, ◌-◌}
use Rattle.numbers.specs.Constants.{one}
use Rattle.numbers.specs.Trig.{series_from}
use Rattle.numbers.proofs.trig.Series.at.Given as goal

abbrev pub invariant-loop-j : goal.invariant-loop-j
invariant-loop-j l = series_from l.self l.w (l.j - 1) l.s ≡ series_from l.self l.w 8 one

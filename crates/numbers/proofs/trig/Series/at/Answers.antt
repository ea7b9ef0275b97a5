use Rattle.std.proofs.Common.{◌≡◌, ℕ, zero, suc, ◌-◌, ◌<◌, pos, ◌∙◌, sub-one, arith}
use lib.Ieee.{Float, binary64, sub, mul, div, of_int}
use Rattle.numbers.specs.Constants.{one}
use Rattle.numbers.specs.Trig.{divisor_of, series_from}
use Rattle.numbers.specs.declared.trig.Series.{Series}
use Rattle.numbers.proofs.trig.Series.at.Goals as goal

-- The invariant: what is left of the series, from the number below j and s, is the whole series from 8 and 1.
-- one turn, with the divisor d
abbrev step : Float → Float → ℕ → Float
step w s d = sub binary64 one (div binary64 (mul binary64 w s) (of_int binary64 (pos d)))

turn : (k : Series) (w s : Float) (n : ℕ) {d : ℕ} → 0 < n → d ≡ divisor_of k n → series_from k w (n - 1) (step w s d) ≡ series_from k w n s
unfolding series_from
turn k w s zero h e = absurd (omega arith)
turn k w s (suc n) h e = rw (e, sub-one (suc n))

pub loop-j-preserved : goal.loop-j-preserved
loop-j-preserved c = turn c.args.self c.args.w c.loop-j.s (c.loop-j.j - 1) (omega arith) c.divisor.ensures ∙ c.loop-j.invariant

pub returns : goal.returns
unfolding series_from
returns c = let none : c.loop-j.j - 1 ≡ 0 = omega arith in rw none at c.loop-j.invariant

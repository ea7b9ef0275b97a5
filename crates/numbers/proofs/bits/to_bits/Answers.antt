use Rattle.std.proofs.Common.{◌≡◌, T, sym, refl, subst, ◌∙◌}
use lib.Ieee.{Float, nan, inf, fin, binary64, to_bits, is_nan}
use Rattle.numbers.proofs.bits.to_bits.Goals as goal

nan-bits : (x : Float) → T (is_nan x) → 9221120237041090560 ≡ to_bits binary64 x
unfolding is_nan to_bits
nan-bits nan h = refl
nan-bits (inf s) h = absurd h
nan-bits (fin s m e) h = absurd h

pub returns-then-is_nan : goal.returns-then-is_nan
returns-then-is_nan c = nan-bits c.args.x (subst T (sym c.if-is_nan.true ∙ c.is_nan.ensures.value) tt)

use mathlib.Core.Path.{◌≡◌, refl, ap, ◌∙◌}
use lib.Ieee.{Float, nan, inf, fin, binary64, of_bits}
use Rattle.std.proofs.Common.{unwrap_or}
use Rattle.std.specs.Int.{w64, from_le_bytes}
use Rattle.numbers.specs.Bits.{value_of, real_of}
use Rattle.records.specs.Bytes.{real_at}
use Rattle.records.proofs.Numbers.{eight_at}
use Rattle.records.proofs.real_at.Goals as goal

-- Where `from_bits` gives none the bits are a NaN's, and `f64::NAN` is the one NaN.
or_nan : (y : Float) → unwrap_or (value_of y) (of_bits binary64 0x7ff8_0000_0000_0000) ≡ y
unfolding of_bits
or_nan nan = refl
or_nan (inf s) = refl
or_nan (fin s m n) = refl

pub returns : goal.returns
unfolding real_at
returns c = c.unwrap_or.ensures
    ∙ ap (λ o. unwrap_or o (of_bits binary64 0x7ff8_0000_0000_0000))
    (c.from_bits.ensures
    ∙ ap real_of (c.from_le_bytes.ensures ∙ ap (from_le_bytes w64) c.bytes_at.ensures ∙ eight_at _ _))
    ∙ or_nan (of_bits binary64 _)

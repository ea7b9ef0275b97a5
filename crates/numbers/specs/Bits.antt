-- A real from its bits. Of the many patterns of a NaN the reals keep no trace, so those are no real's bits.
use Rattle.std.specs.Prelude.{ℕ, Option, Some, None, from_bits, Float}
use Rattle.std.specs.Float.{nan, inf, fin, binary64}

abbrev pub value_of : Float → Option Float
value_of nan = None
value_of (inf s) = Some (inf s)
value_of (fin s m e) = Some (fin s m e)

abbrev pub real_of : ℕ → Option Float
real_of b = value_of (from_bits binary64 b)

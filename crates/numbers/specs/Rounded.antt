-- The four operations of a real, each rounded once, in the signs of arithmetic.
use Rattle.std.specs.Prelude.{ℕ, pos, Float}
use Rattle.std.specs.Float.{binary64}
use Rattle.std.specs.Float.Ieee.{add, sub, mul, div, of_int}

infixl 20 ◌⊕◌
infixl 20 ◌⊖◌
infixl 22 ◌⊗◌
infixl 22 ◌⊘◌
abbrev pub ◌⊕◌ : Float → Float → Float
x ⊕ y = add binary64 x y

abbrev pub ◌⊖◌ : Float → Float → Float
x ⊖ y = sub binary64 x y

abbrev pub ◌⊗◌ : Float → Float → Float
x ⊗ y = mul binary64 x y

abbrev pub ◌⊘◌ : Float → Float → Float
x ⊘ y = div binary64 x y

-- a whole number as a real
abbrev pub count : ℕ → Float
count n = of_int binary64 (pos n)

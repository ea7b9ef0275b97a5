-- One list put into another: what a slice holds after a function has written to it.
use Rattle.std.specs.Prelude.{ℕ, ◌+◌, cond, List, ◌++◌, leb, length, take, drop}

module _ {A : Type 0} where
  -- d with w in it from `at` on; d as it is where w does not fit
  unfoldable pub placed : ℕ → List A → List A → List A
  placed at w d = cond (leb (at + length w) (length d)) (take at d ++ w ++ drop (at + length w) d) d

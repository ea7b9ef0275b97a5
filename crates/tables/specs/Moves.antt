-- A step along u or v, or none.
use Rattle.std.specs.Prelude.{cond, List, map, Float}
use Rattle.std.specs.Float.Ieee.{ne}
use Rattle.numbers.specs.Constants.{plus_zero}
use Rattle.numbers.specs.Rounded.{◌⊕◌, ◌⊖◌}
use Rattle.tables.specs.declared.moves.Move.{Move}
use Rattle.tables.specs.declared.moves.Move.TheVariants.{Stay, Up, Down}

abbrev pub moved_by : Move → Float → Float
moved_by Stay x = x
moved_by (Up step) x = x ⊕ step
moved_by (Down step) x = x ⊖ step

-- f done to all, where the step is not zero
unfoldable pub unless_zero : {A : Type 0} → Float → (A → A) → List A → List A
unless_zero step f xs = cond (ne step plus_zero) (map f xs) xs

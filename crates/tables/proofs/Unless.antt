-- A step that is made unless it is zero.
use mathlib.Core.Path.{◌≡◌, refl, sym, ◌∙◌}
use mathlib.Core.Bool.{Bool, true, false, cond}
use mathlib.Core.List.{List, map}
use lib.Ieee.{Float, ne}
use Rattle.numbers.specs.Constants.{plus_zero}
use Rattle.tables.specs.Corners.{move_u}
use Rattle.tables.specs.Moves.{unless_zero}
use Rattle.tables.specs.Rows.{rows, held_u}
use Rattle.tables.specs.declared.corners.Corner.{Corner as Held}
use Rattle.tables.proofs.Rows.{rows-each-u}

module _ {A : Type 0} (step : Float) (f : A → A) (a : List A) where
  pub moved_unless : (a' : List A) → ne step plus_zero ≡ true → a' ≡ map f a → a' ≡ unless_zero step f a
  unfolding unless_zero
  moved_unless a' t e = e ∙ sym (rw t)

  pub stays_if : ne step plus_zero ≡ false → a ≡ unless_zero step f a
  unfolding unless_zero
  stays_if t = sym (rw t)

-- of the rows of a table
pub rows_unless : (step : Float) (f : Float → Float) (t : List Held) → rows (unless_zero step (held_u f) t) ≡ unless_zero step (move_u f) (rows t)
unfolding unless_zero
rows_unless step f t = by_step (ne step plus_zero)
  where
    by_step : (b : Bool) → rows (cond b (map (held_u f) t) t) ≡ cond b (map (move_u f) (rows t)) (rows t)
    by_step true = rows-each-u f t
    by_step false = refl

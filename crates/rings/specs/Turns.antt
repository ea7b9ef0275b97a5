-- A ring begun elsewhere: one list, of a ring's corners, of their u, or of anything that a corner carries. 01, "Bands".
use Rattle.std.specs.Prelude.{ℕ, cond, ◌||◌, ltb, eqb, length}
use mathlib.Core.List.{List, map, drop_last}
use Rattle.loops.specs.Rings.{begun, closed, turned}

module _ {A : Type 0} where
  -- a ring turned to begin at point k, what comes round done `again`. One that is to begin where it does stays, and so does one of fewer than `few` points.
  unfoldable pub turned_unless : ℕ → (A → A) → ℕ → List A → List A
  turned_unless few again k xs = cond (eqb k 0 || ltb (length xs) few) xs (turned again k xs)

  -- `begin_ring_at`: a ring of fewer than three open points stays
  abbrev pub begin_ring_at : (A → A) → ℕ → List A → List A
  begin_ring_at = turned_unless 4

  -- `reseam` (02, N4): no ring stays for its few points; a list of fewer than two is none
  abbrev pub recut_at : (A → A) → ℕ → List A → List A
  recut_at = turned_unless 2

  -- its repeated last point dropped, begun at point k, put on a branch, closed anew
  unfoldable pub turned_onto : (A → A) → (A → A) → ℕ → List A → List A
  turned_onto again put k xs = closed again (map put (begun again k (drop_last xs)))

  -- `align_cuts`: a ring of fewer than three points stays
  unfoldable pub align_at : (A → A) → (A → A) → ℕ → List A → List A
  align_at again put k xs = cond (ltb (length xs) 3) xs (turned_onto again put k xs)

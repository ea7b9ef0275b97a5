-- The two rings and the holes of a face, taken from its loops. The sentences are those of 01, "Bands".
use Rattle.std.specs.Prelude.{zero, suc, Bool, true, false, not, List, [], map, reverse, ℤ, pos, negsuc, get_or}
use Rattle.lists.specs.Elements.{only}
use Rattle.tables.specs.Corners.{Corners}

-- a loop of the face record, and its wrap
pub record Measured (A : Type 0) : Type 0 where
  pub corners : Corners A
  pub wrap : ℤ

-- a wrapping loop, and whether its travel, "the sign of the wrap", is negative
pub record Loop (A : Type 0) : Type 0 where
  pub corners : Corners A
  pub falls : Bool

pub record Given (A : Type 0) : Type 0 where
  pub first : Loop A
  pub later : Loop A
  pub holes : List (Corners A)

abbrev pub wraps : ℤ → Bool
wraps (pos zero) = false
wraps (pos (suc n)) = true
wraps (negsuc n) = true

abbrev pub falls : ℤ → Bool
falls (pos n) = false
falls (negsuc n) = true

module _ {A : Type 0} where
  abbrev pub loop_of : Measured A → Loop A
  loop_of m = record { corners = m.corners; falls = falls m.wrap }

  -- "Rings are taken last wrapping loop first"; a hole is a loop that does not wrap. It is asked of loops of which two wrap; a ring that is not
  -- there would be empty.
  unfoldable pub given_of : List (Measured A) → Given A
  given_of loops =
      let rings = reverse (only (λ (m : Measured A). wraps m.wrap) loops) in
      let none : Measured A = record { corners = []; wrap = pos 0 } in
      record {
        first = loop_of (get_or rings 0 none);
        later = loop_of (get_or rings 1 none);
        holes = map (λ (m : Measured A). m.corners) (only (λ (m : Measured A). not (wraps m.wrap)) loops);
      }

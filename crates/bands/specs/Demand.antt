-- Demand 3, of the positions of an outer loop and of holes, for the rings and holes given: the words of 01, "Bands", last paragraph.
use Rattle.std.specs.Prelude.{ℕ, ◌<◌, ◌≡◌, ◌⊎◌, true, cond, List, ◌∷◌, ◌++◌, map, reverse, ◌+ℤ◌, length}
use Rattle.loops.specs.Steps.{net}
use Rattle.loops.specs.Repeats.{drop_repeats}
use Rattle.loops.specs.Rings.{turned, unchanged, ends_meet}
use Rattle.tables.specs.Corners.{Corner, Corners, positions}
use Rattle.bands.specs.Given.{Loop, Given}
use Rattle.bands.specs.Strip.{Setting, heights}
use Rattle.bands.specs.Band.{lower, upper, lower_ring, upper_ring, strip_of}

module _ {A : Type 0} where
  -- "a ring is the list of all positions that the face record gives for one of the two wrapping loops: in file order where its travel is positive, from last
  -- to first where it is negative"
  unfoldable pub ring : Loop A → List A
  ring l = cond l.falls (reverse (positions l.corners)) (positions l.corners)

  -- ys is the ring xs as it is, or begun at one of its open points (at the first, where k is past them) and closed with that point's position
  abbrev pub Turn : List A → List A → Type 0
  Turn xs ys = (ys ≡ xs) ⊎ ((k : ℕ) × (ys ≡ turned unchanged k xs))

-- 01, refusals 4 and 8: both rings have points, and the last repeats the first
pub record Whole {A : Type 0} (S : Setting A) (given : Given A) : Type 0 where
  pub some_first : 0 < length given.first.corners
  pub some_later : 0 < length given.later.corners
  pub first_meets : ends_meet S.same (positions given.first.corners) ≡ true
  pub later_meets : ends_meet S.same (positions given.later.corners) ≡ true

-- the claim, of the positions of the outer loop and of the holes
pub record Demand3 {A : Type 0} (S : Setting A) (given : Given A) (outer : List A) (holes : List (List A)) : Type 0 where
  -- the rings as the strip takes them; what ties them to the record stands at the end
  pub l : Corner A
  pub L : Corners A
  pub lower_is : lower_ring S given ≡ l ∷ L
  pub u : Corner A
  pub U : Corners A
  pub upper_is : upper_ring S given ≡ u ∷ U
  -- "A wall is a stretch of the strip between the two rings, the surface points at the inner rungs named above", at the lower ring's first u
  pub W : List A
  pub wall_is : W ≡ map (S.point_at l.u) (heights S.rungs S.steps l.v u.v)
  -- "The second wall is the first read backward, to the bit." Each ring's first position stands once more beside the first wall, as in the Rust's
  -- `close_strip`: it is the ring's and no part of the wall, and it counts among the points of refusal 12. `outer_is` ties the strip to the result.
  pub strip_is : positions (strip_of S given) ≡ positions (l ∷ L) ++ (l.at ∷ W) ++ (u.at ∷ reverse (positions (u ∷ U))) ++ reverse W
  pub outer_is : outer ≡ drop_repeats S.same (positions (strip_of S given))
  -- "A hole is a loop that does not wrap; each is in the result once, its given positions unchanged to the bit and in file order."
  pub holes_are : holes ≡ map positions given.holes
  -- 02, N4: "bands match their rings' boundary wherever the holes lie": the rings of the strip are those given, as they are or begun at one of their
  -- points, and the counts are theirs
  pub lower_turned : Turn (ring (lower S given)) (positions (l ∷ L))
  pub upper_turned : Turn (ring (upper S given)) (positions (u ∷ U))
  pub counts : (a b : A) → net S.same a b outer ≡ net S.same a b (ring (lower S given)) +ℤ net S.same a b (reverse (ring (upper S given)))

-- The outer loop, with room for the boxes and without.
use Prim.Native.Nat.{ℕ, ◌≤◌, ◌<◌}
use mathlib.Core.Path.{◌≡◌, sym, ap, ◌∙◌}
use mathlib.Core.List.{List, map}
use native.Mathlib.Omega.{arith}
use lib.Ieee.{Float}
use lib.ListN.{length, take, length-map}
use borrow.Author.Tests.{le-leb, lt-leb}
use Rattle.numbers.specs.declared.math.Vec3.{Vec3}
use Rattle.lists.specs.Pieces.{pieces}
use Rattle.lists.specs.Placed.{placed}
use Rattle.lists.proofs.Pieces.{length-pieces}
use Rattle.lists.proofs.Placed.{length-placed, front-placed}
use Rattle.lists.specs.Parts.{part_of}
use Rattle.tables.specs.Corners.{Corners}
use Rattle.closed_region.specs.declared.boxes.Bounds.{Bounds}
use Rattle.closed_region.specs.Loops.{box_in}
use Rattle.closed_region.specs.Outer.{outer_of, last_largest}
use Rattle.closed_region.specs.Region.{outer_among}

module _ (counts : List ℕ) (r : Corners Vec3) (areas own : List Float) (b b' : List Bounds) (x : ℕ) (written : b' ≡ placed 0 (map box_in (pieces counts r)) b) (own_is : own ≡ part_of 0 (length counts) areas) where
  abbrev ls : List (Corners Vec3)
  ls = pieces counts r

  same-room : length b' ≡ length b
  same-room = ap length written ∙ length-placed 0 (map box_in ls) b

  own_areas : own ≡ take (length ls) areas
  unfolding part_of
  own_areas = own_is ∙ ap (λ (k : ℕ). take k areas) (sym (length-pieces counts r))

  pub by_area : length b' < length counts → x ≡ last_largest own (length own) → x ≡ outer_among ls areas (length b)
  unfolding outer_among
  by_area h e =
      let k = same-room in
      let l = length-pieces counts r in
      let none : length b < length ls = omega arith in
      rw (lt-leb (length ls) (length b) none, ← own_areas) e

  pub by_boxes : length counts ≤ length b' → x ≡ outer_of (take (length counts) b') own → x ≡ outer_among ls areas (length b)
  unfolding outer_among
  by_boxes h e =
      let k = same-room in
      let l = length-pieces counts r in
      let w = length-map ls box_in in
      let room : length ls ≤ length b = omega arith in
      let count : length counts ≡ length (map box_in ls) = omega arith in
      let found : take (length counts) b' ≡ map box_in ls = (λ i. take (count i) (written i)) ∙ front-placed (map box_in ls) b (omega arith) in
      rw (le-leb (length ls) (length b) room, ← own_areas, ← found) e

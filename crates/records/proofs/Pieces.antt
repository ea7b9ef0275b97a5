-- A result that is made of loops: it has as many corners as its counts say, and is read loop by loop.
use mathlib.Core.Path.{◌≡◌, refl, sym, ap, ◌∙◌}
use mathlib.Core.List.{List, [], ◌∷◌, map, map-append}
use Prim.Native.Nat.{ℕ, ◌+◌, ◌≤◌}
use lib.ListN.{length, length-append, length-map}
use lib.Seq.{take_at, drop_at}
use Rattle.lists.specs.Pieces.{pieces}
use Rattle.numbers.specs.declared.math.Vec2.{Vec2}
use Rattle.numbers.specs.declared.math.Vec3.{Vec3}
use Rattle.lists.specs.Elements.{sum, All}
use Rattle.records.specs.Result.{Short, Fits, FitsUv, FitsXyz, Writable, Loop, corners_of, count_of, area_of, result_of, loop_positions_of}

module _ {C : Type 0} where
  pub sum-counts : (ls : List (Loop C)) → sum (map count_of ls) ≡ length (corners_of ls)
  unfolding sum corners_of
  sum-counts [] = refl
  sum-counts (l ∷ ls) = ap (λ (n : ℕ). count_of l + n) (sum-counts ls) ∙ sym (length-append l.corners (corners_of ls))

  -- a row that was put together from loops is cut into them again
  cut : {B : Type 0} (f : C → B) (ls : List (Loop C)) → pieces (map count_of ls) (map f (corners_of ls)) ≡ map (λ (l : Loop C). map f l.corners) ls
  unfolding pieces corners_of
  cut f [] = refl
  cut {B} f (l ∷ ls) =
      let rest : List B = map f (corners_of ls) in
      let n : length (map f l.corners) ≡ count_of l = length-map l.corners f in
      rw (map-append f l.corners (corners_of ls), take_at (map f l.corners) rest (count_of l) n, drop_at (map f l.corners) rest (count_of l) n)
      (ap (λ (r : List (List B)). map f l.corners ∷ r) (cut f ls))

  module _ (to_uv : C → Vec2) (to_xyz : C → Vec3) (path : ℕ) (ls : List (Loop C)) where
    pub loop_positions_lem : loop_positions_of (result_of to_uv to_xyz path ls) ≡ map (λ (l : Loop C). map to_xyz l.corners) ls
    unfolding loop_positions_of result_of
    loop_positions_lem = cut to_xyz ls

    -- few loops with short counts, all of doubles, can be written
    pub writable : 1 ≤ length ls → length ls ≤ 256 → All Short (map count_of ls) → All Fits (map area_of ls) → All FitsUv (map to_uv (corners_of ls))
        → All FitsXyz (map to_xyz (corners_of ls)) → Writable (result_of to_uv to_xyz path ls)
    unfolding result_of
    writable some few short areas parameters positions =
        let n : length (map count_of ls) ≡ length ls = length-map ls count_of in
        record {
          outer = rw n some;
          few = rw n few;
          short = short;
          an_area_each = length-map ls area_of ∙ sym n;
          a_pair_each = length-map (corners_of ls) to_uv ∙ sym (sum-counts ls);
          a_position_each = length-map (corners_of ls) to_xyz ∙ sym (sum-counts ls);
          areas_fit = areas;
          parameters_fit = parameters;
          positions_fit = positions;
        }

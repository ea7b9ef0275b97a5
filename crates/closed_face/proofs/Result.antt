-- What the closed path leaves of a face: the loops that 01 asks for.
use Prim.Native.Nat.{ℕ, suc, ◌+◌, ◌≤◌, ◌<◌}
use mathlib.Core.Path.{◌≡◌, refl, sym, ap, ◌∙◌}
use mathlib.Core.Bool.{Bool, true, false, cond, ◌&&◌}
use mathlib.Core.List.{List, [], ◌∷◌, ◌++◌, map, flatten, map-append}
use native.Mathlib.Numerals.{add-one}
use native.Mathlib.Omega.{arith}
use borrow.Author.Tests.{eq-eqb, ne_eqb, lt-ltb, le-leb}
use lib.Dec.{eqb, leb, ltb}
use lib.Ieee.{Float}
use lib.ListN.{length, get_or, take, drop, length-append, length-map, take-append-drop}
use lib.Seq.{split_at, length-take-le}
use Rattle.numbers.specs.declared.math.Vec3.{Vec3}
use Rattle.lists.specs.Pieces.{pieces}
use Rattle.lists.specs.Placed.{placed}
use Rattle.lists.proofs.Pieces.{length-pieces}
use Rattle.lists.proofs.Placed.{placed-fits, front-placed}
use Rattle.loops.specs.Area.{area_of}
use Rattle.tables.specs.Corners.{Corners, us, vs, positions, corners_from}
use Rattle.tables.specs.Moves.{moved_by}
use Rattle.tables.specs.declared.moves.Move.TheVariants.{Up}
use Rattle.closed_region.specs.Loops.{area_in, box_in}
use Rattle.closed_region.specs.Outer.{outer_of, holes_of}
use Rattle.closed_region.specs.Region.{outer_among}
use Rattle.closed_region.specs.Rephase.{Loop, shift_of, moved, rephased}
use Rattle.closed_region.specs.Holes.{whole_periods, shifted, u_shift, v_shift, in_phase, rephased_corners, rephased_area, loop_then, area_then, loops_then, areas_then, rephased_rows, rephased_areas}
use Rattle.closed_region.specs.declared.rephase.Branch.{Branch}
use Rattle.closed_region.proofs.MovedHoles.{length_then, length-areas}
use Rattle.records.specs.Result.{corners_of, count_of, area_of as area_is}
use Rattle.call.specs.Paths.{ResultLoop, loop_of, signed_area, with_area, outer_number, outer_loop, branch_of, rephased_hole, closed_loops}
use Rattle.call.proofs.Outermost.{outer_below}
use Rattle.closed_face.specs.First.{part_first}
use Rattle.closed_face.specs.Face.{outer_found, rows_then, areas_left, IsFace}
use Rattle.lists.proofs.Pieces.{pieces_fit}
use Rattle.closed_face.proofs.Loops.{first-between, pieces-again}

-- ---- a hole by its corners is the hole by its columns

corners-again : (r : Corners Vec3) → corners_from (us r) (vs r) (positions r) ≡ r
unfolding corners_from
corners-again [] = refl
corners-again (c ∷ r) = ap (λ (l : Corners Vec3). c ∷ l) (corners-again r)

module _ (su sv : Float) where
  corners-shifted : (r : Corners Vec3) → corners_from (map (moved_by (Up su)) (us r)) (map (moved_by (Up sv)) (vs r)) (positions r) ≡ shifted su sv r
  unfolding corners_from
  corners-shifted [] = refl
  corners-shifted (c ∷ r) = ap (λ (l : Corners Vec3). record { u = moved_by (Up su) c.u; v = moved_by (Up sv) c.v; at = c.at } ∷ l) (corners-shifted r)

  us-shifted : (r : Corners Vec3) → map (moved_by (Up su)) (us r) ≡ us (shifted su sv r)
  us-shifted [] = refl
  us-shifted (c ∷ r) = ap (λ (l : List Float). moved_by (Up su) c.u ∷ l) (us-shifted r)

  vs-shifted : (r : Corners Vec3) → map (moved_by (Up sv)) (vs r) ≡ vs (shifted su sv r)
  vs-shifted [] = refl
  vs-shifted (c ∷ r) = ap (λ (l : List Float). moved_by (Up sv) c.v ∷ l) (vs-shifted r)

module _ (b : Branch) (r : Corners Vec3) where
  hole_is : rephased_hole b r ≡ loop_of (rephased_area b r (signed_area r)) (rephased_corners b r)
  unfolding rephased_hole rephased moved shift_of rephased_area rephased_corners whole_periods
  hole_is = by_phase (in_phase b r)
    where
      su : Float
      su = u_shift b r

      sv : Float
      sv = v_shift b r

      own : Loop
      own = record { us = us r; vs = vs r; area = signed_area r }

      then : Bool → Loop
      then t = cond t own (record { us = map (moved_by (Up su)) (us r); vs = map (moved_by (Up sv)) (vs r); area = area_of (map (moved_by (Up su)) (us r)) (map (moved_by (Up sv)) (vs r)) })

      by_phase : (t : Bool) → loop_of (then t).area (corners_from (then t).us (then t).vs (positions r)) ≡ loop_of (cond t (signed_area r) (area_in (shifted su sv r))) (cond t r (shifted su sv r))
      by_phase true = ap (loop_of (signed_area r)) (corners-again r)
      by_phase false = λ i. loop_of (area_of (us-shifted su sv r i) (vs-shifted su sv r i)) (corners-shifted su sv r i)

-- ---- all loops but the outer one

module _ (outer : ℕ) (b : Branch) where
  abbrev turned : ℕ → Corners Vec3 → ResultLoop
  turned k r = cond (eqb k outer) (with_area r) (rephased_hole b r)

  unfoldable turned_from : ℕ → List (Corners Vec3) → List ResultLoop
  turned_from k [] = []
  turned_from k (l ∷ ls) = turned k l ∷ turned_from (suc k) ls

  turned_is : (k : ℕ) (r : Corners Vec3) → turned k r ≡ loop_of (area_then outer b k r (signed_area r)) (loop_then outer b k r)
  turned_is k r = by_number (eqb k outer)
    where
      by_number : (t : Bool) → cond t (with_area r) (rephased_hole b r) ≡ loop_of (cond t (signed_area r) (rephased_area b r (signed_area r))) (cond t r (rephased_corners b r))
      by_number true = refl
      by_number false = hole_is b r

  corners-turned : (k : ℕ) (ls : List (Corners Vec3)) → loops_then outer b k ls ≡ map (λ (l : ResultLoop). l.corners) (turned_from k ls)
  unfolding loops_then turned_from
  corners-turned k [] = refl
  corners-turned k (l ∷ ls) = λ i. ap (λ (x : ResultLoop). x.corners) (sym (turned_is k l)) i ∷ corners-turned (suc k) ls i

  areas-turned : (k : ℕ) (ls : List (Corners Vec3)) (rest : List Float) → areas_then outer b k ls (map area_in ls ++ rest) ≡ map area_is (turned_from k ls)
  unfolding areas_then turned_from
  areas-turned k [] rest = refl
  areas-turned k (l ∷ ls) rest = λ i. ap (λ (x : ResultLoop). x.area) (sym (turned_is k l)) i ∷ areas-turned (suc k) ls rest i

  counts-turned : (k : ℕ) (ls : List (Corners Vec3)) → map length ls ≡ map count_of (turned_from k ls)
  unfolding turned_from
  counts-turned k [] = refl
  counts-turned k (l ∷ ls) = λ i. (sym (length_then outer b k l) ∙ ap (λ (x : ResultLoop). length x.corners) (sym (turned_is k l))) i ∷ counts-turned (suc k) ls i

  turned-append : (i : ℕ) (rs qs : List (Corners Vec3)) → turned_from i (rs ++ qs) ≡ turned_from i rs ++ turned_from (i + length rs) qs
  unfolding turned_from
  turned-append i [] qs = let e : i ≡ i + 0 = omega arith in ap (λ (j : ℕ). turned_from j qs) e
  turned-append i (r ∷ rs) qs =
      let e : suc i + length rs ≡ i + suc (length rs) = omega arith in
      ap (λ (l : List ResultLoop). turned i r ∷ l) (turned-append (suc i) rs qs ∙ ap (λ (j : ℕ). turned_from (suc i) rs ++ turned_from j qs) e)

  turned-low : (i : ℕ) (rs : List (Corners Vec3)) → i + length rs ≤ outer → turned_from i rs ≡ map (rephased_hole b) rs
  unfolding turned_from
  turned-low i [] h = refl
  turned-low i (r ∷ rs) h =
      let other : i ≡ outer → ⊥ = λ e. absurd (omega arith) in
      (λ j. cond (ne_eqb i outer other j) (with_area r) (rephased_hole b r) ∷ turned-low (suc i) rs (omega arith) j)

  turned-high : (i : ℕ) (rs : List (Corners Vec3)) → outer < i → turned_from i rs ≡ map (rephased_hole b) rs
  unfolding turned_from
  turned-high i [] h = refl
  turned-high i (r ∷ rs) h =
      let other : i ≡ outer → ⊥ = λ e. absurd (omega arith) in
      (λ j. cond (ne_eqb i outer other j) (with_area r) (rephased_hole b r) ∷ turned-high (suc i) rs (omega arith) j)

  module _ (ls : List (Corners Vec3)) (h : outer < length ls) where
    abbrev first : Corners Vec3
    first = get_or ls outer []

    turned_are : turned_from 0 ls ≡ map (rephased_hole b) (take outer ls) ++ (with_area first ∷ map (rephased_hole b) (drop (suc outer) ls))
    unfolding turned_from
    turned_are =
        let long : length (take outer ls) ≡ outer = length-take-le outer ls (omega arith) in
        let at : 0 + length (take outer ls) ≡ outer = omega arith in
        ap (turned_from 0) (split_at ls outer [] h) ∙ turned-append 0 (take outer ls) (first ∷ drop (suc outer) ls)
        ∙ ap (λ (j : ℕ). turned_from 0 (take outer ls) ++ (turned j first ∷ turned_from (suc j) (drop (suc outer) ls))) at
        ∙ (λ j. turned-low 0 (take outer ls) (omega arith) j ++ (cond (eq-eqb outer outer refl j) (with_area first) (rephased_hole b first) ∷ turned-high (suc outer) (drop (suc outer) ls) (omega arith) j))

    -- the outer loop first, in any column of the loops
    first_column : {B : Type 0} (g : ResultLoop → B) → part_first outer 1 (map g (turned_from 0 ls)) ≡ map g (with_area first ∷ map (rephased_hole b) (holes_of outer ls))
    unfolding holes_of
    first_column g =
        let before = map (rephased_hole b) (take outer ls) in
        let behind = map (rephased_hole b) (drop (suc outer) ls) in
        ap (λ (l : List ResultLoop). part_first outer 1 (map g l)) turned_are ∙ ap (part_first outer 1) (map-append g before (with_area first ∷ behind))
        ∙ first-between (map g before) (g (with_area first) ∷ []) (map g behind) outer 1 (length-map before g ∙ length-map (take outer ls) (rephased_hole b) ∙ length-take-le outer ls (omega arith)) refl
        ∙ ap (λ (l : List _). g (with_area first) ∷ l) (sym (map-append g before behind) ∙ ap (map g) (sym (map-append (rephased_hole b) (take outer ls) (drop (suc outer) ls)))
        ∙ ap (λ (j : ℕ). map g (map (rephased_hole b) (take outer ls ++ drop j ls))) (sym (add-one outer)))

corners_flat : (ls : List ResultLoop) → flatten (map (λ (l : ResultLoop). l.corners) ls) ≡ corners_of ls
unfolding flatten corners_of
corners_flat [] = refl
corners_flat (l ∷ ls) = ap (λ (r : Corners Vec3). l.corners ++ r) (corners_flat ls)

-- ---- a face

module _ (counts : List ℕ) (r : Corners Vec3) (areas : List Float) (room : ℕ) (pu pv : Float) (face : IsFace counts r areas room) where
  abbrev ls : List (Corners Vec3)
  ls = pieces counts r

  abbrev outer : ℕ
  outer = outer_number ls

  abbrev branch : Branch
  branch = branch_of pu pv (get_or ls outer [])

  many : length ls ≡ length counts
  many = length-pieces counts r

  some : 0 < length ls
  some = let m = many in let s = face.some in omega arith

  below : outer < length ls
  below = outer_below ls some

  rest : List Float
  rest = drop (length counts) areas

  measured_is : areas ≡ map area_in ls ++ rest
  unfolding rest
  measured_is = sym (take-append-drop (length counts) areas) ∙ ap (λ (l : List Float). l ++ drop (length counts) areas) face.measured

  front_measured : take (length ls) areas ≡ map area_in ls
  front_measured = ap (λ (k : ℕ). take k areas) many ∙ face.measured

  outer_is : outer_found counts r areas room ≡ outer
  unfolding outer_among outer_number
  outer_is =
      let m = many in
      let b = face.a_box_each in
      let fits : length ls ≤ room = omega arith in
      rw (le-leb (length ls) room fits) (ap (outer_of (map box_in ls)) front_measured)

  is_face_lem : ltb (outer_found counts r areas room) (length ls) && leb (length ls) (length areas) ≡ true
  is_face_lem =
      let m = many in
      let a = face.an_area_each in
      let fits : length ls ≤ length areas = omega arith in
      rw (outer_is, lt-ltb outer (length ls) below, le-leb (length ls) (length areas) fits)

  rows_are : rows_then counts r areas room pu pv ≡ placed 0 (flatten (loops_then outer branch 0 ls)) r
  unfolding rephased_rows
  rows_are = rw (is_face_lem, outer_is)

  areas_are : areas_left counts r areas room pu pv ≡ placed 0 (areas_then outer branch 0 ls areas) areas
  unfolding rephased_areas
  areas_are = rw (is_face_lem, outer_is)

  same_lengths : (k : ℕ) (rs : List (Corners Vec3)) → map length (loops_then outer branch k rs) ≡ map length rs
  unfolding loops_then
  same_lengths k [] = refl
  same_lengths k (l ∷ rs) = λ i. length_then outer branch k l i ∷ same_lengths (suc k) rs i

  same_rows : (k : ℕ) (rs : List (Corners Vec3)) → length (flatten (loops_then outer branch k rs)) ≡ length (flatten rs)
  unfolding loops_then flatten
  same_rows k [] = refl
  same_rows k (l ∷ rs) =
      length-append (loop_then outer branch k l) (flatten (loops_then outer branch (suc k) rs)) ∙ (λ i. length_then outer branch k l i + same_rows (suc k) rs i) ∙ sym (length-append l (flatten rs))

  -- the loops as they then stand
  pub loops_then_lem : pieces counts (rows_then counts r areas room pu pv) ≡ loops_then outer branch 0 ls
  loops_then_lem =
      let w = loops_then outer branch 0 ls in
      let fits : 0 + length (flatten w) ≤ length r = let p = pieces_fit counts r in let q = same_rows 0 ls in omega arith in
      (λ i. pieces ((face.whole ∙ sym (same_lengths 0 ls)) i) ((rows_are ∙ placed-fits 0 (flatten w) r fits) i)) ∙ pieces-again w (drop (0 + length (flatten w)) r)

  pub areas_then_lem : take (length counts) (areas_left counts r areas room pu pv) ≡ areas_then outer branch 0 ls areas
  areas_then_lem =
      let m = many in
      let a = face.an_area_each in
      let n : length (areas_then outer branch 0 ls areas) ≡ length ls = length-areas outer branch 0 ls areas (omega arith) in
      let e : length counts ≡ length (areas_then outer branch 0 ls areas) = omega arith in
      (λ i. take (e i) (areas_are i)) ∙ front-placed (areas_then outer branch 0 ls areas) areas (omega arith)

  abbrev result : List ResultLoop
  result = closed_loops pu pv ls

  result_is : {B : Type 0} (g : ResultLoop → B) → part_first outer 1 (map g (turned_from outer branch 0 ls)) ≡ map g result
  unfolding closed_loops outer_loop
  result_is g = first_column outer branch ls below g

  abbrev found : ℕ
  found = outer_found counts r areas room

  -- the corners, the counts and the areas of what 01 asks for
  pub corners_left : flatten (part_first found 1 (pieces counts (rows_then counts r areas room pu pv))) ≡ corners_of result
  corners_left =
      (λ i. flatten (part_first (outer_is i) 1 ((loops_then_lem ∙ corners-turned outer branch 0 ls) i))) ∙ ap flatten (result_is (λ (l : ResultLoop). l.corners)) ∙ corners_flat result

  pub counts_left : part_first found 1 counts ≡ map count_of result
  counts_left = (λ i. part_first (outer_is i) 1 ((face.whole ∙ counts-turned outer branch 0 ls) i)) ∙ result_is count_of

  pub areas_left_lem : part_first found 1 (take (length counts) (areas_left counts r areas room pu pv)) ≡ map area_is result
  areas_left_lem =
      (λ i. part_first (outer_is i) 1 ((areas_then_lem ∙ ap (areas_then outer branch 0 ls) measured_is ∙ areas-turned outer branch 0 ls rest) i)) ∙ result_is area_is

  -- 01, "Closed faces": what the closed path writes into the front of what is lent, where it fits
  pub closed-result : (r' : Corners Vec3) (a' : List Float) (o o' : Corners Vec3) (n n' : List ℕ) (x x' : List Float)
      → r' ≡ rows_then counts r areas room pu pv → a' ≡ areas_left counts r areas room pu pv
      → o' ≡ placed 0 (flatten (part_first found 1 (pieces counts r'))) o
      → n' ≡ cond (ltb found (length counts)) (placed 0 (part_first found 1 counts) n) n
      → x' ≡ placed 0 (part_first found 1 (take (length counts) a')) x
      → (o' ≡ placed 0 (corners_of result) o) × ((n' ≡ placed 0 (map count_of result) n) × (x' ≡ placed 0 (map area_is result) x))
  closed-result r' a' o o' n n' x x' r_is a_is o_is n_is x_is =
      let m = many in
      let b = below in
      let e = outer_is in
      let inside : found < length counts = omega arith in (
        o_is ∙ ap (λ (y : Corners Vec3). placed 0 (flatten (part_first found 1 (pieces counts y))) o) r_is ∙ ap (λ (y : Corners Vec3). placed 0 y o) corners_left,
        (
          n_is ∙ ap (λ (t : Bool). cond t (placed 0 (part_first found 1 counts) n) n) (lt-ltb found (length counts) inside) ∙ ap (λ (y : List ℕ). placed 0 y n) counts_left,
          x_is ∙ ap (λ (y : List Float). placed 0 (part_first found 1 (take (length counts) y)) x) a_is ∙ ap (λ (y : List Float). placed 0 y x) areas_left_lem,
        ),
      )

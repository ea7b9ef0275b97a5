-- The closed path fills the result of a face of which no loop wraps.
use Prim.Native.Nat.{ℕ, ◌≤◌, ◌<◌}
use mathlib.Core.Path.{◌≡◌, refl, sym, ap, ◌∙◌}
use mathlib.Core.Bool.{cond}
use mathlib.Core.List.{List, [], ◌∷◌, map, flatten}
use native.Mathlib.Omega.{arith}
use lib.Dec.{ltb}
use lib.Ieee.{Float}
use lib.ListN.{length, take, drop, length-map, length-drop}
use lib.Seq.{length-take-le, take-length}
use Rattle.std.proofs.Common.{Option}
use Rattle.numbers.specs.declared.math.Vec3.{Vec3}
use Rattle.lists.specs.Pieces.{pieces}
use Rattle.lists.specs.Placed.{placed}
use Rattle.lists.proofs.Pieces.{length-pieces}
use Rattle.surfaces.specs.declared.surface.Surface.{Surface}
use Rattle.surfaces.specs.Domains.{u_period, v_period, period_length}
use Rattle.tables.specs.Corners.{Corners}
use Rattle.tables.specs.Rows.{rows}
use Rattle.tables.specs.declared.corners.Corner.{Corner as Held}
use Rattle.closed_region.specs.declared.boxes.Bounds.{Bounds}
use Rattle.tables.proofs.Rows.{length-rows}
use Rattle.records.specs.Accepted.{Accepted}
use Rattle.lists.specs.Elements.{sum}
use Rattle.records.specs.Face.{loops}
use Rattle.records.specs.Face as Face
use Rattle.records.specs.Refusals.{passes}
use Rattle.records.specs.Result.{corners_of, count_of}
use Rattle.records.proofs.Accepted.{points-sum}
use Rattle.records.proofs.Columns.{length-counts, length-corners}
use Rattle.records.specs.Limits.{version1}
use Rattle.records.specs.Encodable.{version1_encodable}
use Rattle.results.specs.declared.Path.TheVariants.{Closed}
use Rattle.call.specs.Face.{surface_in, loops_in, wrapping}
use Rattle.call.specs.Paths.{ResultLoop, signed_area, closed_loops, result_loops}
use Rattle.call.proofs.Written.{result_fine}
use Rattle.closed_face.specs.First.{part_first}
use Rattle.closed_face.specs.Face.{outer_found, rows_then, areas_left, IsFace}
use Rattle.closed_face.proofs.first.Laws.{length-first}
use Rattle.closed_face.proofs.Result.{counts_left, closed-result}
use Rattle.std.specs.Prelude.{Ok}
use Rattle.filling.specs.Filled.{FillsTo}
use Rattle.filling.proofs.Chosen.{takes_closed, path-closed}
use Rattle.filling.proofs.Held.{counts_together, held_in_front, filled_by_lem}

-- pieces that are the whole list
pub lengths_pieces : {A : Type 0} (ns : List ℕ) (xs : List A) → sum ns ≡ length xs → map length (pieces ns xs) ≡ ns
unfolding pieces sum
lengths_pieces [] xs e = refl
lengths_pieces (n ∷ ns) xs e = λ i. length-take-le n xs (omega arith) i ∷ lengths_pieces ns (drop n xs) (let d = length-drop n xs in omega arith) i

module _ (s : List ℕ) (a : Accepted version1 s) (some : 0 < loops s) (none : wrapping s ≡ 0) (surface : Surface) (surface_is : surface ≡ surface_in s)
    (given : List ℕ) (r : Corners Vec3) (given_is : given ≡ Face.counts s) (r_is : r ≡ Face.corners_in s) where
  ls : List (Corners Vec3)
  ls = pieces given r

  held : pieces given r ≡ loops_in s
  unfolding loops_in
  held = λ i. pieces (given_is i) (r_is i)

  counted : length given ≡ loops s
  counted = ap length given_is ∙ length-counts s

  few : length given ≤ 16
  few = let e = counted in let f = a.loops_are in omega arith

  whole : given ≡ map length (pieces given r)
  whole = sym (lengths_pieces given r (ap sum given_is ∙ sym (points-sum s) ∙ sym (length-corners s) ∙ ap length (sym r_is)))

  module _ (m : List Float) (m_is : m ≡ map signed_area (pieces given r)) (boxes : List Bounds) (boxes_long : length boxes ≡ 16) where
    areas_long : length m ≡ length given
    areas_long = ap length m_is ∙ length-map (pieces given r) signed_area ∙ length-pieces given r

    face : IsFace given r m (length boxes)
    face =
        let f = few in
        let e = counted in
        let long = areas_long in
        record {
          some = omega arith;
          whole = whole;
          an_area_each = omega arith;
          measured = ap (λ (k : ℕ). take k m) (sym long) ∙ take-length m ∙ m_is;
          a_box_each = omega arith;
        }

    module _ (u v : Option Float) (u_is : u ≡ u_period surface) (v_is : v ≡ v_period surface) where
      abbrev result : List ResultLoop
      result = closed_loops (period_length u) (period_length v) (pieces given r)

      result_is : result ≡ result_loops s
      result_is = (λ i. closed_loops (period_length ((u_is ∙ ap u_period surface_is) i)) (period_length ((v_is ∙ ap v_period surface_is) i)) (held i)) ∙ sym (takes_closed s some none)

      result_many : length given ≡ length result
      result_many =
          sym (length-first (outer_found given r m (length boxes)) 1 given)
          ∙ ap length (counts_left given r m (length boxes) (period_length u) (period_length v) face) ∙ length-map result count_of

      pub closed_filled : (r' : Corners Vec3) (a' : List Float) (t₀ t : List Held) (c₀ c : List ℕ) (x₀ x : List Float)
          → (let found = outer_found given r m (length boxes) in
          (r' ≡ rows_then given r m (length boxes) (period_length u) (period_length v)) → a' ≡ areas_left given r m (length boxes) (period_length u) (period_length v)
          → rows t ≡ placed 0 (flatten (part_first found 1 (pieces given r'))) (rows t₀)
          → c ≡ cond (ltb found (length given)) (placed 0 (part_first found 1 given) c₀) c₀
          → x ≡ placed 0 (part_first found 1 (take (length given) a')) x₀
          → length t₀ ≡ 1536 → length c₀ ≡ 16 → length x₀ ≡ 16 → FillsTo passes s (Ok (record { path = Closed; loops = length given })) (record { corners = t; counts = c; areas = x }))
      closed_filled r' a' t₀ t c₀ c x₀ x r-then a-left t_is c_is x_is t-room c-room x-room =
          let left = closed-result given r m (length boxes) (period_length u) (period_length v) face r' a' (rows t₀) (rows t) c₀ c x₀ x r-then a-left t_is c_is x_is in
          let fine = result_fine version1 version1_encodable s a.loops_are a.total (λ wraps. absurd (wraps none)) in
          let corners = fine.corners in
          let together : sum (map count_of (result_loops s)) ≡ length (corners_of result) = ap (λ (k : List ResultLoop). sum (map count_of k)) (sym result_is) ∙ counts_together result in
          let room = length-rows t₀ in
          let many = result_many in
          let f = few in
          filled_by_lem s Closed result (length given) c x t (path-closed s some none) result_is many
          (held_in_front result c₀ c x₀ x (rows t₀) t left.1.0 left.1.1 left.0 (omega arith) (omega arith) (omega arith))

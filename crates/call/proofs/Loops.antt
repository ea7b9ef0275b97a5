-- The loops of a face record: how many they are, how many points they have, that these are doubles, and that their positions are those of the record.
use Prim.Native.Nat.{ℕ, ◌≤◌, ◌<◌}
use mathlib.Core.Path.{◌≡◌, refl, sym, ap, ◌∙◌}
use mathlib.Core.Bool.{Bool, true, not, true≢false}
use mathlib.Core.List.{List, [], ◌∷◌, map, map-map}
use native.Mathlib.Omega.{arith}
use lib.ListN.{length, drop, length-map}
use lib.Ieee.{Float}
use Rattle.std.proofs.Common.{Option, Some, None}
use Rattle.numbers.specs.declared.math.Vec3.{Vec3}
use Rattle.surfaces.specs.Domains.{u_period}
use Rattle.lists.specs.Pieces.{pieces}
use Rattle.lists.proofs.Maps.{map-take, map-drop}
use Rattle.lists.proofs.Pieces.{length-pieces}
use Rattle.loops.specs.Wrap.{net_wrap, wrap_every}
use Rattle.tables.specs.Corners.{Corner, Corners, positions, corners_from, us}
use Rattle.bands.specs.Given.{Measured, wraps, given_of}
use Rattle.lists.specs.Elements.{only, sum, All, none, and}
use Rattle.records.specs.Bytes.{uv_at, xyz_at}
use Rattle.records.specs.Face.{loops, counts, points, parameters, loop_positions, u_of, v_of, corners_in}
use Rattle.records.specs.Face as Face
use Rattle.records.specs.Result.{Fits, FitsXyz}
use Rattle.records.proofs.Accepted.{parameters_fit, positions_fit}
use Rattle.records.proofs.Columns.{length-counts}
use Rattle.records.proofs.Rows.{length-row_at}
use Rattle.call.specs.Face.{surface_in, loops_in, measured_in, is_wrapping, wrapping, given_in}
use Rattle.call.proofs.Doubles.{FitsCorner, FitsCorners}
use Rattle.call.proofs.Each.{all_get_d, all_take, all_drop, all_reverse, all_map, all_only}
use Rattle.call.proofs.Rings.{EachGiven}
use Rattle.call.proofs.Sizes.{total, pieces-total, each_short, only-few, only_sum, corners-few}

-- ---- lists

module _ {A : Type 0} {P : A → Type 0} where
  pub all_pieces : (ns : List ℕ) {xs : List A} → All P xs → All (All P) (pieces ns xs)
  unfolding pieces
  all_pieces [] h = none
  all_pieces (n ∷ ns) h = and (all_take n h) (all_pieces ns (all_drop n h))

map-pieces : {A B : Type 0} (f : A → B) (ns : List ℕ) (xs : List A) → map (map f) (pieces ns xs) ≡ pieces ns (map f xs)
unfolding pieces
map-pieces f [] xs = refl
map-pieces f (n ∷ ns) xs = λ i. map-take f n xs i ∷ (map-pieces f ns (drop n xs) ∙ ap (pieces ns) (map-drop f n xs)) i

pub corners_fit : {us vs : List Float} {ps : List Vec3} → All Fits us → All Fits vs → All FitsXyz ps → FitsCorners (corners_from us vs ps)
unfolding corners_from
corners_fit none hv hp = none
corners_fit (and hu us) none hp = none
corners_fit (and hu us) (and hv vs) none = none
corners_fit (and hu us) (and hv vs) (and hp ps) = and (record { u = hu; v = hv; at = hp }) (corners_fit us vs ps)

pub positions_of : {A : Type 0} (us vs : List Float) (ps : List A) → length us ≡ length ps → length vs ≡ length ps → positions (corners_from us vs ps) ≡ ps
unfolding corners_from
positions_of [] vs [] e f = refl
positions_of [] vs (p ∷ ps) e f = absurd (omega arith)
positions_of (u ∷ us) vs [] e f = absurd (omega arith)
positions_of (u ∷ us) [] (p ∷ ps) e f = absurd (omega arith)
positions_of (u ∷ us) (v ∷ vs) (p ∷ ps) e f = ap (λ (l : List _). p ∷ l) (positions_of us vs ps (omega arith) (omega arith))

-- ---- a loop that wraps has points

pub wrapping_some : (p : Option Float) (r : Corners Vec3) → wraps (net_wrap p (us r)) ≡ true → 0 < length r
unfolding wrap_every
wrapping_some None r h = absurd (true≢false (sym h))
wrapping_some (Some p) [] h = absurd (true≢false (sym h))
wrapping_some (Some p) (c ∷ r) h = omega arith

-- ---- the record

module _ (s : List ℕ) where
  pub length-positions : length (Face.positions s) ≡ points s
  unfolding Face.positions
  length-positions = length-row_at xyz_at 24 s _ (points s)

  pub length-parameters : length (parameters s) ≡ points s
  unfolding parameters
  length-parameters = length-row_at uv_at 16 s _ (points s)

  pub loops_many : length (loops_in s) ≡ loops s
  unfolding loops_in
  loops_many = length-pieces (counts s) (corners_in s) ∙ length-counts s

  pub loops-total : total (loops_in s) ≤ points s
  unfolding loops_in corners_in
  loops-total =
      let a = pieces-total (counts s) (corners_in s) in
      let b = corners-few (map u_of (parameters s)) (map v_of (parameters s)) (Face.positions s) in
      let c = length-positions in
      omega arith

  pub loops_fit : All FitsCorners (loops_in s)
  unfolding loops_in corners_in
  loops_fit =
      let uvs = parameters_fit s in
      all_pieces (counts s) (corners_fit (all_map u_of (λ p h. h.u) uvs) (all_map v_of (λ p h. h.v) uvs) (positions_fit s))

  -- the positions of each loop are those that the record gives
  pub loops-positions : map positions (loops_in s) ≡ loop_positions s
  unfolding loops_in corners_in loop_positions
  loops-positions =
      let n = length-parameters ∙ sym length-positions in
      map-pieces (λ (c : Corner Vec3). c.at) (counts s) (corners_in s)
      ∙ ap (pieces (counts s)) (positions_of _ _ (Face.positions s) (length-map (parameters s) u_of ∙ n) (length-map (parameters s) v_of ∙ n))

  -- ---- with their wraps

  abbrev mark : Corners Vec3 → Measured Vec3
  mark loop = record { corners = loop; wrap = net_wrap (u_period (surface_in s)) (us loop) }

  pub measured_many : length (measured_in s) ≡ loops s
  unfolding measured_in
  measured_many = length-map (loops_in s) mark ∙ loops_many

  pub loops-wrap : wrapping s ≤ loops s
  unfolding wrapping
  loops-wrap = let a = only-few is_wrapping (measured_in s) in let b = measured_many in omega arith

  -- a loop that wraps has points
  pub measured_some : All (λ (m : Measured Vec3). is_wrapping m ≡ true → 0 < length m.corners) (measured_in s)
  unfolding measured_in
  measured_some = all_map mark (λ r h. wrapping_some (u_period (surface_in s)) r) loops_fit

  -- none has more points than the record
  pub measured_short : All (λ (m : Measured Vec3). length m.corners ≤ points s) (measured_in s)
  unfolding measured_in
  measured_short = all_map mark (λ r h. let n = loops-total in omega arith) (each_short (loops_in s))

  -- ---- the rings and the holes

  -- what holds of all corners of the loops holds of theirs
  pub given_each : (P : Corner Vec3 → Type 0) → All (All P) (loops_in s) → EachGiven P (given_in s)
  unfolding given_in given_of measured_in
  given_each P h =
      let all : All (λ (m : Measured Vec3). All P m.corners) (measured_in s) = all_map mark (λ r f. f) h in
      let rings = all_reverse (all_only is_wrapping (λ m e f. f) all) in
      record {
        first = all_get_d rings 0 _ none;
        later = all_get_d rings 1 _ none;
        holes = all_map _ (λ m f. f) (all_only _ (λ m e f. f) all);
      }

  pub given-fits : EachGiven FitsCorner (given_in s)
  given-fits = given_each FitsCorner loops_fit

  abbrev hole : Measured Vec3 → Bool
  hole m = not (is_wrapping m)

  pub holes_many : length (given_in s).holes ≤ loops s
  unfolding given_in given_of
  holes_many =
      let a = length-map (only hole (measured_in s)) (λ (m : Measured Vec3). m.corners) in
      let b = only-few hole (measured_in s) in
      let c = measured_many in
      omega arith

  abbrev size : Measured Vec3 → ℕ
  size m = length m.corners

  pub holes-points : total (given_in s).holes ≤ points s
  unfolding given_in given_of measured_in
  holes-points =
      let a = ap sum (map-map length (λ (m : Measured Vec3). m.corners) (only hole (measured_in s))) in
      let b = only_sum size hole (measured_in s) in
      let c = ap sum (map-map size mark (loops_in s)) in
      let d = loops-total in
      omega arith

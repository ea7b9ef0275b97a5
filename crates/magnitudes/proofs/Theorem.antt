-- No result carries a NaN, an infinity or a number over 10^24, with the bounds that the three paths keep.
use Prim.Native.Nat.{ℕ, zero, suc, ◌+◌, ◌*◌, ◌^◌, ◌≤◌}
use mathlib.Core.Path.{◌≡◌, refl, sym, ap, subst}
use mathlib.Core.Logic.{◌⊎◌, inl, inr}
use mathlib.Core.Bool.{Bool, true, false, cond, not}
use mathlib.Core.List.{List, [], ◌∷◌, ◌++◌}
use native.Mathlib.Nat.{le_refl, le_trans}
use native.Mathlib.Omega.{arith}
use borrow.Author.Tests.{eqb-false, leb-true, ne_eqb}
use lib.Dec.{leb, lit≤}
use lib.Pow.{pow_mono}
use lib.ListN.{length, drop}
use lib.Ieee.{Float}
use Rattle.std.proofs.Common.{Some, None}
use Rattle.numbers.specs.Within.{Within}
use Rattle.numbers.specs.declared.math.Vec3.{Vec3}
use Rattle.numbers.proofs.Magnitude.{within_more}
use Rattle.numbers.proofs.math.Frames.{In, Billion}
use Rattle.surfaces.specs.declared.surface.Surface.TheVariants.{Plane, Cylinder, Cone, Sphere, Torus}
use Rattle.surfaces.specs.Domains.{u_period, v_period, period_length}
use Rattle.numbers.specs.Constants.{plus_zero, TAU}
use Rattle.loops.proofs.Trailing.{repeats_fewer}
use Rattle.bands.specs.Band.{lower_ring, strip_of, outer}
use Rattle.tables.specs.Corners.{Corner, Corners}
use Rattle.bands.specs.Given.{Measured, given_of}
use Rattle.records.specs.Accepted.{Accepted}
use Rattle.records.specs.Bytes.{◌=?◌}
use Rattle.records.specs.Call as Call
use Rattle.records.specs.Call.{Outcome, refused, closed, code, lent_after}
use Rattle.records.specs.Face.{kind, loops, real_of}
use Rattle.records.specs.declared.limits.Limits.{Limits}
use Rattle.records.specs.Encodable.{Encodable, version1_encodable}
use Rattle.records.specs.Limits.{version1, plane, cone}
use Rattle.records.specs.Refusals.{conditions, NoneHolds}
use Rattle.records.specs.Result.{Result, decode, corners_of, result_of}
use Rattle.lists.specs.Elements.{All, none, and}
use Rattle.records.specs.Result as Result
use Rattle.records.proofs.Closing.{closed_accepted, closed_read}
use Rattle.call.specs.Face.{surface_of, surface_in, u_period_in, v_period_in, loops_in, measured_in, is_wrapping, wrapping, setting_in, given_in}
use Rattle.call.specs.Judge.{result, judge}
use Rattle.call.specs.Later.{later_conditions, strip_points}
use Rattle.call.specs.Paths.{ResultLoop, signed_area, loops_from, wrapped_loops, closed_loops, whole_loop, uv_of, xyz_of, path_in, result_loops, result_in}
use Rattle.call.proofs.Demands.{two_wrap, strip_short, rings_whole, passed, can_be_written, over_zero}
use Rattle.call.proofs.Doubles.{FitsCorner}
use Rattle.call.proofs.Each.{all_append, all_only, all_map, all_so}
use Rattle.call.proofs.Loops.{loops_many, loops-total, loops_fit, given_each}
use Rattle.call.proofs.Sizes.{each_short}
use Rattle.call.proofs.Strips.{High, lower-low, upper-high}
use Rattle.magnitudes.specs.Bounded.{EachReal, Bounded, most_angle, most_plane_u, most_height, most_u, most_v, most_coordinate, ResultBounded}
use Rattle.magnitudes.proofs.Bands.{curved, outer_sized, holes_sized}
use Rattle.magnitudes.proofs.Closed.{SizedCorners, SizedLoop, GivenLoop, Way, area_sized, area-given, closed_sized}
use Rattle.magnitudes.proofs.Loops.{all_both, Known}
use Rattle.magnitudes.proofs.Record.{Million, given_u, given_v, moved_v, Sized, either_v, frame_framed, sizes_in, loops_sized, loops_some}
use Rattle.magnitudes.proofs.Rings.{Reach, GivenReach}
use Rattle.magnitudes.proofs.Whole.{whole_sized}

-- ---- the directions of a kind

-- u of a plane is open; every other comes round
u_way : (k : ℕ) (a b : Float) → Way (period_length (u_period (surface_of k a b))) (given_u k) (most_u k)
unfolding surface_of u_period
u_way k a b = go (k =? 0) (k =? 1) (k =? 2) (k =? 3)
  where
    opens : Way plus_zero Million most_plane_u
    opens = record { given = lit≤ tt; moved = lit≤ tt; most = lit≤ tt; turns = inr refl }

    comes : Way TAU 64 most_angle
    comes = record { given = lit≤ tt; moved = lit≤ tt; most = lit≤ tt; turns = inl (refl, refl) }

    go : (t₀ t₁ t₂ t₃ : Bool)
        → Way (period_length (u_period (cond t₀ Plane (cond t₁ (Cylinder a) (cond t₂ (Cone a b) (cond t₃ (Sphere a) (Torus a b))))))) (cond t₀ Million 64) (cond t₀ most_plane_u most_angle)
    go true t₁ t₂ t₃ = opens
    go false true t₂ t₃ = comes
    go false false true t₃ = comes
    go false false false true = comes
    go false false false false = comes

-- v of plane, cylinder and cone is open, with the wider limit; of the others that of the torus comes round
v_open : (k : ℕ) (a b : Float) → k ≤ 2 → period_length (v_period (surface_of k a b)) ≡ plus_zero
unfolding surface_of v_period
v_open zero a b h = refl
v_open (suc zero) a b h = refl
v_open (suc (suc zero)) a b h = refl
v_open (suc (suc (suc k))) a b h = absurd (omega arith)

v_way : (k : ℕ) (a b : Float) → Way (period_length (v_period (surface_of k a b))) (given_v k) (moved_v k)
v_way k a b = go (leb k cone) refl
  where
    go : (t : Bool) → leb k cone ≡ t → Way (period_length (v_period (surface_of k a b))) (cond t Million 64) (cond t Million most_angle)
    go true e = record { given = lit≤ tt; moved = lit≤ tt; most = lit≤ tt; turns = inr (v_open k a b (leb-true k cone e)) }
    go false e = record { given = lit≤ tt; moved = lit≤ tt; most = lit≤ tt; turns = either (either_v (surface_of k a b)) }
      where
        either : (v_period (surface_of k a b) ≡ None) ⊎ (v_period (surface_of k a b) ≡ Some TAU)
            → ((period_length (v_period (surface_of k a b)) ≡ TAU) × ◌≡◌ {A = ℕ} 64 64) ⊎ (period_length (v_period (surface_of k a b)) ≡ plus_zero)
        either (inl p) = inr (ap period_length p)
        either (inr p) = inl (ap period_length p, refl)

-- ---- the bounds of a kind

-- v: given up to h, moved up to w, and of a result up to v
record Heights (h w v : ℕ) : Type 0 where
  given : h ≤ Million
  rungs : 3 * (h + 7) ≤ v
  moved : w ≤ v
  most : v ≤ 2 ^ 22
  whole : 21 ≤ v

heights_of : (k : ℕ) → Heights (given_v k) (moved_v k) (most_v k)
heights_of k = go (leb k cone)
  where
    go : (t : Bool) → Heights (cond t Million 64) (cond t Million most_angle) (cond t most_height most_angle)
    go true = record { given = lit≤ tt; rungs = lit≤ tt; moved = lit≤ tt; most = lit≤ tt; whole = lit≤ tt }
    go false = record { given = lit≤ tt; rungs = lit≤ tt; moved = lit≤ tt; most = lit≤ tt; whole = lit≤ tt }

angle-most : (B k : ℕ) → B ≤ most_angle → B ≤ most_u k
angle-most B k h = go (k =? plane)
  where
    go : (t : Bool) → B ≤ cond t most_plane_u most_angle
    go true = le_trans h (lit≤ tt)
    go false = h

u-few : (k : ℕ) → most_u k ≤ 10 ^ 24
u-few k = go (k =? plane)
  where
    go : (t : Bool) → cond t most_plane_u most_angle ≤ 10 ^ 24
    go true = lit≤ tt
    go false = lit≤ tt

loop_more : {d : ℕ} (A B A' B' : ℕ) → A ≤ A' → B ≤ B' → (l : ResultLoop) → SizedLoop d A B l → SizedLoop d A' B' l
loop_more A B A' B' h k l w = record {
  area = w.area;
  corners = all_so (λ c r. record { u = within_more A A' c.u h r.u; v = within_more B B' c.v k r.v; at = r.at }) w.corners;
}

-- a loop of a result has at most 2 ^ d corners
record Counted (L : Limits) (d : ℕ) : Type 0 where
  points : L.points ≤ 2 ^ d
  strip : L.strip ≤ 2 ^ d
  -- the boundary of a whole surface
  whole : 10 ≤ d
  few : d ≤ 16

version1_counted : Counted version1 10
version1_counted = record { points = lit≤ tt; strip = lit≤ tt; whole = lit≤ tt; few = lit≤ tt }

-- the corners of a loop are counted in two bytes
any_counted : {L : Limits} → Encodable L → Counted L 16
any_counted {L} fit = let n = fit.short_loops in record { points = omega arith; strip = omega arith; whole = lit≤ tt; few = lit≤ tt }

module _ {L : Limits} (d : ℕ) (counted : Counted L d) (s : List ℕ) (a : Accepted L s) where
  abbrev G : ℕ
  G = given_u (kind s)

  abbrev H : ℕ
  H = given_v (kind s)

  abbrev A : ℕ
  A = most_u (kind s)

  abbrev B : ℕ
  B = most_v (kind s)

  few : Heights H (moved_v (kind s)) B
  few = heights_of (kind s)

  given-loops : All (GivenLoop d G H) (loops_in s)
  given-loops =
      let all = loops-total s in
      let most = a.total in
      all_so (λ r w. let n : length r ≤ L.points = (let m = w.0.1 in omega arith) in
      record { some = w.0.0; few = le_trans n counted.points; sized = w.1.0; fit = w.1.1 })
      (all_both (all_both (loops_some s a) (each_short (loops_in s))) (all_both (loops_sized s a) (loops_fit s)))

  -- on a curved surface u is at most 64
  module _ (curved : kind s ≡ plane → ⊥) where
    few-u : G ≡ 64
    few-u = ap (λ (t : Bool). cond t Million 64) (ne_eqb (kind s) plane curved)

    near : (c : Corner Vec3) → Sized G H Billion c × FitsCorner c → Known 64 c.u
    near c k = record { within = subst (λ (n : ℕ). Within n c.u) few-u k.0.u; fits = k.1.u }

    loops-near : All (All (λ (c : Corner Vec3). Known 64 c.u)) (loops_in s)
    loops-near = all_so (λ r w. all_so near (all_both w.0 w.1)) (all_both (loops_sized s a) (loops_fit s))

  -- ---- the closed path

  closed-path : (loops s ≡ 0 → ⊥) → All (SizedLoop d A (moved_v (kind s))) (closed_loops (u_period_in s) (v_period_in s) (loops_in s))
  unfolding surface_in
  closed-path some =
      closed_sized d counted.few G H A (moved_v (kind s)) (u_period_in s) (v_period_in s) (u_way (kind s) (real_of s 9) (real_of s 10)) (v_way (kind s) (real_of s 9) (real_of s 10)) (loops_in s)
      (let n = loops_many s in omega arith) given-loops

  -- ---- a band

  -- what holds of each loop holds of each hole
  holes-given : (Q : Corners Vec3 → Type 0) → All Q (loops_in s) → All Q (given_in s).holes
  unfolding given_in given_of measured_in
  holes-given Q h = all_map (λ (m : Measured Vec3). m.corners) (λ m w. w) (all_only (λ (m : Measured Vec3). not (is_wrapping m)) (λ m e w. w) (all_map {Q = λ (m : Measured Vec3). Q m.corners} _ (λ r w. w) h))

  loops_of_sized : {areas : List Float} {ls : List (Corners Vec3)} → All (Within (2 ^ (40 + d))) areas → All (SizedCorners most_angle B) ls → All (SizedLoop d most_angle B) (loops_from areas ls)
  unfolding loops_from
  loops_of_sized none hs = none
  loops_of_sized (and h areas) none = none
  loops_of_sized (and h areas) (and k hs) = and (record { area = h; corners = k }) (loops_of_sized areas hs)

  module _ (lent : ℕ) (free : NoneHolds (conditions L lent ++ later_conditions L) s) (some : wrapping s ≡ 0 → ⊥) where
    rings_given : GivenReach 64 (given_in s)
    rings_given =
        let near = loops-near (curved s some) in
        let each = given_each s (λ (c : Corner Vec3). Known 64 c.u) near in
        let whole = rings_whole L lent s free (two_wrap s (free 9) (free 10) some) in
        record {
          first = record { some = whole.some_first; each = each.first };
          later = record { some = whole.some_later; each = each.later };
          holes = holes-given (Reach 64) (all_so (λ r w. record { some = w.0; each = w.1 }) (all_both (loops_some s a) near));
        }

    -- the lower ring's v are as low as given
    lower_high : All (λ (c : Corner Vec3). High s a c.v) (lower_ring (setting_in s) (given_in s))
    lower_high = all_so (λ c low past. within_more 64 71 c.v (lit≤ tt) (low past)) (lower-low s a)

    outer-few : length (outer (setting_in s) (given_in s)) ≤ L.strip
    unfolding outer strip_points
    outer-few =
        let h = repeats_fewer (λ (c d : Corner Vec3). (setting_in s).same c.at d.at) (strip_of (setting_in s) (given_in s)) in
        let n = strip_short L lent s free some in
        omega arith

    -- v and the positions as given
    loops-kept : All (All (λ (c : Corner Vec3). Within H c.v × In Billion c.at)) (loops_in s)
    loops-kept = all_so (λ r k. all_so (λ c w. (w.v, w.at)) k) (loops_sized s a)

    -- in powers of two, for the area
    powers : (c : Corner Vec3) → Sized most_angle B (2 ^ 32) c → Sized (2 ^ 10) (2 ^ 22) (2 ^ 32) c
    powers c w = record { u = within_more most_angle (2 ^ 10) c.u (lit≤ tt) w.u; v = within_more B (2 ^ 22) c.v few.most w.v; at = w.at }

    wrapped_path : All (SizedLoop d most_angle B) (wrapped_loops s)
    unfolding wrapped_loops
    wrapped_path =
        let u = u_way (kind s) (real_of s 9) (real_of s 10) in
        let v = v_way (kind s) (real_of s 9) (real_of s 10) in
        let outer-are = outer_sized s a H B few.given few.rungs few.most some rings_given loops-kept lower_high (upper-high s a) in
        and (record { area = area_sized d counted.few 10 22 (2 ^ 32) (lit≤ tt) (outer (setting_in s) (given_in s)) (all_so powers outer-are) (le_trans outer-few counted.strip); corners = outer-are })
        (loops_of_sized (all_map signed_area (λ r h. area-given d counted.few G H r h (le_trans u.given u.most) (le_trans v.given v.most)) (holes-given (GivenLoop d G H) given-loops))
        (holes_sized s a H B few.given few.rungs few.most some rings_given loops-kept lower_high (upper-high s a)))

  -- ---- the three paths

  module _ (lent : ℕ) (free : NoneHolds (conditions L lent ++ later_conditions L) s) where
    loops_of_result : All (SizedLoop d A B) (result_loops s)
    unfolding result_loops
    loops_of_result = pick (loops s =? 0) (wrapping s =? 0) refl refl
      where
        pick : (p q : Bool) → (loops s =? 0) ≡ p → (wrapping s =? 0) ≡ q → All (SizedLoop d A B) (cond p (whole_loop s ∷ []) (cond q (closed_loops (u_period_in s) (v_period_in s) (loops_in s)) (wrapped_loops s)))
        pick true q o e = and (loop_more 21 21 A B (angle-most 21 (kind s) (lit≤ tt)) few.whole _ (whole_sized d counted.whole s (frame_framed s a) (sizes_in s a))) none
        pick false true o e = all_so (loop_more A (moved_v (kind s)) A B (le_refl A) few.moved) (closed-path (eqb-false (loops s) 0 o))
        pick false false o e = all_so (loop_more most_angle B A B (angle-most most_angle (kind s) (lit≤ tt)) (le_refl B)) (wrapped_path lent free (eqb-false (wrapping s) 0 e))

-- ---- the bytes

all_corners : {d : ℕ} (A B : ℕ) {ls : List ResultLoop} → All (SizedLoop d A B) ls → SizedCorners A B (corners_of ls)
unfolding corners_of
all_corners A B none = none
all_corners A B (and h hs) = all_append h.corners (all_corners A B hs)

-- all reals of a result that is made of such loops
abbrev Held : ℕ → ℕ → ℕ → Result → Type 0
Held d A B = EachReal (Within (2 ^ (40 + d))) (Within A) (Within B) (Within most_coordinate)

result_within : (d A B path : ℕ) {ls : List ResultLoop} → All (SizedLoop d A B) ls → Held d A B (result_of uv_of xyz_of path ls)
unfolding result_of
result_within d A B path h =
    let cs = all_corners A B h in
    record { areas = all_map Result.area_of (λ l w. w.area) h; us = all_map uv_of (λ c w. w.u) cs; vs = all_map uv_of (λ c w. w.v) cs; positions = all_map xyz_of (λ c w. w.at) cs }

bytes_within : (L : Limits) (fit : Encodable L) (d : ℕ) → Counted L d → (lent : ℕ) (s b : List ℕ) → Call.judge L (later_conditions L) result lent s ≡ closed b
    → (rest : List ℕ) → Held d (most_u (kind s)) (most_v (kind s)) (decode (b ++ rest))
unfolding result_in
bytes_within L fit d counted lent s b h rest =
    subst (Held d (most_u (kind s)) (most_v (kind s))) (sym (closed_read L (later_conditions L) result_in lent s b h (can_be_written L fit lent s b h) rest))
    (result_within d (most_u (kind s)) (most_v (kind s)) (path_in s)
    (loops_of_result d counted s (closed_accepted L (later_conditions L) result_in lent s b h) lent (passed L fit lent s b h)))

-- all are below 10 ^ 24
far-below : (d A B : ℕ) → d ≤ 16 → A ≤ 10 ^ 24 → B ≤ 10 ^ 24 → (r : Result) → Held d A B r → EachReal (Within (10 ^ 24)) (Within (10 ^ 24)) (Within (10 ^ 24)) (Within (10 ^ 24)) r
far-below d A B few u-few v-few r h = record {
  areas = all_so (λ x w. within_more (2 ^ (40 + d)) (10 ^ 24) x (le_trans (pow_mono most-area) (lit≤ tt)) w) h.areas;
  us = all_so (λ p w. within_more A (10 ^ 24) p.u u-few w) h.us;
  vs = all_so (λ p w. within_more B (10 ^ 24) p.v v-few w) h.vs;
  positions = all_so (λ p w. record { x = most p.x w.x; y = most p.y w.y; z = most p.z w.z }) h.positions;
}
  where
    most-area : 40 + d ≤ 56
    most-area = omega arith

    most : (x : Float) → Within most_coordinate x → Within (10 ^ 24) x
    most x w = within_more most_coordinate (10 ^ 24) x (lit≤ tt) w

-- by any limits whose results can be encoded, no real that is read back is over 10 ^ 24
pub any_bounded : (L : Limits) → Encodable L → (lent : ℕ) (s b : List ℕ) → Call.judge L (later_conditions L) result lent s ≡ closed b
    → (rest : List ℕ) → Bounded (b ++ rest)
any_bounded L fit lent s b h rest =
    far-below 16 (most_u (kind s)) (most_v (kind s)) (lit≤ tt) (u-few (kind s)) (le_trans (heights_of (kind s)).most (lit≤ tt)) (decode (b ++ rest))
    (bytes_within L fit 16 (any_counted fit) lent s b h rest)

-- the bounds of each real of the lent bytes by the limits of version 1
module _ (s old : List ℕ) where
  abbrev lent : ℕ
  lent = length old

  bounded_of : (o : Outcome) → judge lent s ≡ o → ResultBounded s (code o) (lent_after o old)
  bounded_of (refused n p) e =
      let some = over_zero s old n p e in
      record { bounded = λ z. absurd (omega arith); narrow = λ z. absurd (omega arith) }
  bounded_of (closed b) e = record {
    bounded = λ z. any_bounded version1 version1_encodable lent s b e (drop (length b) old);
    narrow = λ z. bytes_within version1 version1_encodable 10 version1_counted lent s b e (drop (length b) old);
  }

  pub result_bounded : ResultBounded s (code (judge lent s)) (lent_after (judge lent s) old)
  result_bounded = bounded_of (judge lent s) refl

-- What the limits of the face record say of its reals, as bounds: the frame, the sizes of the surface, and the loops.
use Prim.Native.Nat.{ℕ, ◌+◌, ◌^◌, ◌≤◌, ◌<◌}
use mathlib.Core.Path.{◌≡◌, refl, sym, ap, ◌∙◌}
use mathlib.Core.Logic.{◌⊎◌, inl, inr}
use mathlib.Core.Bool.{Bool, true, false, cond}
use mathlib.Core.List.{List, [], ◌∷◌}
use native.Mathlib.Omega.{arith}
use borrow.Author.Tests.{lt-ltb}
use lib.Dec.{leb, lit<, lit≤}
use lib.ListN.{length, take, drop, length-map, length-take, length-drop}
use lib.Ieee.{Float}
use Rattle.std.proofs.Common.{Some, None}
use Rattle.numbers.specs.Constants.{TAU, 10^-6}
use Rattle.numbers.specs.Within.{Within}
use Rattle.numbers.specs.declared.math.Vec3.{Vec3}
use Rattle.numbers.proofs.Magnitude.{within_more}
use Rattle.numbers.proofs.math.Frames.{In, Framed, Billion, frame_in_lem}
use Rattle.surfaces.specs.declared.surface.Surface.{Surface}
use Rattle.surfaces.specs.declared.surface.Surface.TheVariants.{Plane, Cylinder, Cone, Sphere, Torus}
use Rattle.surfaces.specs.Domains.{u_period, v_period}
use Rattle.surfaces.proofs.surface.Points.{Sizes}
use Rattle.lists.specs.Pieces.{pieces}
use Rattle.tables.specs.Corners.{Corner, Corners, corners_from}
use Rattle.records.specs.declared.limits.Limits.{Limits}
use Rattle.records.specs.Accepted.{Accepted}
use Rattle.records.specs.Bytes.{u16_at, ◌=?◌}
use Rattle.lists.specs.Elements.{sum, All, none, and}
use Rattle.records.specs.Face.{head_reals, kind, loops, counts, points, real_of, parameters, u_of, v_of, corners_in}
use Rattle.records.specs.Face as Face
use Rattle.records.specs.Limits.{10^6, 64·0, 1·5, 0·0, Range, ◌to◌, up_to, holds, plane, cone, radius, second, u_range, v_range, head_range}
use Rattle.records.proofs.Accepted.{parameters_in_range, positions_in_range, points-sum}
use Rattle.records.proofs.Bounds.{within_billion, within_million, within_64, length_within, radius_within, none_within, angle-under}
use Rattle.records.proofs.Ranges.{range-head}
use Rattle.records.proofs.Rows.{all_row_at}
use Rattle.magnitudes.specs.Bounded.{most_angle}
use Rattle.call.specs.Face.{vector_in, frame_in, surface_of, surface_in, loops_in}
use Rattle.call.proofs.Each.{all_map, all_so}
use Rattle.call.proofs.Loops.{all_pieces, length-positions, length-parameters, positions_of}

abbrev pub Million : ℕ
Million = 1000000

-- how large u and v of a face record can be, by its kind
abbrev pub given_u : ℕ → ℕ
given_u k = cond (k =? plane) Million 64

abbrev pub given_v : ℕ → ℕ
given_v k = cond (leb k cone) Million 64

-- and v of a closed face
abbrev pub moved_v : ℕ → ℕ
moved_v k = cond (leb k cone) Million most_angle

-- ---- the sizes of a surface

first_within : (plane cone : Bool) (x : Float) → holds (cond plane (0·0 to 0·0) (cond cone (0·0 to 10^6) (10^-6 to 10^6))) x ≡ true → Within (2 ^ 22) x
first_within true cone x h = within_more 0 (2 ^ 22) x (lit≤ tt) (none_within x h)
first_within false true x h = within_more Million (2 ^ 22) x (lit≤ tt) (radius_within x h)
first_within false false x h = within_more Million (2 ^ 22) x (lit≤ tt) (length_within x h)

second_within : (torus : Bool) (x : Float) → holds (cond torus (10^-6 to 10^6) (0·0 to 0·0)) x ≡ true → Within (2 ^ 22) x
second_within true x h = within_more Million (2 ^ 22) x (lit≤ tt) (length_within x h)
second_within false x h = within_more 0 (2 ^ 22) x (lit≤ tt) (none_within x h)

surface_sizes : (k : ℕ) (a b : Float) → holds (radius k) a ≡ true → holds (second k) b ≡ true → Sizes (surface_of k a b)
unfolding surface_of radius second
surface_sizes k a b = go (k =? 0) (k =? 1) (k =? 2) (k =? 3) (k =? 4)
  where
    go : (k₀ k₁ k₂ k₃ k₄ : Bool)
        → holds (cond k₀ (0·0 to 0·0) (cond k₂ (0·0 to 10^6) (10^-6 to 10^6))) a ≡ true → holds (cond k₂ (up_to 1·5) (cond k₄ (10^-6 to 10^6) (0·0 to 0·0))) b ≡ true
        → Sizes (cond k₀ Plane (cond k₁ (Cylinder a) (cond k₂ (Cone a b) (cond k₃ (Sphere a) (Torus a b)))))
    go true k₁ k₂ k₃ k₄ p q = tt
    go false true k₂ k₃ k₄ p q = first_within false k₂ a p
    go false false true k₃ k₄ p q = (first_within false true a p, angle-under b q)
    go false false false true k₄ p q = first_within false false a p
    go false false false false k₄ p q = (first_within false false a p, second_within k₄ b q)

-- ---- corners

-- u of at most A, v of at most P and a position of at most X
pub record Sized (A P X : ℕ) (c : Corner Vec3) : Type 0 where
  pub u : Within A c.u
  pub v : Within P c.v
  pub at : In X c.at

pub corners_sized : (A P X : ℕ) {us vs : List Float} {ps : List Vec3} → All (Within A) us → All (Within P) vs → All (In X) ps → All (Sized A P X) (corners_from us vs ps)
unfolding corners_from
corners_sized A P X none hv hp = none
corners_sized A P X (and hu us) none hp = none
corners_sized A P X (and hu us) (and hv vs) none = none
corners_sized A P X (and hu us) (and hv vs) (and hp ps) = and (record { u = hu; v = hv; at = hp }) (corners_sized A P X us vs ps)

-- pieces that there is enough for have elements
pieces_some : {A : Type 0} (ns : List ℕ) (xs : List A) → All (λ n. 3 ≤ n) ns → sum ns ≤ length xs → All (λ (r : List A). 0 < length r) (pieces ns xs)
unfolding pieces sum
pieces_some [] xs h l = none
pieces_some (n ∷ ns) xs (and h hs) l =
    let here = length-take n xs in
    let rest = length-drop n xs in
    let some : 0 < length (take n xs) = omega arith in
    and some (pieces_some ns (drop n xs) hs (omega arith))

-- ---- periods

pub either_u : (s : Surface) → (u_period s ≡ None) ⊎ (u_period s ≡ Some TAU)
unfolding u_period
either_u Plane = inl refl
either_u (Cylinder R) = inr refl
either_u (Cone R a) = inr refl
either_u (Sphere R) = inr refl
either_u (Torus R r) = inr refl

pub either_v : (s : Surface) → (v_period s ≡ None) ⊎ (v_period s ≡ Some TAU)
unfolding v_period
either_v Plane = inl refl
either_v (Cylinder R) = inl refl
either_v (Cone R a) = inl refl
either_v (Sphere R) = inl refl
either_v (Torus R r) = inr refl

-- ---- the record

module _ {L : Limits} (s : List ℕ) (a : Accepted L s) where
  head_at : (i : ℕ) → i < head_reals → holds (head_range (kind s) i) (real_of s i) ≡ true
  head_at i h = ap (λ (r : Range). holds r (real_of s i)) (sym (range-head (kind s) (points s) i h)) ∙ a.in_range i (omega arith)

  -- the first nine reals
  part_in : (i : ℕ) → i < 9 → Within Billion (real_of s i)
  unfolding head_range
  part_in i h = within_billion (real_of s i) (rw (lt-ltb i 9 h) at (head_at i (omega arith)))

  vector_in_lem : (i : ℕ) → i ≤ 6 → In Billion (vector_in s i)
  vector_in_lem i h = record { x = part_in i (omega arith); y = part_in (i + 1) (omega arith); z = part_in (i + 2) (omega arith) }

  pub frame_framed : Framed (frame_in s)
  unfolding frame_in
  frame_framed = frame_in_lem (vector_in s 0) (vector_in s 3) (vector_in s 6) (vector_in_lem 0 (omega arith)) (vector_in_lem 3 (omega arith)) (vector_in_lem 6 (omega arith))

  pub sizes_in : Sizes (surface_in s)
  unfolding surface_in head_range
  sizes_in = surface_sizes (kind s) (real_of s 9) (real_of s 10) (head_at 9 (lit< tt)) (head_at 10 (lit< tt))

  -- ---- its parameters and positions

  -- of two limits the one that the kind has
  most_of : (t : Bool) (x : Float) → holds (cond t (up_to 10^6) (up_to 64·0)) x ≡ true → Within (cond t Million 64) x
  most_of true x h = within_million x h
  most_of false x h = within_64 x h

  u-most : (u : Float) → holds (u_range (kind s)) u ≡ true → Within (given_u (kind s)) u
  unfolding u_range
  u-most = most_of (kind s =? plane)

  v-most : (v : Float) → holds (v_range (kind s)) v ≡ true → Within (given_v (kind s)) v
  unfolding v_range
  v-most = most_of (leb (kind s) cone)

  pub loops_sized : All (All (Sized (given_u (kind s)) (given_v (kind s)) Billion)) (loops_in s)
  unfolding loops_in corners_in
  loops_sized =
      let uvs = parameters_in_range s a in
      all_pieces (counts s)
      (corners_sized (given_u (kind s)) (given_v (kind s)) Billion (all_map u_of (λ p h. u-most p.u h.u) uvs) (all_map v_of (λ p h. v-most p.v h.v) uvs)
      (all_so (λ p h. record { x = within_billion p.x h.x; y = within_billion p.y h.y; z = within_billion p.z h.z }) (positions_in_range s a)))

  length-corners : length (corners_in s) ≡ points s
  unfolding corners_in
  length-corners =
      let n = length-parameters s ∙ sym (length-positions s) in
      sym (length-map (corners_in s) (λ (c : Corner Vec3). c.at))
      ∙ ap length (positions_of _ _ (Face.positions s) (length-map (parameters s) u_of ∙ n) (length-map (parameters s) v_of ∙ n))
      ∙ length-positions s

  pub loops_some : All (λ (r : Corners Vec3). 0 < length r) (loops_in s)
  unfolding loops_in counts
  loops_some = pieces_some (counts s) (corners_in s) (all_row_at u16_at 2 s (λ n. 3 ≤ n) _ (loops s) (λ k h. a.each_loop k h)) (let p = points-sum s in let l = length-corners in omega arith)

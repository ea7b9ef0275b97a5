-- The boundary of a whole surface in a table, side after side.
use Prim.Native.Nat.{ℕ, ◌+◌, ◌-◌, ◌≤◌, ◌<◌}
use mathlib.Core.Path.{◌≡◌, refl, sym, ap, ◌∙◌, subst}
use mathlib.Core.Bool.{Bool, true, false, cond}
use mathlib.Core.List.{List, [], ◌++◌, map, append_assoc, map-append, map-map}
use native.Mathlib.Omega.{arith}
use borrow.Author.Tests.{lt-leb}
use lib.Ieee.{Float, nan, mul, of_bits}
use lib.ListN.{length, get_or, set, take, drop, length-append, length-drop, length-map}
use lib.Seq.{sets, sets-eq, take_all, take-append_seam, get_or-drop, get_or-take}
use Rattle.numbers.specs.Constants.{plus_zero}
use Rattle.numbers.specs.declared.math.Frame.{Frame}
use Rattle.numbers.specs.declared.math.Interval.{Interval}
use Rattle.numbers.specs.declared.math.Vec2.{Vec2}
use Rattle.numbers.specs.declared.math.Vec3.{Vec3}
use Rattle.lists.specs.Placed.{placed}
use Rattle.lists.proofs.Elements.{get_d_map, get_d_reverse, drop_last-take}
use Rattle.lists.proofs.Placed.{placed-fits, placed_short, placed-none, front-placed}
use Rattle.lists.proofs.Storing.{sets-append, stored_more}
use Rattle.surfaces.specs.declared.options.Resolved.{Resolved}
use Rattle.surfaces.specs.declared.steps.Axis.{Axis}
use Rattle.surfaces.specs.declared.steps.Axis.TheVariants.{U, «V»}
use Rattle.surfaces.specs.declared.surface.Surface.{Surface}
use Rattle.surfaces.specs.Domains.{domain_of}
use Rattle.loops.specs.Area.{area_of, cross_sum}
use Rattle.lists.specs.Parts.{part_of}
use Rattle.tables.specs.Corners.{Corner, Corners, us, vs}
use Rattle.tables.specs.Rows.{rows, none}
use Rattle.tables.specs.declared.corners.Corner.{Corner as Held}
use Rattle.full_domain.specs.Boundary.{is_whole, corner, corner_along, walked, side, sides, sides_of, us_of, vs_of, rungs_of, whole_corners, whole_area, area_within, FourCorners}
use Rattle.full_domain.specs.Table.{placed_corner, whole_rows, RowsReach}
use Rattle.full_domain.proofs.boundary.Corners.{four-corners}
use Rattle.full_domain.proofs.boundary.Meaning.{area-fits}
use Rattle.full_domain.proofs.boundary.Sides.{few, some, length-walked, corners_whole}

-- ---- one side

pub walked-back : (rs : List Float) (i : ℕ) → i + 1 < length rs → get_or rs (length rs - 1 - i) nan ≡ get_or (walked true rs) i nan
walked-back rs i h =
    let m = length-drop 1 rs in
    let at : length rs - 1 - i ≡ 1 + (length rs - 2 - i) = omega arith in
    ap (λ (k : ℕ). get_or rs k nan) at ∙ sym (get_or-drop 1 rs (length rs - 2 - i) nan) ∙ sym (get_d_reverse (drop 1 rs) i (length rs - 2 - i) nan (omega arith))

pub walked_on : (rs : List Float) (i : ℕ) → i + 1 < length rs → get_or rs i nan ≡ get_or (walked false rs) i nan
walked_on rs i h = sym (ap (λ (l : List Float). get_or l i nan) (drop_last-take rs) ∙ get_or-take (length rs - 1) rs i nan (omega arith))

module _ (s : Surface) (f : Frame) (a : Axis) (fixed : Float) (back : Bool) (rs : List Float) (t₀ : List Held) (start : ℕ) where
  abbrev along : Corners Vec3
  along = map (placed_corner s f) (side a fixed back rs)

  length-along : length along ≡ length rs - 1
  length-along = length-map (side a fixed back rs) (placed_corner s f) ∙ length-map (walked back rs) (corner_along a fixed) ∙ length-walked back rs

  along-at : (i : ℕ) → i + 1 < length rs → get_or along i none ≡ placed_corner s f (corner_along a fixed (get_or (walked back rs) i nan))
  along-at i h =
      let m = length-map (walked back rs) (corner_along a fixed) in
      let n = length-walked back rs in
      get_d_map (placed_corner s f) (side a fixed back rs) i none (corner nan nan) (omega arith)
      ∙ ap (placed_corner s f) (get_d_map (corner_along a fixed) (walked back rs) i (corner nan nan) nan (omega arith))

  -- t holds the first i corners
  pub record Putting (t : List Held) (i : ℕ) : Type 0 where
    pub far : i ≤ length rs - 1
    pub is : rows t ≡ sets (rows t₀) start (take i along)

  pub putting_turn : (t t' : List Held) (i : ℕ) (c : Corner Vec3) (x : Float) → Putting t i → i + 1 < length rs → x ≡ get_or (walked back rs) i nan
      → c ≡ placed_corner s f (corner_along a fixed x) → rows t' ≡ set (rows t) (start + i) c → Putting t' (i + 1)
  putting_turn t t' i c x k h x_is c_is e = record {
    far = omega arith;
    is = e ∙ (λ j. set (k.is j) (start + i) ((c_is ∙ ap (λ (y : Float). placed_corner s f (corner_along a fixed y)) x_is ∙ sym (along-at i h)) j))
        ∙ stored_more none along (rows t₀) start i (let n = length-along in omega arith);
  }

  pub putting_end : (t : List Held) (i : ℕ) → Putting t i → length rs ≤ i + 1 → rows t ≡ sets (rows t₀) start along
  putting_end t i k h = k.is ∙ ap (sets (rows t₀) start) (take_all i along (let n = length-along in omega arith))

-- ---- the four sides, one behind the other

four_stretches : {A : Type 0} (d a b c e : List A) (i j k : ℕ) → i ≡ length a → j ≡ length a + length b → k ≡ length a + length b + length c
    → sets (sets (sets (sets d 0 a) i b) j c) k e ≡ sets d 0 (a ++ (b ++ (c ++ e)))
four_stretches d a b c e i j k p q r =
    let l = length-append a b in
    let m = length-append (a ++ b) c in
    rw (
      sets-append d 0 i a b (omega arith),
      sets-append d 0 j (a ++ b) c (omega arith),
      sets-append d 0 k ((a ++ b) ++ c) e (omega arith),
      append_assoc (a ++ b) c e,
      append_assoc a b (c ++ e),
    )

module _ (s : Surface) (f : Frame) (us vs : List Float) (t₀ t₁ t₂ t₃ t₄ : Corners Vec3) (su sv : ℕ) where
  abbrev put : Axis → Float → Bool → List Float → Corners Vec3
  put a fixed back rs = map (placed_corner s f) (side a fixed back rs)

  length-put : (a : Axis) (fixed : Float) (back : Bool) (rs : List Float) → length (put a fixed back rs) ≡ length rs - 1
  length-put a fixed back rs = length-along s f a fixed back rs [] 0

  pub sides-put : (ui vi : Interval) → ui ≡ (domain_of s).u → vi ≡ (domain_of s).v → su ≡ length us - 1 → sv ≡ length vs - 1
      → t₁ ≡ sets t₀ 0 (put U vi.lo false us) → t₂ ≡ sets t₁ su (put «V» ui.hi false vs) → t₃ ≡ sets t₂ (su + sv) (put U vi.hi true us)
      → t₄ ≡ sets t₃ (su + sv + su) (put «V» ui.lo true vs) → t₄ ≡ sets t₀ 0 (map (placed_corner s f) (sides us vs (domain_of s).u (domain_of s).v))
  unfolding sides
  sides-put ui vi ui-is vi-is p q e₁ e₂ e₃ e₄ =
      let l₁ = length-put U vi.lo false us in
      let l₂ = length-put «V» ui.hi false vs in
      let l₃ = length-put U vi.hi true us in
      rw (e₄, e₃, e₂, e₁) (four_stretches t₀ (put U vi.lo false us) (put «V» ui.hi false vs) (put U vi.hi true us) (put «V» ui.lo true vs)
      su (su + sv) (su + sv + su) (omega arith) (omega arith) (omega arith)
      ∙ simp (ui-is, vi-is, map-append))

-- ---- the rungs in their arrays

rungs_read : (n : ℕ) (r z x p : List Float) → n ≡ length r - 1 → 0 < length r → length r ≤ length z
    → x ≡ sets z 0 r → p ≡ part_of 0 (n + 1) x → p ≡ r
unfolding part_of
rungs_read n r z x p e h few x_is p_is =
    let all : n + 1 ≡ length r = omega arith in
    p_is ∙ (λ i. take (all i) ((x_is ∙ sets-eq r z 0 (omega arith)) i)) ∙ take-append_seam r (drop (0 + length r) z)

module _ (s : Surface) (o : Resolved) (su sv : ℕ) (su_is : su ≡ length (rungs_of U s o) - 1) (sv_is : sv ≡ length (rungs_of «V» s o) - 1) where
  module _ (zu zv xu xv pu pv : List Float) (lu : length zu ≡ 257) (lv : length zv ≡ 257)
      (xu_is : xu ≡ sets zu 0 (rungs_of U s o)) (xv_is : xv ≡ sets zv 0 (rungs_of «V» s o))
      (pu_is : pu ≡ part_of 0 (su + 1) xu) (pv_is : pv ≡ part_of 0 (sv + 1) xv) where
    u_read : pu ≡ rungs_of U s o
    u_read = rungs_read su (rungs_of U s o) zu xu pu su_is (some U s o) (let n = few U s o in omega arith) xu_is pu_is

    v_read : pv ≡ rungs_of «V» s o
    v_read = rungs_read sv (rungs_of «V» s o) zv xv pv sv_is (some «V» s o) (let n = few «V» s o in omega arith) xv_is pv_is

    pub sides_ready : ((0 < length pu) × (length pu ≤ 257)) × ((0 < length pv) × (length pv ≤ 257))
    sides_ready = rw (u_read, v_read) ((some U s o, few U s o), (some «V» s o, few «V» s o))

    pub boundary_put : (f : Frame) (t₀ t : Corners Vec3) → t ≡ sets t₀ 0 (map (placed_corner s f) (sides pu pv (domain_of s).u (domain_of s).v))
        → t ≡ sets t₀ 0 (map (placed_corner s f) (sides_of s o))
    unfolding sides_of
    boundary_put f t₀ t e = e ∙ (λ i. sets t₀ 0 (map (placed_corner s f) (sides (u_read i) (v_read i) (domain_of s).u (domain_of s).v)))

-- ---- the whole boundary

module _ (s : Surface) (f : Frame) (o : Resolved) (t : Corners Vec3) where
  us-rows : (cs : List Vec2) → us (map (placed_corner s f) cs) ≡ us_of cs
  us-rows cs = map-map (λ (c : Corner Vec3). c.u) (placed_corner s f) cs

  vs-rows : (cs : List Vec2) → vs (map (placed_corner s f) cs) ≡ vs_of cs
  vs-rows cs = map-map (λ (c : Corner Vec3). c.v) (placed_corner s f) cs

  length_whole : length (whole_rows s f o) ≡ length (whole_corners s o)
  unfolding whole_rows
  length_whole = length-map (whole_corners s o) (placed_corner s f)

  front : (r : Corners Vec3) → r ≡ placed 0 (whole_rows s f o) t → length (whole_corners s o) ≤ length t
      → take (length (whole_corners s o)) r ≡ whole_rows s f o
  front r e room = (λ i. take (sym length_whole i) (e i)) ∙ front-placed (whole_rows s f o) t (let n = length_whole in omega arith)

  reaches : (r : Corners Vec3) → r ≡ placed 0 (whole_rows s f o) t → RowsReach s o (length t) r
  unfolding whole_rows
  reaches r e whole room =
      let cs = whole_corners s o in
      let at = front r e room in
      subst (λ (l : List Float). FourCorners (domain_of s) l (vs (take (length cs) r))) (sym (ap us at ∙ us-rows cs))
      (subst (FourCorners (domain_of s) (us_of cs)) (sym (ap vs at ∙ vs-rows cs)) (four-corners s o whole))

  abbrev pub Answered : Float → Corners Vec3 → Type 0
  Answered x r = (x ≡ area_within (length t) s o) × ((r ≡ placed 0 (whole_rows s f o) t) × RowsReach s o (length t) r)

  answered : (x : Float) (r : Corners Vec3) → x ≡ area_within (length t) s o → r ≡ placed 0 (whole_rows s f o) t → Answered x r
  answered x r a e = (a, (e, reaches r e))

  -- no corners, so no area
  no_area : plus_zero ≡ area_of [] []
  unfolding area_of cross_sum mul of_bits
  no_area = refl

  pub no_whole : (b : Bool) → b ≡ is_whole s → b ≡ false → Answered plus_zero t
  unfolding whole_corners whole_area whole_rows
  no_whole b e h =
      let cs-none : whole_corners s o ≡ [] = rw (← e, h) in
      answered plus_zero t (no_area ∙ sym (area-fits s o (length t) (rw cs-none (omega arith)) ∙ ap (λ (cs : List Vec2). area_of (us_of cs) (vs_of cs)) cs-none))
      (sym (placed-none 0 t) ∙ ap (λ (cs : List Vec2). placed 0 (map (placed_corner s f) cs) t) (sym cs-none))

  pub no_room : (m n : ℕ) → m ≡ length t → n ≡ length (whole_corners s o) → m < n → Answered plus_zero t
  no_room m n e k h =
      let l = length_whole in
      answered plus_zero t (ap (λ (b : Bool). cond b (whole_area s o) plus_zero) (sym (lt-leb (length (whole_corners s o)) (length t) (omega arith))))
      (sym (placed_short 0 (whole_rows s f o) t (omega arith)))

  pub boundary_left : (m n : ℕ) (r p : Corners Vec3) (x : Float) → m ≡ length t → n ≡ length (whole_corners s o) → n ≤ m → is_whole s ≡ true
      → r ≡ sets t 0 (map (placed_corner s f) (sides_of s o)) → p ≡ take n r → x ≡ area_of (us p) (vs p) → Answered x r
  unfolding whole_area whole_rows
  boundary_left m n r p x e k h whole r_is p_is x_is =
      let l = length_whole in
      let cs = whole_corners s o in
      let written : r ≡ placed 0 (whole_rows s f o) t =
      r_is ∙ ap (λ (c : List Vec2). sets t 0 (map (placed_corner s f) c)) (sym (corners_whole s o whole))
      ∙ sets-eq (whole_rows s f o) t 0 (omega arith) ∙ sym (placed-fits 0 (whole_rows s f o) t (omega arith)) in
      let p-whole : p ≡ whole_rows s f o = p_is ∙ ap (λ (j : ℕ). take j r) k ∙ front r written (omega arith) in
      answered x r
      (x_is ∙ (λ i. area_of ((ap us p-whole ∙ us-rows cs) i) ((ap vs p-whole ∙ vs-rows cs) i)) ∙ sym (area-fits s o (length t) (omega arith)))
      written

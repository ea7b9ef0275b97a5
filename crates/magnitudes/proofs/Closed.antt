-- The closed path: loops as they are given, and holes moved by whole turns, have bounded parameters, positions and areas.
use Prim.Native.Nat.{ℕ, ◌+◌, ◌^◌, ◌≤◌, ◌<◌}
use mathlib.Core.Path.{◌≡◌, sym, subst}
use mathlib.Core.Logic.{◌⊎◌, inl, inr}
use mathlib.Core.Bool.{Bool, true, false, cond, ◌&&◌}
use mathlib.Core.List.{List, [], map}
use native.Mathlib.Omega.{arith}
use lib.Dec.{lit≤}
use lib.ListN.{length, length-map}
use lib.Ieee.{Float, eq}
use Rattle.numbers.specs.Constants.{plus_zero, TAU}
use Rattle.numbers.specs.Within.{Within}
use Rattle.numbers.specs.declared.math.Vec3.{Vec3}
use Rattle.numbers.proofs.Magnitude.{held_small, within_more, pow_more, add_within}
use Rattle.numbers.proofs.math.Frames.{Billion, in_more}
use Rattle.closed_region.specs.Outer.{holes_of}
use Rattle.closed_region.specs.Rephase.{shift_of, moved, rephased}
use Rattle.closed_region.specs.Rephase as Rephase
use Rattle.closed_region.specs.declared.rephase.Branch.{Branch}
use Rattle.tables.specs.Corners.{Corner, Corners, us, vs}
use Rattle.tables.specs.Moves.{moved_by}
use Rattle.tables.specs.declared.moves.Move.TheVariants.{Up}
use Rattle.lists.specs.Elements.{All, and}
use Rattle.call.specs.Paths.{ResultLoop, signed_area, outer_number, outer_loop, branch_of, rephased_hole, closed_loops}
use Rattle.call.proofs.Doubles.{FitsCorner}
use Rattle.call.proofs.Each.{all_in, all_append, all_take, all_drop, all_map, all_so}
use Rattle.call.proofs.Outermost.{outer_below}
use Rattle.magnitudes.proofs.Loops.{all_both, Known, middle_known, turned-shift, open_shift, area_within_lem}
use Rattle.magnitudes.proofs.Record.{Sized, corners_sized}

abbrev u_of_lem : Corner Vec3 → Float
u_of_lem c = c.u

abbrev v_of_lem : Corner Vec3 → Float
v_of_lem c = c.v

-- ---- the area of a loop

pub area_sized : (d : ℕ) → d ≤ 16 → (j k X : ℕ) → j + k ≤ 40 → (r : Corners Vec3) → All (Sized (2 ^ j) (2 ^ k) X) r → length r ≤ 2 ^ d
    → Within (2 ^ (40 + d)) (signed_area r)
area_sized d few_d j k X few r h short =
    pow_more (j + k + d) (40 + d) (signed_area r) (omega arith)
    (area_within_lem j k (omega arith) (us r) (vs r) (all_map u_of_lem (λ c w. w.u) h) (all_map v_of_lem (λ c w. w.v) h) d few_d
    (let e = length-map r u_of_lem in rw e short))

-- ---- loops of a result of at most 2 ^ d corners, whose u are at most A and whose v are at most B

abbrev pub SizedCorners : ℕ → ℕ → Corners Vec3 → Type 0
SizedCorners A B r = All (Sized A B (2 ^ 32)) r

pub record SizedLoop (d A B : ℕ) (l : ResultLoop) : Type 0 where
  pub area : Within (2 ^ (40 + d)) l.area
  pub corners : SizedCorners A B l.corners

pub sized_more : (A P A' P' : ℕ) → A ≤ A' → P ≤ P' → (c : Corner Vec3) → Sized A P Billion c → Sized A' P' (2 ^ 32) c
sized_more A P A' P' a p c w = record { u = within_more A A' c.u a w.u; v = within_more P P' c.v p w.v; at = in_more Billion (2 ^ 32) c.at (lit≤ tt) w.at }

-- ---- loops as the record gives them, of at most 2 ^ d points, with u of at most G and v of at most H

pub record GivenLoop (d G H : ℕ) (r : Corners Vec3) : Type 0 where
  pub some : 0 < length r
  pub few : length r ≤ 2 ^ d
  pub sized : All (Sized G H Billion) r
  pub fit : All FitsCorner r

module _ (d : ℕ) (few_d : d ≤ 16) (G H : ℕ) (r : Corners Vec3) (h : GivenLoop d G H r) where
  us-given : All (Known G) (us r)
  us-given = all_map u_of_lem (λ c w. record { within = w.0.u; fits = w.1.u }) (all_both h.sized h.fit)

  vs-given : All (Known H) (vs r)
  vs-given = all_map v_of_lem (λ c w. record { within = w.0.v; fits = w.1.v }) (all_both h.sized h.fit)

  us_some : 0 < length (us r)
  us_some = let e = length-map r u_of_lem in let s = h.some in omega arith

  vs_some : 0 < length (vs r)
  vs_some = let e = length-map r v_of_lem in let s = h.some in omega arith

  -- given within a million, it has an area of at most 2 ^ 40 for each corner that it may have
  pub area-given : G ≤ 2 ^ 20 → H ≤ 2 ^ 20 → Within (2 ^ (40 + d)) (signed_area r)
  area-given g k = area_sized d few_d 20 20 (2 ^ 32) (lit≤ tt) r (all_so (sized_more G H (2 ^ 20) (2 ^ 20) g k) h.sized) h.few

-- ---- a hole, moved

-- a direction in which what is given is at most G and what is moved at most M: it comes round by TAU, and then G is 64, or not at all
pub record Way (p : Float) (G M : ℕ) : Type 0 where
  pub given : G ≤ M
  pub moved : 196 ≤ M
  pub most : M ≤ 2 ^ 20
  pub turns : ((p ≡ TAU) × (G ≡ 64)) ⊎ (p ≡ plus_zero)

raised_within : (G S M : ℕ) → G + S ≤ M → M ≤ 2 ^ 20 → (step : Float) → Within S step → {xs : List Float} → All (Known G) xs → All (Within M) (map (moved_by (Up step)) xs)
raised_within G S M few most step w h =
    let held = held_small (G + S) (omega arith) in
    all_map (moved_by (Up step)) (λ x v. within_more (G + S) M (moved_by (Up step) x) few (add_within G S x step held v.within w)) h

moved_within : (p : Float) (G M : ℕ) → Way p G M → (middle : Float) → Known G middle → {xs : List Float} → All (Known G) xs → 0 < length xs
    → All (Within M) (map (moved_by (Up (shift_of middle p xs))) xs)
moved_within p G M way middle w {xs} h some = go way.turns
  where
    go : ((p ≡ TAU) × (G ≡ 64)) ⊎ (p ≡ plus_zero) → All (Within M) (map (moved_by (Up (shift_of middle p xs))) xs)
    go (inl e) =
        let at-64 = subst (λ (g : ℕ). Known g middle) e.1 w in
        let all-64 = subst (λ (g : ℕ). All (Known g) xs) e.1 h in
        let far : Within 132 (shift_of middle TAU xs) = turned-shift 64 (lit≤ tt) middle at-64 all-64 some in
        let room = way.moved in
        let is = e.1 in
        raised_within G 132 M (omega arith) way.most (shift_of middle p xs) (subst (λ (q : Float). Within 132 (shift_of middle q xs)) (sym e.0) far) h
    go (inr e) =
        let room = way.given in
        raised_within G 0 M (omega arith) way.most (shift_of middle p xs) (subst (λ (q : Float). Within 0 (shift_of middle q xs)) (sym e) (open_shift middle xs)) h

module _ (d : ℕ) (few_d : d ≤ 16) (G H A B : ℕ) (b : Branch) (across : Way b.uperiod G A) (along : Way b.vperiod H B) (umid : Known G b.umid) (vmid : Known H b.vmid)
    (r : Corners Vec3) (h : GivenLoop d G H r) where
  record SizedParts (l : Rephase.Loop) : Type 0 where
    us : All (Within A) l.us
    vs : All (Within B) l.vs
    area : Within (2 ^ (40 + d)) l.area

  abbrev loop : Rephase.Loop
  loop = record { us = us r; vs = vs r; area = signed_area r }

  abbrev su : Float
  su = shift_of b.umid b.uperiod (us r)

  abbrev sv : Float
  sv = shift_of b.vmid b.vperiod (vs r)

  stays_sized : SizedParts loop
  stays_sized =
      let u-less = across.given in
      let v-less = along.given in
      let most = across.most in
      let v-most = along.most in
      record {
        us = all_so (λ x w. within_more G A x u-less w.within) (us-given d few_d G H r h);
        vs = all_so (λ x w. within_more H B x v-less w.within) (vs-given d few_d G H r h);
        area = area-given d few_d G H r h (omega arith) (omega arith);
      }

  moved_sized : SizedParts (moved su sv loop)
  unfolding moved
  moved_sized =
      let us-are = moved_within b.uperiod G A across b.umid umid (us-given d few_d G H r h) (us_some d few_d G H r h) in
      let vs-are = moved_within b.vperiod H B along b.vmid vmid (vs-given d few_d G H r h) (vs_some d few_d G H r h) in
      let most = across.most in
      let v-most = along.most in
      let short = h.few in
      record {
        us = us-are;
        vs = vs-are;
        area = area_within_lem 20 20 (lit≤ tt) _ _ (all_so (λ x w. within_more A (2 ^ 20) x most w) us-are) (all_so (λ x w. within_more B (2 ^ 20) x v-most w) vs-are)
            d few_d (rw (length-map (us r) (moved_by (Up su)), length-map r u_of_lem) short);
      }

  rephased_sized : SizedParts (rephased b loop)
  unfolding rephased
  rephased_sized = pick (eq su plus_zero && eq sv plus_zero)
    where
      pick : (t : Bool) → SizedParts (cond t loop (moved su sv loop))
      pick true = stays_sized
      pick false = moved_sized

  hole_sized : SizedLoop d A B (rephased_hole b r)
  unfolding rephased_hole
  hole_sized =
      let parts = rephased_sized in
      record {
        area = parts.area;
        corners = corners_sized A B (2 ^ 32) parts.us parts.vs
            (all_map (λ (c : Corner Vec3). c.at) (λ c w. in_more Billion (2 ^ 32) c.at (lit≤ tt) w.at) h.sized);
      }

-- ---- the path

pub closed_sized : (d : ℕ) → d ≤ 16 → (G H A B : ℕ) (up vp : Float) → Way up G A → Way vp H B → (ls : List (Corners Vec3)) → 0 < length ls → All (GivenLoop d G H) ls
    → All (SizedLoop d A B) (closed_loops up vp ls)
unfolding closed_loops outer_loop holes_of
closed_sized d few_d G H A B up vp across along ls some h =
    let n : ℕ = outer_number ls in
    let outer : GivenLoop d G H (outer_loop ls) = all_in h n [] (outer_below ls some) in
    let b : Branch = branch_of up vp (outer_loop ls) in
    let u-less = across.given in
    let v-less = along.given in
    let most = across.most in
    let v-most = along.most in
    let umid = middle_known G (omega arith) (us-given d few_d G H (outer_loop ls) outer) (us_some d few_d G H (outer_loop ls) outer) in
    let vmid = middle_known H (omega arith) (vs-given d few_d G H (outer_loop ls) outer) (vs_some d few_d G H (outer_loop ls) outer) in
    and
    (record {
      area = area-given d few_d G H (outer_loop ls) outer (omega arith) (omega arith);
      corners = all_so (sized_more G H A B u-less v-less) outer.sized;
    })
    (all_map (rephased_hole b) (hole_sized d few_d G H A B b across along umid vmid) (all_append (all_take n h) (all_drop (n + 1) h)))

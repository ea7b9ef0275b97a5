-- Holes moved onto the branch of the outer loop, in the table that holds them: one hole, one loop among the others, all loops.
use Prim.Native.Nat.{ℕ, zero, suc, ◌+◌, ◌-◌, ◌≤◌, ◌<◌, min}
use mathlib.Core.Path.{◌≡◌, refl, sym, ap, ◌∙◌, subst}
use mathlib.Core.Bool.{Bool, true, false, cond, ◌&&◌, true≢false}
use mathlib.Core.List.{List, [], ◌∷◌, ◌++◌, map, flatten, append_assoc, append-nil}
use native.Mathlib.Numerals.{add-one}
use Rattle.std.proofs.lemmas.List.{set-get_or}
use native.Mathlib.Omega.{arith}
use borrow.Author.Tests.{eq-eqb, ne_eqb, lt-ltb, le-ltb, le-leb, lt-leb}
use lib.Dec.{eqb, ltb}
use lib.Ieee.{Float, nan, binary64, fits, lt, eq}
use lib.ListN.{length, get_or, set, take, drop, length-append, length-map, length-take, length-drop, take-append-drop}
use lib.Seq.{take-suc, take_all, drop_at, drop-drop}
use Rattle.numbers.specs.Constants.{plus_zero, half, TAU}
use Rattle.numbers.specs.Round.{round_away}
use Rattle.numbers.specs.Rounded.{◌⊕◌, ◌⊖◌, ◌⊗◌, ◌⊘◌}
use Rattle.numbers.specs.declared.math.Vec3.{Vec3}
use Rattle.lists.specs.Parts.{on_part}
use Rattle.lists.specs.Pieces.{pieces}
use Rattle.lists.specs.Placed.{placed}
use Rattle.lists.proofs.Filling.{Filling, front, front_turn, filling_end, filling_read}
use Rattle.lists.proofs.Parts.{on_part_lem}
use Rattle.lists.proofs.Pieces.{Cutting, cutting, cutting_turn, cutting_piece, length-pieces}
use Rattle.lists.proofs.Placed.{placed-fits}
use Rattle.loops.specs.Branch.{LeavesHalf}
use Rattle.loops.specs.Span.{middle_of}
use Rattle.loops.proofs.Landing.{half_answer}
use Rattle.tables.specs.Corners.{Corners, us, vs, move_u, move_v}
use Rattle.tables.specs.Moves.{moved_by}
use Rattle.tables.specs.Rows.{rows}
use Rattle.tables.specs.declared.corners.Corner.{Corner as Held}
use Rattle.tables.proofs.Rows.{length-rows}
use Rattle.tables.specs.declared.moves.Move.TheVariants.{Up}
use Rattle.closed_region.specs.Loops.{area_in, box_in}
use Rattle.closed_region.specs.Holes.{whole_periods, branch_in, shifted, u_shift, v_shift, in_phase, rephased_corners, rephased_area, loop_then, area_then, loops_then, areas_then, is_face, outer_branch, rephased_rows, rephased_areas}
use Rattle.closed_region.specs.declared.boxes.Bounds.{Bounds}
use Rattle.closed_region.specs.declared.rephase.Branch.{Branch}

-- ---- how far

pub shift_answer : (period from to turns : Float) → fits binary64 to ≡ true → fits binary64 from ≡ true → lt plus_zero period ≡ true
    → turns ≡ round_away ((to ⊖ from) ⊘ period) → (turns ⊗ period ≡ whole_periods period from to) × LeavesHalf to from period (turns ⊗ period)
unfolding whole_periods
shift_answer period from to turns f g round turns-are =
    let is : turns ⊗ period ≡ round_away ((to ⊖ from) ⊘ period) ⊗ period = ap (λ (x : Float). x ⊗ period) turns-are in
    (rw round is, half_answer to from period (turns ⊗ period) f g is)

turns_on : lt plus_zero TAU ≡ true
unfolding lt lib.Ieee.of_bits
turns_on = refl

pub open_answer : (period from to : Float) → lt plus_zero period ≡ false → (plus_zero ≡ whole_periods period from to) × LeavesHalf to from period plus_zero
unfolding whole_periods LeavesHalf
open_answer period from to flat = (rw flat, λ e v w. absurd (true≢false (sym turns_on ∙ subst (λ (p : Float). lt plus_zero p ≡ false) e flat)))

middles : (b : Bounds) (r : Corners Vec3) → b ≡ box_in r → ((b.ulo ⊕ b.uhi) ⊗ half ≡ middle_of (us r)) × ((b.vlo ⊕ b.vhi) ⊗ half ≡ middle_of (vs r))
unfolding middle_of
middles b r e = (ap (λ (x : Bounds). (x.ulo ⊕ x.uhi) ⊗ half) e, ap (λ (x : Bounds). (x.vlo ⊕ x.vhi) ⊗ half) e)

pub branch_is : (b : Bounds) (r : Corners Vec3) (up vp pu pv : Float) → b ≡ box_in r → up ≡ pu → vp ≡ pv
    → record { umid = (b.ulo ⊕ b.uhi) ⊗ half; vmid = (b.vlo ⊕ b.vhi) ⊗ half; uperiod = up; vperiod = vp } ≡ branch_in pu pv r
branch_is b r up vp pu pv e p q = let m = middles b r e in λ i. record { umid = m.0 i; vmid = m.1 i; uperiod = p i; vperiod = q i }

-- ---- one hole

pub moved-hole : (r r₁ r₂ : Corners Vec3) (su sv x : Float) → r₁ ≡ map (move_u (moved_by (Up su))) r → r₂ ≡ map (move_v (moved_by (Up sv))) r₁ → x ≡ area_in r₂
    → (x ≡ area_in (shifted su sv r)) × (r₂ ≡ shifted su sv r)
moved-hole r r₁ r₂ su sv x p q e =
    let is : r₂ ≡ shifted su sv r = q ∙ ap (map (move_v (moved_by (Up sv)))) p in
    (e ∙ ap area_in is, is)

module _ (b : Branch) (r : Corners Vec3) (own : Bounds) (su sv : Float) (t : Bool) (area : Float) (own_is : own ≡ box_in r) (su_is : su ≡ whole_periods b.uperiod ((own.ulo ⊕ own.uhi) ⊗ half) b.umid) (sv_is : sv ≡ whole_periods b.vperiod ((own.vlo ⊕ own.vhi) ⊗ half) b.vmid) (t_is : t ≡ eq su plus_zero && eq sv plus_zero) where
  u-shift : su ≡ u_shift b r
  u-shift = su_is ∙ ap (λ (m : Float). whole_periods b.uperiod m b.umid) (middles own r own_is).0

  v-shift : sv ≡ v_shift b r
  v-shift = sv_is ∙ ap (λ (m : Float). whole_periods b.vperiod m b.vmid) (middles own r own_is).1

  test : in_phase b r ≡ t
  test = sym (t_is ∙ (λ i. eq (u-shift i) plus_zero && eq (v-shift i) plus_zero))

  pub hole_stays : t ≡ true → (area ≡ rephased_area b r area) × (r ≡ rephased_corners b r)
  unfolding rephased_area rephased_corners
  hole_stays h = (rw (test ∙ h), rw (test ∙ h))

  pub hole_moves : t ≡ false → (x : Float) (r' : Corners Vec3) → (x ≡ area_in (shifted su sv r)) × (r' ≡ shifted su sv r) → (x ≡ rephased_area b r area) × (r' ≡ rephased_corners b r)
  unfolding rephased_area rephased_corners
  hole_moves h x r' e =
      let s : shifted su sv r ≡ shifted (u_shift b r) (v_shift b r) r = λ i. shifted (u-shift i) (v-shift i) r in
      (rw (test ∙ h) (e.0 ∙ ap area_in s), rw (test ∙ h) (e.1 ∙ s))

-- ---- one loop among the others

on_same : {A : Type 0} (f : List A → List A) (a e : ℕ) (xs : List A) → ((l : List A) → f l ≡ l) → xs ≡ on_part f a e xs
unfolding on_part
on_same f a e xs same =
    sym (ap (λ (l : List _). take a xs ++ (l ++ drop (e - a) (drop a xs))) (same (take (e - a) (drop a xs)))
    ∙ ap (λ (l : List _). take a xs ++ l) (take-append-drop (e - a) (drop a xs)) ∙ take-append-drop a xs)

module _ (outer k : ℕ) (b : Branch) (r : Corners Vec3) (areas : List Float) (from to : ℕ) where
  abbrev part : Corners Vec3
  part = take (to - from) (drop from r)

  pub loop_stays : k ≡ outer → (r ≡ on_part (loop_then outer b k) from to r) × (areas ≡ set areas k (area_then outer b k part (get_or areas k nan)))
  loop_stays e =
      let t = eq-eqb k outer e in
      (on_same (loop_then outer b k) from to r (λ l. rw t), rw t (sym (set-get_or areas k nan)))

  pub loop_moves : (k ≡ outer → ⊥) → (old x : Float) (r' : Corners Vec3) (areas' : List Float) → old ≡ get_or areas k nan
      → (x ≡ rephased_area b part old) × (r' ≡ on_part (rephased_corners b) from to r) → areas' ≡ set areas k x
      → (r' ≡ on_part (loop_then outer b k) from to r) × (areas' ≡ set areas k (area_then outer b k part (get_or areas k nan)))
  unfolding on_part
  loop_moves n old x r' areas' o e s =
      let t = ne_eqb k outer n in
      let c : rephased_corners b part ≡ loop_then outer b k part = rw t in
      let a : x ≡ area_then outer b k part (get_or areas k nan) = rw t (e.0 ∙ ap (rephased_area b part) o) in
      (e.1 ∙ ap (λ (l : Corners Vec3). take from r ++ (l ++ drop (to - from) (drop from r))) c, s ∙ ap (set areas k) a)

-- ---- the loops as they then stand, by their numbers

pub flatten_snoc : {A : Type 0} (ls : List (List A)) (l : List A) → flatten (ls ++ (l ∷ [])) ≡ flatten ls ++ l
unfolding flatten
flatten_snoc [] l = append-nil l
flatten_snoc (x ∷ ls) l = ap (λ (r : List _). x ++ r) (flatten_snoc ls l) ∙ sym (append_assoc x (flatten ls) l)

module _ (b : Branch) where
  pub length-rephased : (r : Corners Vec3) → length (rephased_corners b r) ≡ length r
  unfolding rephased_corners
  length-rephased r = by_phase (in_phase b r)
    where
      by_phase : (t : Bool) → length (cond t r (shifted (u_shift b r) (v_shift b r) r)) ≡ length r
      by_phase true = refl
      by_phase false = length-map (map (move_u (moved_by (Up (u_shift b r)))) r) (move_v (moved_by (Up (v_shift b r)))) ∙ length-map r (move_u (moved_by (Up (u_shift b r))))

module _ (outer : ℕ) (b : Branch) where
  pub length_then : (k : ℕ) (r : Corners Vec3) → length (loop_then outer b k r) ≡ length r
  length_then k r = by_number (eqb k outer)
    where
      by_number : (t : Bool) → length (cond t r (rephased_corners b r)) ≡ length r
      by_number true = refl
      by_number false = length-rephased b r

  pub length-loops : (k : ℕ) (ls : List (Corners Vec3)) → length (loops_then outer b k ls) ≡ length ls
  unfolding loops_then
  length-loops k [] = refl
  length-loops k (l ∷ ls) = ap suc (length-loops (suc k) ls)

  get_or-loops : (j k : ℕ) (ls : List (Corners Vec3)) → k < length ls → get_or (loops_then outer b j ls) k [] ≡ loop_then outer b (j + k) (get_or ls k [])
  unfolding loops_then
  get_or-loops j k [] h = absurd (omega arith)
  get_or-loops j zero (l ∷ ls) h = let e : j ≡ j + 0 = omega arith in ap (λ (i : ℕ). loop_then outer b i l) e
  get_or-loops j (suc k) (l ∷ ls) h =
      let e : suc j + k ≡ j + suc k = omega arith in
      get_or-loops (suc j) k ls (omega arith) ∙ ap (λ (i : ℕ). loop_then outer b i (get_or ls k [])) e

  pub length-areas : (k : ℕ) (ls : List (Corners Vec3)) (areas : List Float) → length ls ≤ length areas → length (areas_then outer b k ls areas) ≡ length ls
  unfolding areas_then
  length-areas k [] areas h = refl
  length-areas k (l ∷ ls) [] h = absurd (omega arith)
  length-areas k (l ∷ ls) (a ∷ areas) h = ap suc (length-areas (suc k) ls areas (omega arith))

  get_or-areas : (j k : ℕ) (ls : List (Corners Vec3)) (areas : List Float) → k < length ls → length ls ≤ length areas
      → get_or (areas_then outer b j ls areas) k nan ≡ area_then outer b (j + k) (get_or ls k []) (get_or areas k nan)
  unfolding areas_then
  get_or-areas j k [] areas h n = absurd (omega arith)
  get_or-areas j k (l ∷ ls) [] h n = absurd (omega arith)
  get_or-areas j zero (l ∷ ls) (a ∷ areas) h n = let e : j ≡ j + 0 = omega arith in ap (λ (i : ℕ). area_then outer b i l a) e
  get_or-areas j (suc k) (l ∷ ls) (a ∷ areas) h n =
      let e : suc j + k ≡ j + suc k = omega arith in
      get_or-areas (suc j) k ls areas (omega arith) (omega arith) ∙ ap (λ (i : ℕ). area_then outer b i (get_or ls k []) (get_or areas k nan)) e

-- ---- all loops, one after the other

module _ (outer : ℕ) (b : Branch) (counts : List ℕ) (t₀ : List Held) (areas₀ : List Float) where
  abbrev ls : List (Corners Vec3)
  ls = pieces counts (rows t₀)

  abbrev wanted : List (Corners Vec3)
  wanted = loops_then outer b 0 ls

  abbrev areas_wanted : List Float
  areas_wanted = areas_then outer b 0 ls areas₀

  abbrev done : ℕ → Corners Vec3
  done k = flatten (take k wanted)

  pub record Rephasing (t : List Held) (areas : List Float) (from k : ℕ) : Type 0 where
    pub some : length counts ≤ length areas₀
    pub inside : outer < length counts
    pub cut : Cutting counts (rows t₀) from k
    pub is : rows t ≡ done k ++ drop from (rows t₀)
    pub at : length (done k) ≡ from
    pub fill : Filling 0 areas_wanted areas₀ areas k

  pub rephasing : outer < length counts → length counts ≤ length areas₀ → Rephasing t₀ areas₀ 0 0
  unfolding flatten
  rephasing o h = record {
    some = h;
    inside = o;
    cut = cutting counts (rows t₀);
    is = refl;
    at = refl;
    fill = front areas_wanted areas₀ (let l = length-pieces counts (rows t₀) in let w = length-areas outer b 0 ls areas₀ (omega arith) in omega arith);
  }

  module _ (t : List Held) (areas : List Float) (from k : ℕ) (p : Rephasing t areas from k) where
    as_long : length (rows t) ≡ length (rows t₀)
    as_long =
        let a = p.at in
        let low = p.cut.low in
        let d = length-drop from (rows t₀) in
        ap length p.is ∙ length-append (done k) (drop from (rows t₀)) ∙ omega arith

    pub still : (to : ℕ) → to ≡ min (from + get_or counts k 0) (length t) → (from ≤ to) × (to ≤ length (rows t))
    still to e = let low = p.cut.low in let l = as_long in let n = length-rows t in (omega arith, omega arith)

    pub rephasing_turn : (t' : List Held) (areas' : List Float) (to : ℕ) → k < length counts → to ≡ min (from + get_or counts k 0) (length t)
        → rows t' ≡ on_part (loop_then outer b k) from to (rows t)
        → areas' ≡ set areas k (area_then outer b k (take (to - from) (drop from (rows t))) (get_or areas k nan))
        → Rephasing t' areas' to (k + 1)
    rephasing_turn t' areas' to h e s a = record {
      some = p.some;
      inside = p.inside;
      cut = cutting_turn counts (rows t₀) from to k p.cut h to_is;
      is = now ∙ sym (append_assoc (done k) (loop_then outer b k here) (drop to (rows t₀))) ∙ ap (λ (r : Corners Vec3). r ++ drop to (rows t₀)) (sym grown);
      at = ap length grown ∙ length-append (done k) (loop_then outer b k here) ∙ (let x = p.at in let y = length_then outer b k here in let z = reach in omega arith);
      fill = rw a (front_turn areas_wanted areas₀ areas k (area_then outer b k (take (to - from) (drop from (rows t))) (get_or areas k nan)) nan p.fill (let w = many in let m = length-pieces counts (rows t₀) in omega arith) area_is);
    }
      where
        to_is : to ≡ min (from + get_or counts k 0) (length (rows t₀))
        to_is = e ∙ ap (min (from + get_or counts k 0)) (sym (length-rows t) ∙ as_long)

        here : Corners Vec3
        here = take (to - from) (drop from (rows t₀))

        piece : get_or ls k [] ≡ here
        piece = cutting_piece counts (rows t₀) from to k p.cut h to_is

        many : length areas_wanted ≡ length ls
        many = let m = length-pieces counts (rows t₀) in let o = p.some in length-areas outer b 0 ls areas₀ (omega arith)

        reach : from + length here ≡ to
        reach =
            let d = length-drop from (rows t₀) in
            let x = length-take (to - from) (drop from (rows t₀)) in
            let low = p.cut.low in
            let q = to_is in
            omega arith

        behind : drop (to - from) (drop from (rows t₀)) ≡ drop to (rows t₀)
        behind = let q = reach in let g : from + (to - from) ≡ to = omega arith in drop-drop (to - from) from (rows t₀) ∙ ap (λ (j : ℕ). drop j (rows t₀)) g

        whole : rows t ≡ done k ++ (here ++ drop to (rows t₀))
        whole = p.is ∙ ap (λ (r : Corners Vec3). done k ++ r) (sym (take-append-drop (to - from) (drop from (rows t₀))) ∙ ap (λ (r : Corners Vec3). here ++ r) behind)

        now : rows t' ≡ done k ++ (loop_then outer b k here ++ drop to (rows t₀))
        now = s ∙ ap (on_part (loop_then outer b k) from to) whole ∙ on_part_lem (loop_then outer b k) (done k) here (drop to (rows t₀)) from to p.at reach

        zero-k : 0 + k ≡ k
        zero-k = omega arith

        inside_k : k < length ls
        inside_k = let m = length-pieces counts (rows t₀) in omega arith

        grown : done (k + 1) ≡ done k ++ loop_then outer b k here
        grown =
            ap (λ (j : ℕ). flatten (take j wanted)) (add-one k) ∙ ap flatten (take-suc wanted k [] (let m = length-loops outer b 0 ls in let i = inside_k in omega arith))
            ∙ flatten_snoc (take k wanted) (get_or wanted k [])
            ∙ ap (λ (r : Corners Vec3). done k ++ r) (get_or-loops outer b 0 k ls inside_k ∙ (λ i. loop_then outer b (zero-k i) (piece i)))

        same_rest : drop from (rows t) ≡ drop from (rows t₀)
        same_rest = ap (drop from) p.is ∙ drop_at (done k) (drop from (rows t₀)) from p.at

        area_is : area_then outer b k (take (to - from) (drop from (rows t))) (get_or areas k nan) ≡ get_or areas_wanted k nan
        area_is =
            (λ i. area_then outer b k (take (to - from) (same_rest i)) (filling_read 0 areas_wanted areas₀ areas k k nan p.fill (omega arith) i))
            ∙ sym (get_or-areas outer b 0 k ls areas₀ inside_k (let m = length-pieces counts (rows t₀) in let o = p.some in omega arith) ∙ (λ i. area_then outer b (zero-k i) (piece i) (get_or areas₀ k nan)))

    pub rephasing_end : length counts ≤ k → (rows t ≡ placed 0 (flatten wanted) (rows t₀)) × (areas ≡ placed 0 areas_wanted areas₀)
    rephasing_end h =
        let m = length-pieces counts (rows t₀) in
        let w = length-loops outer b 0 ls in
        let o = p.some in
        let v = length-areas outer b 0 ls areas₀ (omega arith) in
        let low = p.cut.low in
        let a = p.at in
        let all : done k ≡ flatten wanted = ap flatten (take_all k wanted (omega arith)) in
        let long : length (flatten wanted) ≡ from = ap length (sym all) ∙ a in
        let front-end : from ≡ 0 + length (flatten wanted) = omega arith in (
          p.is ∙ (λ i. all i ++ drop (front-end i) (rows t₀)) ∙ sym (placed-fits 0 (flatten wanted) (rows t₀) (omega arith)),
          filling_end 0 areas_wanted areas₀ areas k p.fill (omega arith),
        )

-- ---- the three answers

module _ (outer : ℕ) (pu pv : Float) (counts : List ℕ) (t₀ : List Held) (areas₀ : List Float) where
  abbrev all_loops : List (Corners Vec3)
  all_loops = pieces counts (rows t₀)

  abbrev Left : List Held → List Float → Type 0
  Left t areas = (rows t ≡ rephased_rows outer pu pv all_loops areas₀ (rows t₀)) × (areas ≡ rephased_areas outer pu pv all_loops areas₀)

  no_face : is_face outer pu pv all_loops areas₀ ≡ false → Left t₀ areas₀
  unfolding rephased_rows rephased_areas
  no_face e = (rw e, rw e)

  pub no_outer : length counts ≤ outer → Left t₀ areas₀
  no_outer h = let m = length-pieces counts (rows t₀) in let g : length all_loops ≤ outer = omega arith in no_face (rw (le-ltb outer (length all_loops) g))

  pub no_areas : length areas₀ < length counts → Left t₀ areas₀
  no_areas h =
      let m = length-pieces counts (rows t₀) in
      let g : length areas₀ < length all_loops = omega arith in
      no_face (rw (lt-leb (length all_loops) (length areas₀) g) (by_first (ltb outer (length all_loops))))
    where
      by_first : (t : Bool) → t && false ≡ false
      by_first true = refl
      by_first false = refl

  pub holes_left : (b : Branch) (o : Corners Vec3) (t : List Held) (areas : List Float) (from k : ℕ) → o ≡ get_or all_loops outer [] → b ≡ branch_in pu pv o
      → Rephasing outer b counts t₀ areas₀ t areas from k → length counts ≤ k → Left t areas
  unfolding rephased_rows rephased_areas
  holes_left b o t areas from k o_is b_is p h =
      let m = length-pieces counts (rows t₀) in
      let i = p.inside in
      let s = p.some in
      let inside : outer < length all_loops = omega arith in
      let some : length all_loops ≤ length areas₀ = omega arith in
      let e = rephasing_end outer b counts t₀ areas₀ t areas from k p h in
      let branch : b ≡ outer_branch outer pu pv all_loops areas₀ = b_is ∙ ap (branch_in pu pv) o_is in
      rw (lt-ltb outer (length all_loops) inside, le-leb (length all_loops) (length areas₀) some) (
        e.0 ∙ ap (λ (x : Branch). placed 0 (flatten (loops_then outer x 0 all_loops)) (rows t₀)) branch,
        e.1 ∙ ap (λ (x : Branch). placed 0 (areas_then outer x 0 all_loops areas₀) areas₀) branch,
      )

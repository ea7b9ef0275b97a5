-- The band with the holes behind it is the result of a face record of which two loops wrap.
use Prim.Native.Nat.{ℕ, suc, ◌+◌, ◌-◌, ◌≤◌, ◌<◌}
use mathlib.Core.Path.{◌≡◌, refl, sym, ap, ◌∙◌, subst}
use mathlib.Core.Bool.{Bool, false}
use mathlib.Core.List.{List, [], ◌∷◌, ◌++◌, map, flatten}
use native.Mathlib.Decide.{dec_le}
use native.Mathlib.Omega.{arith}
use borrow.Author.Tests.{eq-eqb, ne_eqb, le-leb, lt-leb, le-ltb, lt-ltb}
use lib.Ieee.{Float}
use lib.ListN.{length, take, set, length-map, length-set}
use lib.Seq.{take-add, take_at, drop_at, take-take, length-take-le}
use Rattle.numbers.specs.declared.math.Vec3.{Vec3}
use Rattle.surfaces.specs.declared.patch.Patch.{Patch}
use Rattle.lists.specs.Pieces.{pieces}
use Rattle.lists.specs.Placed.{placed}
use Rattle.lists.proofs.Placed.{take-placed}
use Rattle.tables.specs.Corners.{Corner, Corners}
use Rattle.tables.specs.Rows.{rows}
use Rattle.tables.specs.declared.corners.Corner.{Corner as Held}
use Rattle.tables.proofs.Rows.{length-rows}
use Rattle.loop_records.specs.declared.LoopRecord.{LoopRecord}
use Rattle.loops.proofs.Trailing.{repeats_fewer}
use Rattle.bands.specs.Given.{Given}
use Rattle.bands.specs.Strip.{Setting}
use Rattle.bands.specs.Band.{strip_of, outer, holes}
use Rattle.bands.proofs.Demand.{holes-counts, holes_as_many}
use Rattle.std.specs.Prelude.{Result, Ok, Err}
use Rattle.strip.specs.Closing.{closed_as, no_room}
use Rattle.strip.specs.declared.closing.Closed.{Closed}
use Rattle.strip.specs.declared.closing.TooMany.{TooMany}
use Rattle.strip.specs.Count.{capped}
use Rattle.records.specs.Bytes.{◌=?◌}
use Rattle.lists.specs.Elements.{sum}
use Rattle.records.specs.Face as Record
use Rattle.records.specs.Limits.{version1}
use Rattle.records.specs.Refusals.{passes, refuses, verdict}
use Rattle.records.specs.Result.{corners_of, count_of, area_of}
use Rattle.results.specs.declared.Path.TheVariants.{Wrapped}
use Rattle.call.specs.Face.{wrapping, setting_in, given_in}
use Rattle.call.specs.Later.{strip_points, long_strip, strip_conditions}
use Rattle.call.specs.Paths.{ResultLoop, signed_area, loops_from, wrapped_loops, result_loops}
use Rattle.call.proofs.Demands.{loops_of_each}
use Rattle.call.proofs.Loops.{loops-wrap}
use Rattle.call.proofs.Strips.{strip-most}
use Rattle.holes.specs.Others.{others}
use Rattle.holes.proofs.Others.{map-others}
use Rattle.filling.specs.Band.{band_closing, BandIs}
use Rattle.filling.proofs.BandFace.{BandFace}
use Rattle.filling.specs.Filled.{HoldsResult, FillsTo, path_taken}
use Rattle.std.specs.Prelude.{Ok, Err}
use Rattle.records.specs.declared.refusal.Refusal.TheVariants.{LongStrip}
use Rattle.filling.proofs.Others.{total-length, flat_pieces}
use Rattle.filling.proofs.Taken.{hole_lists, hole-counts, holes-two_less, points-few, few}

-- ---- lists

module _ {A : Type 0} where
  -- one stored in front, and some placed behind it
  behind_first : (x : A) (w d d' : List A) → length w < length d → d' ≡ placed 1 w (set d 0 x) → take (suc (length w)) d' ≡ x ∷ w
  behind_first x w [] d' h e = absurd (omega arith)
  behind_first x w (y ∷ d) d' h e =
      let n : suc (length w) ≡ 1 + length w = omega arith in
      (λ i. take (n i) (e i)) ∙ take-placed 1 w (x ∷ d) (omega arith)

  take_behind : (p w : List A) (n m : ℕ) → length p ≡ n → take (n + m) (p ++ w) ≡ p ++ take m w
  take_behind p w n m e = take-add n m (p ++ w) ∙ (λ i. take_at p w n e i ++ take m (drop_at p w n e i))

  -- the front of what is placed behind n others
  placed_behind : (w d d' : List A) (n m : ℕ) → n + length w ≤ length d → m ≤ length w → d' ≡ placed n w d → take (n + m) d' ≡ take n d ++ take m w
  placed_behind w d d' n m fits h e =
      ap (take (n + m)) e ∙ sym (take-take (n + m) (n + length w) (placed n w d) (omega arith)) ∙ ap (take (n + m)) (take-placed n w d fits)
      ∙ take_behind (take n d) w n m (length-take-le n d (omega arith))

areas-from : (areas : List Float) (ls : List (Corners Vec3)) → length ls ≡ length areas → map area_of (loops_from areas ls) ≡ areas
unfolding loops_from
areas-from [] ls e = refl
areas-from (a ∷ areas) [] e = absurd (omega arith)
areas-from (a ∷ areas) (l ∷ ls) e = ap (λ (r : List Float). a ∷ r) (areas-from areas ls (omega arith))

corners-from : (areas : List Float) (ls : List (Corners Vec3)) → length ls ≡ length areas → corners_of (loops_from areas ls) ≡ flatten ls
unfolding loops_from corners_of flatten
corners-from [] [] e = refl
corners-from [] (l ∷ ls) e = absurd (omega arith)
corners-from (a ∷ areas) [] e = refl
corners-from (a ∷ areas) (l ∷ ls) e = ap (λ (r : Corners Vec3). l ++ r) (corners-from areas ls (omega arith))

sum-cons : (n : ℕ) (ns : List ℕ) → sum (n ∷ ns) ≡ n + sum ns
unfolding sum
sum-cons n ns = refl

passes≢refuses : {n p : ℕ} → refuses n p ≡ passes → ⊥
passes≢refuses {n} {p} e = let z : ◌≡◌ {A = ℕ} 0 1 = cc in omega arith

-- ---- the record

module _ (s : List ℕ) (corners : List Held) (given : List ℕ) (loops : List LoopRecord) (patch : Patch) (sense : Bool) (a b : ℕ)
    (f : BandFace s corners given loops patch sense a b) where
  abbrev S : Setting Vec3
  S = setting_in s

  abbrev g : Given Vec3
  g = given_in s

  abbrev hs : List (Corners Vec3)
  hs = holes (setting_in s) (given_in s)

  abbrev areas₀ : List Float
  areas₀ = map signed_area (given_in s).holes

  loops_some : (Record.loops s =? 0) ≡ false
  loops_some = let w = loops-wrap s in let t = f.two in ne_eqb (Record.loops s) 0 (λ e. omega arith)

  wraps_some : (wrapping s =? 0) ≡ false
  wraps_some = let t = f.two in ne_eqb (wrapping s) 0 (λ e. omega arith)

  path_is : path_taken s ≡ Wrapped
  unfolding path_taken
  path_is = rw (loops_some, wraps_some)

  result_is : result_loops s ≡ wrapped_loops s
  unfolding result_loops
  result_is = rw (loops_some, wraps_some)

  areas_many : length hs ≡ length areas₀
  areas_many = holes_as_many S g ∙ sym (length-map g.holes signed_area)

  counts_of : map count_of (wrapped_loops s) ≡ length (outer S g) ∷ map length g.holes
  unfolding wrapped_loops
  counts_of = ap (λ (l : List ℕ). length (outer S g) ∷ l) (loops_of_each length areas₀ hs areas_many ∙ holes-counts S g)

  areas_of : map area_of (wrapped_loops s) ≡ signed_area (outer S g) ∷ areas₀
  unfolding wrapped_loops
  areas_of = ap (λ (l : List Float). signed_area (outer S g) ∷ l) (areas-from areas₀ hs areas_many)

  corners_of_lem : corners_of (wrapped_loops s) ≡ outer S g ++ flatten hs
  unfolding wrapped_loops corners_of
  corners_of_lem = ap (λ (l : Corners Vec3). outer S g ++ l) (corners-from areas₀ hs areas_many)

  result_many : length (wrapped_loops s) ≡ suc (length g.holes)
  result_many = sym (length-map (wrapped_loops s) count_of) ∙ ap length counts_of ∙ ap suc (length-map g.holes length)

  -- ---- the verdict

  short_passes : strip_points s ≤ version1.strip → verdict (strip_conditions version1) s ≡ passes
  unfolding verdict long_strip
  short_passes h = rw (eq-eqb (wrapping s) 2 f.two, le-ltb version1.strip (strip_points s) h)

  long_refuses : version1.strip < strip_points s → verdict (strip_conditions version1) s ≡ refuses 12 (strip_points s)
  unfolding verdict long_strip
  long_refuses h = rw (eq-eqb (wrapping s) 2 f.two, lt-ltb version1.strip (strip_points s) h)

  -- ---- how the band closes

  module _ (r : Result Closed TooMany) (t : List Held) (now : List (Corners Vec3)) (is : BandIs S g r t now) where
    closed_short : (c : Closed) → r ≡ Ok c → (strip_points s ≤ version1.strip) × (c ≡ closed_as (outer S g))
    unfolding band_closing strip_points
    closed_short c e = by_room (dec_le (length (strip_of S g)) version1.strip)
      where
        by_room : Dec (length (strip_of S g) ≤ version1.strip) → (length (strip_of S g) ≤ version1.strip) × (c ≡ closed_as (outer S g))
        by_room (yes h) = let a : ◌≡◌ {A = Result Closed TooMany} (Ok c) (Ok (closed_as (outer S g))) = sym e ∙ is.answer ∙ rw (le-leb (length (strip_of S g)) version1.strip h) in (h, cc)
        by_room (no h) =
            let a : Ok c ≡ Err (no_room (length (strip_of S g))) = sym e ∙ is.answer ∙ rw (lt-leb (length (strip_of S g)) version1.strip (omega arith)) in
            let z : ◌≡◌ {A = ℕ} 0 1 = cc in
            absurd (omega arith)

    too_long : (c : TooMany) → r ≡ Err c → (version1.strip < strip_points s) × (c.corners ≡ strip_points s)
    unfolding band_closing strip_points
    too_long c e = by_room (dec_le (length (strip_of S g)) version1.strip)
      where
        by_room : Dec (length (strip_of S g) ≤ version1.strip) → (version1.strip < length (strip_of S g)) × (c.corners ≡ length (strip_of S g))
        by_room (yes h) =
            let a : Err c ≡ Ok (closed_as (outer S g)) = sym e ∙ is.answer ∙ rw (le-leb (length (strip_of S g)) version1.strip h) in
            let z : ◌≡◌ {A = ℕ} 0 1 = cc in
            absurd (omega arith)
        by_room (no h) =
            let a : ◌≡◌ {A = Result Closed TooMany} (Err c) (Err (no_room (length (strip_of S g)))) = sym e ∙ is.answer ∙ rw (lt-leb (length (strip_of S g)) version1.strip (omega arith)) in
            let b : c ≡ no_room (length (strip_of S g)) = cc in
            let k : c.corners ≡ capped (length (strip_of S g)) = ap (λ (t : TooMany). t.corners) b in
            let m = strip-most s f.accepted in
            (omega arith, omega arith)

    pub filled_long : (c : TooMany) (counts : List ℕ) (areas : List Float) → r ≡ Err c
        → FillsTo (verdict (strip_conditions version1) s) s (Err (LongStrip c.corners)) (record { corners = t; counts = counts; areas = areas })
    filled_long c counts areas e =
        let l = too_long c e in
        record {
          answer = ap (refuses 12) l.1 ∙ sym (long_refuses l.0);
          face = tt;
          holds = λ p. absurd (passes≢refuses (sym (long_refuses l.0) ∙ p));
        }

  -- ---- the holes behind it

  module _ (r : Result Closed TooMany) (t held : List Held) (is : BandIs S g r t (pieces (others a b given) (rows held))) (c : Closed) (closed : r ≡ Ok c)
      (t_long : length t ≡ 1536) (held_long : length held ≡ 512) where
    abbrev n : ℕ
    n = c.count

    abbrev area : Float
    area = c.area

    fits : (strip_points s ≤ version1.strip) × ((n ≡ length (outer S g)) × (area ≡ signed_area (outer S g)))
    fits = let e = closed_short r t (pieces (others a b given) (rows held)) is c closed in (e.0, (ap (λ (d : Closed). d.count) e.1, ap (λ (d : Closed). d.area) e.1))

    band-few : n ≤ version1.strip
    unfolding outer strip_points
    band-few = let h = fits in let k = repeats_fewer (λ (c d : Corner Vec3). S.same c.at d.at) (strip_of S g) in let x = h.0 in let y = h.1.0 in omega arith

    picked : others a b given ≡ map length g.holes
    picked = hole-counts s corners given loops patch sense a b f

    rows_are : (t' : List Held) → rows t' ≡ placed n (rows held) (rows t) → take (n + sum (others a b given)) (rows t') ≡ corners_of (wrapped_loops s)
    unfolding strip_points
    rows_are t' put =
        let l = length-rows t in
        let k = length-rows held in
        let m = band-few in
        let p = points-few s corners given loops patch sense a b f in
        let q = ap sum picked ∙ total-length g.holes in
        let band : take n (rows t) ≡ outer S g = ap (λ (j : ℕ). take j (rows t)) fits.1.0 ∙ is.band fits.0 in
        let behind : take (sum (others a b given)) (rows held) ≡ flatten hs = sym (flat_pieces (others a b given) (rows held)) ∙ ap flatten is.holes_are in
        placed_behind (rows held) (rows t) (rows t') n (sum (others a b given)) (omega arith) (omega arith) put ∙ (λ i. band i ++ behind i) ∙ sym corners_of_lem

    pub filled_short : (t' : List Held) (counts counts' : List ℕ) (areas areas' : List Float) (m : ℕ) → length (set counts 0 n) ≡ 16 → length (set areas 0 area) ≡ 16
        → rows t' ≡ placed n (rows held) (rows t) → counts' ≡ placed 1 (others a b given) (set counts 0 n)
        → areas' ≡ placed 1 (others a b (map signed_area (pieces given (rows corners)))) (set areas 0 area) → m ≡ length given - 1
        → FillsTo (verdict (strip_conditions version1) s) s (Ok (record { path = Wrapped; loops = m })) (record { corners = t'; counts = counts'; areas = areas' })
    filled_short t' counts counts' areas areas' m in_counts in-areas put-rows put-counts put-areas m_is =
        let two-less = holes-two_less s corners given loops patch sense a b f in
        let lengths = ap length picked ∙ length-map g.holes length in
        let counts-kept = length-set counts 0 n in
        let areas-kept = length-set areas 0 area in
        let limit = few s corners given loops patch sense a b f in
        let many = result_many in
        let picked-areas : others a b (map signed_area (pieces given (rows corners))) ≡ areas₀ = map-others a b signed_area 0 (pieces given (rows corners)) ∙ ap (map signed_area) (hole_lists s corners given loops patch sense a b f) in
        let areas_long = ap length picked-areas ∙ length-map g.holes signed_area in
        let as_many : length (wrapped_loops s) ≡ suc (length (others a b given)) = omega arith in
        let area-many : length (wrapped_loops s) ≡ suc (length (others a b (map signed_area (pieces given (rows corners))))) = omega arith in
        let shown : take (length (wrapped_loops s)) counts' ≡ n ∷ others a b given = ap (λ (j : ℕ). take j counts') as_many ∙ behind_first n (others a b given) counts counts' (omega arith) put-counts in
        let shown-areas : take (length (wrapped_loops s)) areas' ≡ area ∷ others a b (map signed_area (pieces given (rows corners))) = ap (λ (j : ℕ). take j areas') area-many ∙ behind_first area (others a b (map signed_area (pieces given (rows corners)))) areas areas' (omega arith) put-areas in
        let size : length (take (length (wrapped_loops s)) counts') ≡ length (wrapped_loops s) = ap length shown ∙ sym as_many in
        let holds : HoldsResult (wrapped_loops s) (take (length (wrapped_loops s)) counts') areas' t' = record {
          counts_are = shown ∙ (λ i. fits.1.0 i ∷ picked i) ∙ sym counts_of;
          areas_are = ap (λ (j : ℕ). take j areas') size ∙ shown-areas ∙ (λ i. fits.1.1 i ∷ picked-areas i) ∙ sym areas_of;
          corners_are = ap (λ (ns : List ℕ). take (sum ns) (rows t')) shown ∙ summed t' put-rows;
        } in
        let one_more : m ≡ length (result_loops s) = m_is ∙ less (length given) (length g.holes) two-less ∙ sym (ap length result_is ∙ many) in
        record {
          answer = sym (short_passes fits.0);
          face = λ i. record { path = sym path_is i; loops = one_more i };
          holds = λ p. subst (λ (ls : List ResultLoop). HoldsResult ls (take (length ls) counts') areas' t') (sym result_is) holds;
        }
      where
        less : (x y : ℕ) → y + 2 ≡ x → x - 1 ≡ suc y
        less x y e = omega arith

        summed : (t' : List Held) → rows t' ≡ placed n (rows held) (rows t) → take (sum (n ∷ others a b given)) (rows t') ≡ corners_of (wrapped_loops s)
        summed t' put = ap (λ (j : ℕ). take j (rows t')) (sum-cons n (others a b given)) ∙ rows_are t' put

-- Demands 1 and 3 of the whole call.
use Prim.Native.Nat.{ℕ, zero, suc, ◌+◌, ◌≤◌, ◌<◌}
use mathlib.Core.Path.{◌≡◌, refl, sym, ap, ◌∙◌, subst}
use mathlib.Core.Bool.{Bool, true, false, cond, ◌&&◌}
use mathlib.Core.List.{List, [], ◌∷◌, ◌++◌, map, reverse}
use mathlib.Core.Logic.{◌↔◌}
use native.Mathlib.Nat.{zero-lt-suc}
use native.Mathlib.Omega.{arith}
use lib.ListN.{length, get_or, drop, length-append, length-map, length-reverse}
use lib.Seq.{drop-append_seam}
use lib.Ieee.{Float}
use lib.IntN.{pos}
use borrow.Author.Tests.{ltb-false, eqb-false, eq-eqb, ne_eqb, not-false}
use Rattle.numbers.specs.Position.{same}
use Rattle.numbers.specs.declared.math.Vec3.{Vec3}
use Rattle.loops.specs.Rings.{ends_meet}
use Rattle.loops.specs.Steps.{PartialEquivalence}
use Rattle.loops.proofs.SamePosition.{same-position}
use Rattle.bands.specs.Band.{outer, holes}
use Rattle.tables.specs.Corners.{Corners, positions}
use Rattle.bands.specs.Given.{Measured, given_of}
use Rattle.lists.specs.Elements.{only, sum, All, none, and}
use Rattle.bands.proofs.Demand.{holes_as_many, demand3}
use Rattle.bands.specs.Demand.{Whole, Demand3}
use Rattle.records.specs.Bytes.{byte_at, ◌<?◌, ◌=?◌}
use Rattle.records.specs.Call as Call
use Rattle.records.specs.Call.{Outcome, refused, closed, code, value, lent_after}
use Rattle.records.specs.Face.{loops}
use Rattle.records.specs.declared.limits.Limits.{Limits}
use Rattle.records.specs.Encodable.{Encodable, most_corners, version1_encodable}
use Rattle.records.specs.Limits.{version1}
use Rattle.records.specs.Refusals.{nowhere, at, first_where, Condition, never, conditions, NoneHolds}
use Rattle.records.specs.Result.{Writable, encode, decode, loop_positions_of, count_of, result_of}
use Rattle.records.proofs.Closing.{closed_accepted, closed_read, closed-length, closed-fits, lent_stays}
use Rattle.records.proofs.Pieces.{loop_positions_lem}
use Rattle.records.proofs.Refused.{refused_exactly, closed_exactly}
use Rattle.records.proofs.Search.{nowhere≢at, when_fails, first_fails}
use Rattle.call.specs.Face.{measured_in, is_wrapping, wrapping, setting_in, given_in}
use Rattle.call.specs.Demands.{Complete, Demand1, outer_positions, hole_positions, BandDemand}
use Rattle.call.specs.Judge.{all_conditions, result, judge}
use Rattle.call.specs.Later.{later_conditions, one_ring, many_rings, strip_points, long_strip}
use Rattle.call.proofs.Judged.{loop_in, is_open, open_ring_is, one-ring_is, many_rings_is}
use Rattle.call.specs.Paths.{ResultLoop, signed_area, loops_from, wrapped_loops, uv_of, xyz_of, path_in, result_loops, result_in}
use Rattle.call.proofs.Each.{all_in, all_at, all_reverse, all_only}
use Rattle.call.proofs.Loops.{measured_many, loops-positions, measured_some, loops-wrap}
use Rattle.call.proofs.Places.{place_small}
use Rattle.call.proofs.Sizes.{only_none}
use Rattle.call.proofs.Written.{Fine, fine_writable, result_fine}

compared : (s : List ℕ) → PartialEquivalence (setting_in s).same
unfolding setting_in
compared s = same-position

-- ---- a record that no condition refuses

abbrev bare : Measured Vec3
bare = record { corners = []; wrap = pos 0 }

module _ (s : List ℕ) (not_9 : one_ring s ≡ nowhere) (not_10 : many_rings s ≡ nowhere) where
  few-wrap : wrapping s ≤ 2
  few-wrap = ltb-false 2 (wrapping s) ((when_fails _ (wrapping s)).0 (sym (many_rings_is s) ∙ not_10))

  -- where no loop is found that wraps, none does
  none-wraps : first_where (loops s) (λ k. is_wrapping (loop_in s k)) ≡ nowhere → wrapping s ≡ 0
  unfolding wrapping loop_in
  none-wraps e =
      let m = measured_many s in
      ap length (only_none is_wrapping (all_at (measured_in s) bare (λ k h. (first_fails (λ i. is_wrapping (loop_in s i)) (loops s)).0 e k (omega arith))))

  not_one : wrapping s ≡ 1 → ⊥
  not_one e = let z = none-wraps (ap (λ (t : Bool). cond t (first_where (loops s) (λ k. is_wrapping (loop_in s k))) nowhere) (sym (eq-eqb (wrapping s) 1 e)) ∙ sym (one-ring_is s) ∙ not_9) in omega arith

  -- either none wraps or two do
  pub two_wrap : (wrapping s ≡ 0 → ⊥) → wrapping s ≡ 2
  two_wrap some = let a = few-wrap in let b = not_one in omega arith

module _ (L : Limits) (lent : ℕ) (s : List ℕ) (none : NoneHolds (conditions L lent ++ later_conditions L) s) where
  pub strip_short : (wrapping s ≡ 0 → ⊥) → strip_points s ≤ L.strip
  unfolding long_strip
  strip_short some =
      ltb-false L.strip (strip_points s)
      (ap (λ (t : Bool). t && (L.strip <? strip_points s)) (sym (eq-eqb (wrapping s) 2 (two_wrap s (none 9) (none 10) some))) ∙ (when_fails _ (strip_points s)).0 (none 12))

  -- ---- refusal 8: a loop that wraps ends where it begins

  loops_meet : All (λ (m : Measured Vec3). is_wrapping m ≡ true → ends_meet same (positions m.corners) ≡ true) (measured_in s)
  unfolding loop_in
  loops_meet =
      let m = measured_many s in
      all_at (measured_in s) bare (λ k h e.
      let open-not : is_open (loop_in s k) ≡ false =
      ap (λ (t : Bool). t && is_open (loop_in s k)) (sym e) ∙ (first_fails (λ i. is_wrapping (loop_in s i) && is_open (loop_in s i)) (loops s)).0 (sym (open_ring_is s) ∙ none 8) k (omega arith) in
      not-false _ open-not)

  -- ---- what demand 3 asks of the two rings

  module _ (two : wrapping s ≡ 2) where
    abbrev rings : List (Measured Vec3)
    rings = reverse (only is_wrapping (measured_in s))

    rings_long : length rings ≡ 2
    unfolding wrapping
    rings_long = length-reverse (only is_wrapping (measured_in s)) ∙ two

    ring_some : (k : ℕ) → k < 2 → 0 < length (get_or rings k bare).corners
    ring_some k h = let n = rings_long in all_in (all_reverse (all_only is_wrapping (λ m e f. f e) (measured_some s))) k bare (omega arith)

    ring_meets : (k : ℕ) → k < 2 → ends_meet same (positions (get_or rings k bare).corners) ≡ true
    ring_meets k h = let n = rings_long in all_in (all_reverse (all_only is_wrapping (λ m e f. f e) loops_meet)) k bare (omega arith)

    pub rings_whole : Whole (setting_in s) (given_in s)
    unfolding setting_in given_in given_of
    rings_whole = record {
      some_first = ring_some 0 (omega arith);
      some_later = ring_some 1 (omega arith);
      first_meets = ring_meets 0 (omega arith);
      later_meets = ring_meets 1 (omega arith);
    }

-- ---- the call, by any limits whose results can be encoded

module _ (L : Limits) (fit : Encodable L) (lent : ℕ) (s b : List ℕ) (h : Call.judge L (later_conditions L) result lent s ≡ closed b) where
  pub passed : NoneHolds (conditions L lent ++ later_conditions L) s
  passed = ((closed_exactly L (later_conditions L) result lent s b).0 h).0

  pub written : b ≡ result s
  written = ((closed_exactly L (later_conditions L) result lent s b).0 h).1

  fine : Fine L (result_loops s)
  fine = let a = closed_accepted L (later_conditions L) result_in lent s b h in result_fine L fit s a.loops_are a.total (strip_short L lent s passed)

  pub can_be_written : Writable (result_in s)
  unfolding result_in
  can_be_written = fine_writable L fit (path_in s) (result_loops s) fine

  few_loops : length (result_in s).counts ≤ L.loops + 1
  unfolding result_in result_of
  few_loops = let n = length-map (result_loops s) count_of in let f = fine.few in omega arith

  few-corners : sum (result_in s).counts ≤ most_corners L
  unfolding result_in result_of
  few-corners = fine.corners

  -- the loops that are read from the lent bytes, whatever stands behind the record
  pub read_loops : (rest : List ℕ) → loop_positions_of (decode (b ++ rest)) ≡ map (λ (l : ResultLoop). positions l.corners) (result_loops s)
  unfolding result_in
  read_loops rest =
      ap loop_positions_of (closed_read L (later_conditions L) result_in lent s b h can_be_written rest) ∙ loop_positions_lem uv_of xyz_of (path_in s) (result_loops s)

  -- the bytes that are to be lent are enough
  lent_enough : length b ≤ L.result
  lent_enough = closed-fits L (later_conditions L) result_in lent s b h can_be_written fit few_loops few-corners

  -- the lent bytes keep their number
  kept : (old : List ℕ) → length old ≡ lent → length (b ++ drop (length b) old) ≡ lent
  kept = lent_stays L (later_conditions L) result_in lent s b h can_be_written fit few_loops few-corners

-- ---- demand 1, of a face that is closed by the limits of version 1

abbrev later : List Condition
later = later_conditions version1

pub complete : (lent : ℕ) (s b : List ℕ) → judge lent s ≡ closed b → (old : List ℕ) → Complete s old (length b) (b ++ drop (length b) old)
unfolding encode
complete lent s b h old =
    let rest = drop (length b) old in
    let is = written version1 version1_encodable lent s b h in
    let can = can_be_written version1 version1_encodable lent s b h in
    record {
      version_is = ap (λ (r : List ℕ). byte_at (r ++ rest) 0) is;
      zero_is = ap (λ (r : List ℕ). byte_at (r ++ rest) 3) is;
      read_back = closed_read version1 later result_in lent s b h can rest;
      length_is = closed-length version1 later result_in lent s b h can rest;
      inside = (let n = length-append b rest in omega arith);
      fits = lent_enough version1 version1_encodable lent s b h;
      past_stays = drop-append_seam b rest;
    }

-- ---- demand 3

-- loops have the corners that they are made of, whatever their areas
pub loops_of_each : {B : Type 0} (f : Corners Vec3 → B) (areas : List Float) (ls : List (Corners Vec3)) → length ls ≡ length areas
    → map (λ (l : ResultLoop). f l.corners) (loops_from areas ls) ≡ map f ls
unfolding loops_from
loops_of_each f [] [] e = refl
loops_of_each f [] (l ∷ ls) e = absurd (omega arith)
loops_of_each f (a ∷ areas) [] e = refl
loops_of_each {B} f (a ∷ areas) (l ∷ ls) e = ap (λ (r : List B). f l ∷ r) (loops_of_each f areas ls (omega arith))

module _ (s : List ℕ) (two : wrapping s ≡ 2) where
  some_loops : loops s ≡ 0 → ⊥
  some_loops e = let w = loops-wrap s in omega arith

  takes_wrapped : result_loops s ≡ wrapped_loops s
  unfolding result_loops
  takes_wrapped = rw (ne_eqb (loops s) 0 some_loops, ne_eqb (wrapping s) 0 (λ e. omega arith))

  wrapped_positions : map (λ (l : ResultLoop). positions l.corners) (wrapped_loops s)
      ≡ positions (outer (setting_in s) (given_in s)) ∷ map positions (holes (setting_in s) (given_in s))
  unfolding wrapped_loops
  wrapped_positions =
      ap (λ (r : List (List Vec3)). positions (outer (setting_in s) (given_in s)) ∷ r)
      (loops_of_each positions (map signed_area (given_in s).holes) (holes (setting_in s) (given_in s)) (holes_as_many (setting_in s) (given_in s) ∙ sym (length-map (given_in s).holes signed_area)))

same_set : (s : List ℕ) → (setting_in s).same ≡ same
unfolding setting_in
same_set s = refl

-- ---- the path byte

path-wraps : (s : List ℕ) → path_in s ≡ 1 ↔ 0 < wrapping s
unfolding path_in
path-wraps s = (by_path (loops s =? 0) (wrapping s =? 0) refl, takes_one)
  where
    chosen : Bool → Bool → ℕ
    chosen p q = cond p 2 (cond q 0 1)

    by_path : (p q : Bool) → (wrapping s =? 0) ≡ q → chosen p q ≡ 1 → 0 < wrapping s
    by_path true q e h = absurd (omega arith)
    by_path false true e h = absurd (omega arith)
    by_path false false e h = let w = eqb-false (wrapping s) 0 e in omega arith

    takes_one : 0 < wrapping s → chosen (loops s =? 0) (wrapping s =? 0) ≡ 1
    takes_one h =
        let l = loops-wrap s in
        rw (ne_eqb (loops s) 0 (λ e. omega arith), ne_eqb (wrapping s) 0 (λ e. omega arith))

-- ---- the claims about one call

-- a refusal has a number
numbered : (s : List ℕ) {p : ℕ} {cs : List Condition} → All (λ (c : Condition). 0 < c.number) cs → (row : ℕ) → (get_or cs row never).place s ≡ at p
    → 0 < (get_or cs row never).number
numbered s none row e = absurd (nowhere≢at e)
numbered s (and h hs) zero e = h
numbered s (and h hs) (suc row) e = numbered s hs row e

all_numbered : (lent : ℕ) → All (λ (c : Condition). 0 < c.number) (all_conditions lent)
all_numbered lent =
    let n : (k : ℕ) → 0 < suc k = zero-lt-suc in
    and (n _) (and (n _) (and (n _) (and (n _) (and (n _) (and (n _) (and (n _) (and (n _) (and (n _) (and (n _) (and (n _) (and (n _) (and (n _) none))))))))))))

module _ (s old : List ℕ) where
  abbrev lent : ℕ
  lent = length old

  -- a refusal is not 0
  pub over_zero : (n p : ℕ) → judge lent s ≡ refused n p → 0 < n
  over_zero n p e =
      let f = (refused_exactly version1 later result lent s n p).0 e in
      subst (λ (m : ℕ). 0 < m) f.numbered (numbered s (all_numbered lent) f.row f.holds)

  -- 01, demand 1, for each outcome; the record is one of bytes
  demand_1_of : get_or s 2 0 < 256 → (o : Outcome) → judge lent s ≡ o → Demand1 s old (code o) (value o) (lent_after o old)
  demand_1_of byte (refused n p) e =
      let some = over_zero n p e in
      record {
        refused_exactly = λ m q. (
          (λ r. (refused_exactly version1 later result lent s m q).0 (e ∙ ap (λ (k : ℕ). refused k p) r.code_is ∙ ap (refused m) r.value_is)),
          (λ f. let same : refused n p ≡ refused m q = sym e ∙ (refused_exactly version1 later result lent s m q).1 f in
              let n_is : n ≡ m = cc in
              record { not_closed = omega arith; code_is = n_is; value_is = cc }),
        );
        closed_exactly = (
          (λ z. absurd (omega arith)),
          (λ none. let same : refused n p ≡ closed (result s) = sym e ∙ (closed_exactly version1 later result lent s (result s)).1 (none, refl) in
              let z : ◌≡◌ {A = ℕ} 0 1 = cc in
              absurd (omega arith)),
        );
        refused_stays = λ h. refl;
        refused_fits = λ h. let f = place_small version1 version1_encodable lent s byte p n e in omega arith;
        closed_complete = λ z. absurd (omega arith);
        as_many = refl;
      }
  demand_1_of byte (closed b) e = record {
    refused_exactly = λ m q. (
      (λ r. absurd (omega arith)),
      (λ f. let same : closed b ≡ refused m q = sym e ∙ (refused_exactly version1 later result lent s m q).1 f in
          let z : ◌≡◌ {A = ℕ} 0 1 = cc in
          absurd (omega arith)),
    );
    closed_exactly = ((λ z. passed version1 version1_encodable lent s b e), (λ none. refl));
    refused_stays = λ h. absurd (omega arith);
    refused_fits = λ h. absurd (omega arith);
    closed_complete = λ z. complete lent s b e old;
    as_many = kept version1 version1_encodable lent s b e old refl;
  }

  pub demand_1 : get_or s 2 0 < 256 → Demand1 s old (code (judge lent s)) (value (judge lent s)) (lent_after (judge lent s) old)
  demand_1 byte = demand_1_of byte (judge lent s) refl

  -- 01, demand 3, of a face that is closed
  band_of : (b : List ℕ) → judge lent s ≡ closed b → (rest : List ℕ) → wrapping s ≡ 2
      → Demand3 (setting_in s) (given_in s) (outer_positions (b ++ rest)) (hole_positions (b ++ rest))
  band_of b h rest two =
      let read = read_loops version1 version1_encodable lent s b h rest ∙ ap (map (λ (l : ResultLoop). positions l.corners)) (takes_wrapped s two) ∙ wrapped_positions s two in
      subst (λ (ls : List (List Vec3)). Demand3 (setting_in s) (given_in s) (get_or ls 0 []) (drop 1 ls)) (sym read)
      (demand3 (setting_in s) (compared s) (given_in s) (rings_whole version1 lent s (passed version1 version1_encodable lent s b h) two))

  demand_3_of : (o : Outcome) → judge lent s ≡ o → BandDemand s (code o) (lent_after o old)
  unfolding encode result_in result_of
  demand_3_of (refused n p) e =
      let some = over_zero n p e in
      record {
        all_given = loops-positions s;
        same_is = same_set s;
        path_is = λ z. absurd (omega arith);
        two_wrap = λ z. absurd (omega arith);
        band = λ z. absurd (omega arith);
      }
  demand_3_of (closed b) e =
      let free = passed version1 version1_encodable lent s b e in
      record {
        all_given = loops-positions s;
        same_is = same_set s;
        path_is = λ z. subst (λ (n : ℕ). n ≡ 1 ↔ 0 < wrapping s) (sym (ap (λ (r : List ℕ). byte_at (r ++ drop (length b) old) 1) (written version1 version1_encodable lent s b e))) (path-wraps s);
        two_wrap = λ z some. two_wrap s (free 9) (free 10) (λ none. omega arith);
        band = λ z. band_of b e (drop (length b) old);
      }

  pub demand_3 : BandDemand s (code (judge lent s)) (lent_after (judge lent s) old)
  demand_3 = demand_3_of (judge lent s) refl

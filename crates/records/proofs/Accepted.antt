-- The conditions 2 to 7 pass exactly the records that `Accepted` describes; and what then holds of the points.
use mathlib.Core.Path.{◌≡◌, refl, sym, ap, ◌∙◌}
use mathlib.Core.Logic.{◌↔◌}
use mathlib.Core.Bool.{Bool, true, false, not, ◌||◌, cond, true≢false}
use mathlib.Core.List.{List}
use Prim.Native.Nat.{ℕ, zero, suc, ◌+◌, ◌-◌, ◌*◌, ◌≤◌, ◌<◌}
use native.Mathlib.Omega.{arith}
use lib.ListN.{length}
use lib.Ieee.{binary64}
use lib.Ieee.Bits.{of_bits-fits}
use borrow.Author.Tests.{ltb-false, eqb-true, le-ltb, eq-eqb, not-false}
use Rattle.numbers.specs.declared.math.Vec2.{Vec2}
use Rattle.numbers.specs.declared.math.Vec3.{Vec3}
use Rattle.records.specs.Bytes.{◌<?◌, u16_at, number_at, real_at, uv_at, xyz_at, row_at}
use Rattle.lists.specs.Elements.{sum, All}
use Rattle.records.specs.Face.{header_size, head_reals, version, kind, loops, sense, segments, count, counts, start, points, reals, needed, real_place, parameters, positions}
use Rattle.records.specs.declared.limits.Limits.{Limits}
use Rattle.records.specs.Limits.{min_points, Range, holds, u_range, v_range, xyz_range, range}
use Rattle.records.specs.Refusals.{nowhere, at, first_from, first_where, passes, verdict, record_conditions, wrong_byte, wrong_header, too_many_loops, ends_in_counts, too_few_points, too_many_points, wrong_length, bad_real, first_bad_real}
use Rattle.records.specs.Accepted.{Accepted}
use Rattle.records.specs.Result.{Fits, FitsUv, FitsXyz}
use Rattle.records.proofs.Search.{nowhere≢at, when_fails, first_fails}
use Rattle.records.proofs.Refused.{verdict-passes}
use Rattle.records.proofs.Rows.{all_row_at}
use Rattle.records.proofs.Ranges.{range-uv, range-xyz, uv_even, uv_odd}

-- ---- bools

or_left : (a b : Bool) → (a || b) ≡ false → a ≡ false
or_left false b e = refl
or_left true b e = e

or_right : (a b : Bool) → (a || b) ≡ false → b ≡ false
or_right false b e = e
or_right true b e = absurd (true≢false e)

-- ---- from the conditions to the description

module _ (s : List ℕ) where
  header_bytes : wrong_header s ≡ nowhere → (i : ℕ) → i < header_size → wrong_byte s i ≡ false
  unfolding wrong_header
  header_bytes e = go (length s <? header_size) e
    where
      go : (b : Bool) → cond b (at (length s)) (first_where header_size (wrong_byte s)) ≡ nowhere → (i : ℕ) → i < header_size → wrong_byte s i ≡ false
      go true e = absurd (nowhere≢at (sym e))
      go false e = (first_fails (wrong_byte s) header_size).0 e

  -- the total of all loops is the running total of the last
  pub last-total : (most l : ℕ) → ((k : ℕ) → k < l → start s (suc k) ≤ most) → start s l ≤ most
  unfolding start
  last-total most zero h = omega arith
  last-total most (suc l) h = h l (omega arith)

  accepted→ : (L : Limits) → verdict (record_conditions L) s ≡ passes → Accepted L s
  unfolding too_many_loops too_few_points too_many_points wrong_length first_bad_real bad_real wrong_byte
  accepted→ L e =
      let none = (verdict-passes s (record_conditions L)).0 e in
      let byte = header_bytes (none 0) in
      let segments_are = byte 4 (omega arith) in
      record {
        version_is = eqb-true (version s) 1 (not-false _ (byte 0 (omega arith)));
        kind_is = ltb-false 4 (kind s) (byte 1 (omega arith));
        loops_are = ltb-false L.loops (loops s) ((when_fails _ (loops s)).0 (none 1));
        sense_is = ltb-false 1 (sense s) (byte 3 (omega arith));
        some_segments = ltb-false (segments s) 1 (or_left _ _ segments_are);
        few_segments = ltb-false 64 (segments s) (or_right (segments s <? 1) _ segments_are);
        each_loop = λ k l. ltb-false (count s k) min_points ((first_fails (λ i. count s i <? min_points) (loops s)).0 (none 3) k l);
        total = last-total L.points (loops s)
            (λ k l. ltb-false L.points (start s (suc k)) ((first_fails (λ i. L.points <? start s (suc i)) (loops s)).0 (none 4) k l));
        whole = eqb-true (length s) (needed s) (not-false _ ((when_fails _ (needed s)).0 (none 5)));
        in_range = λ i l. not-false _ ((first_fails (bad_real s) (reals s)).0 (none 6) i l);
      }

  -- ---- and back

  start_up : (k n : ℕ) → start s k ≤ start s (k + n)
  unfolding start
  start_up k zero = let e : k + 0 ≡ k = omega arith in rw e (omega arith)
  start_up k (suc n) = let e : k + suc n ≡ suc (k + n) = omega arith in let h = start_up k n in rw e (omega arith)

  -- a running total is at most that of all loops
  pub start-below : (k n : ℕ) → k ≤ n → start s k ≤ start s n
  start-below k n h = let e : k + (n - k) ≡ n = omega arith in rw e at (start_up k (n - k))

  module _ (L : Limits) (a : Accepted L s) where
    header_right : wrong_header s ≡ nowhere
    unfolding wrong_header wrong_byte first_from
    header_right =
        let w = a.whole in
        rw (
          le-ltb (length s) 5 (omega arith),
          eq-eqb (version s) 1 a.version_is,
          le-ltb 4 (kind s) a.kind_is,
          le-ltb 1 (sense s) a.sense_is,
          le-ltb (segments s) 1 a.some_segments,
          le-ltb 64 (segments s) a.few_segments,
        )

    accepted← : verdict (record_conditions L) s ≡ passes
    unfolding verdict too_many_loops ends_in_counts too_few_points too_many_points wrong_length first_bad_real bad_real
    accepted← =
        let w = a.whole in
        let enough = (first_fails (λ i. count s i <? min_points) (loops s)).1 (λ k h. le-ltb (count s k) min_points (a.each_loop k h)) in
        let fits = (first_fails (λ i. L.points <? start s (suc i)) (loops s)).1
        (λ k h. le-ltb L.points (start s (suc k)) (let u = start-below (suc k) (loops s) h in let v = a.total in omega arith)) in
        let right = (first_fails (bad_real s) (reals s)).1 (λ i h. ap not (a.in_range i h)) in
        rw (
          header_right,
          le-ltb L.loops (loops s) a.loops_are,
          le-ltb (length s) (header_size + 2 * loops s) (omega arith),
          enough,
          fits,
          eq-eqb (length s) (needed s) w,
          right,
        )

  pub accepted_exactly : (L : Limits) → verdict (record_conditions L) s ≡ passes ↔ Accepted L s
  accepted_exactly L = (accepted→ L, accepted← L)

-- ---- the points of an accepted record

pub record InRangeUv (kind : ℕ) (p : Vec2) : Type 0 where
  pub u : holds (u_range kind) p.u ≡ true
  pub v : holds (v_range kind) p.v ≡ true

pub record InRangeXyz (p : Vec3) : Type 0 where
  pub x : holds xyz_range p.x ≡ true
  pub y : holds xyz_range p.y ≡ true
  pub z : holds xyz_range p.z ≡ true

module _ {L : Limits} (s : List ℕ) (a : Accepted L s) where
  -- real i stands at place p and has range R
  in_range-at : (i p : ℕ) (R : Range) → i < reals s → range (kind s) (points s) i ≡ R → real_place s i ≡ p → holds R (real_at s p) ≡ true
  in_range-at i p R h e f = rw (e, f) at (a.in_range i h)

  pub parameters_in_range : All (InRangeUv (kind s)) (parameters s)
  unfolding parameters uv_at
  parameters_in_range = all_row_at uv_at 16 s (InRangeUv (kind s)) (real_place s head_reals) (points s) (λ j h. record {
    u = in_range-at (head_reals + 2 * j) _ _ (omega arith) (range-uv (kind s) (points s) (2 * j) (omega arith) ∙ uv_even (kind s) (2 * j) (omega arith)) (omega arith);
    v = in_range-at (head_reals + (2 * j + 1)) _ _ (omega arith) (range-uv (kind s) (points s) (2 * j + 1) (omega arith) ∙ uv_odd (kind s) (2 * j + 1) (omega arith)) (omega arith);
  })

  pub positions_in_range : All InRangeXyz (positions s)
  unfolding positions xyz_at
  positions_in_range =
      let n : ℕ = points s in
      let first : ℕ = head_reals + 2 * n in
      all_row_at xyz_at 24 s InRangeXyz (real_place s first) n (λ j h. record {
        x = in_range-at (first + 3 * j) _ _ (omega arith) (range-xyz (kind s) n (3 * j)) (omega arith);
        y = in_range-at (first + (3 * j + 1)) _ _ (omega arith) (range-xyz (kind s) n (3 * j + 1)) (omega arith);
        z = in_range-at (first + (3 * j + 2)) _ _ (omega arith) (range-xyz (kind s) n (3 * j + 2)) (omega arith);
      })

-- ---- the points of any record

module _ (s : List ℕ) where
  -- what is read is a double
  pub real-fits : (p : ℕ) → Fits (real_at s p)
  unfolding real_at
  real-fits p = of_bits-fits binary64 (number_at 8 s p)

  pub parameters_fit : All FitsUv (parameters s)
  unfolding parameters uv_at
  parameters_fit = all_row_at uv_at 16 s FitsUv _ (points s) (λ j h. record { u = real-fits _; v = real-fits _ })

  pub positions_fit : All FitsXyz (positions s)
  unfolding positions xyz_at
  positions_fit = all_row_at xyz_at 24 s FitsXyz _ (points s) (λ j h. record { x = real-fits _; y = real-fits _; z = real-fits _ })

  sum-from : (k n : ℕ) → start s k + sum (row_at u16_at 2 s (header_size + 2 * k) n) ≡ start s (k + n)
  unfolding row_at sum start
  sum-from k zero = let e : k + 0 ≡ k = omega arith in rw e (omega arith)
  sum-from k (suc n) =
      let e : k + suc n ≡ suc k + n = omega arith in
      let f : header_size + 2 * k + 2 ≡ header_size + 2 * suc k = omega arith in
      let h = sum-from (suc k) n in
      rw (e, f) (omega arith)

  -- all points are the sum of the counts
  pub points-sum : points s ≡ sum (counts s)
  unfolding counts start
  points-sum =
      let h = sum-from 0 (loops s) in
      let e : 0 + loops s ≡ loops s = omega arith in
      let g : start s (0 + loops s) ≡ start s (loops s) = ap (start s) e in
      omega arith

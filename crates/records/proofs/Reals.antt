-- Refusal 7, as the code looks for it: in three parts, each a loop over the reals from `first` on.
use mathlib.Core.Path.{◌≡◌, sym, ap, ◌∙◌}
use mathlib.Core.Bool.{Bool, true, false, ◌&&◌, not, cond}
use mathlib.Core.List.{List}
use Prim.Native.Nat.{ℕ, suc, ◌+◌, ◌-◌, ◌*◌, ◌≤◌, ◌<◌}
use native.Mathlib.Omega.{arith}
use lib.Ieee.{Float, le}
use Rattle.records.specs.Bytes.{real_at}
use Rattle.records.specs.Face.{head_reals, kind, points, reals, real_place}
use Rattle.records.specs.Limits.{holds, range}
use Rattle.records.specs.Ranges.{range_of}
use Rattle.records.specs.declared.real_ranges.Range.{Range as Held}
use Rattle.records.specs.Refusals.{Place, nowhere, at, first_from, bad_real, first_bad_real}
use Rattle.records.proofs.Search.{or_else, split}
use Rattle.records.proofs.Ranges.{contained}

-- ---- one part of m reals: none of the first j is bad

pub record Scan (s : List ℕ) (first m j : ℕ) : Type 0 where
  pub far : j ≤ m
  pub is : first_from (bad_real s) first m ≡ first_from (bad_real s) (first + j) (m - j)

module _ (s : List ℕ) (first m : ℕ) where
  pub scan_start : Scan s first m 0
  scan_start = let e : first + 0 ≡ first = omega arith in let f : m - 0 ≡ m = omega arith in record { far = omega arith; is = rw (e, f) }

  module _ {j : ℕ} (w : Scan s first m j) where
    pub scan_end : m ≤ j → nowhere ≡ first_from (bad_real s) first m
    unfolding first_from
    scan_end h = let e : m - j ≡ 0 = omega arith in sym (w.is ∙ rw e)

    -- x is real j of the part, r its range, and h says whether x is in it
    module _ {p : ℕ} {h : Bool} {x : Float} (r : Held) (l : j < m) (ep : p ≡ real_place s (first + j)) (ex : x ≡ real_at s p)
        (er : range_of r ≡ range (kind s) (points s) (first + j)) (eh : h ≡ (le r.low x && le x r.high)) where
      tested : bad_real s (first + j) ≡ not h
      unfolding bad_real
      tested = ap not (sym (eh ∙ contained (kind s) (points s) (first + j) r x er
          ∙ ap (holds (range (kind s) (points s) (first + j))) (ex ∙ ap (real_at s) ep)))

      ahead : first_from (bad_real s) first m ≡ cond (not h) (at (first + j)) (first_from (bad_real s) (first + (j + 1)) (m - (j + 1)))
      unfolding first_from
      ahead =
          let e : m - j ≡ suc (m - (j + 1)) = omega arith in
          let f : suc (first + j) ≡ first + (j + 1) = omega arith in
          w.is ∙ rw (e, f, tested)

      pub scan_found : h ≡ false → at (first + j) ≡ first_from (bad_real s) first m
      scan_found e = sym (ahead ∙ rw e)

      pub scan_turn : h ≡ true → Scan s first m (j + 1)
      scan_turn e = record { far = omega arith; is = ahead ∙ rw e }

-- ---- the parts together

module _ (s : List ℕ) where
  abbrev part : ℕ → ℕ → Place
  part first m = first_from (bad_real s) first m

  abbrev uv_part : Place
  uv_part = part head_reals (2 * points s)

  abbrev xyz_part : Place
  xyz_part = part (head_reals + 2 * points s) (3 * points s)

  pub parts : first_bad_real s ≡ or_else (part 0 head_reals) (or_else uv_part xyz_part)
  unfolding first_bad_real
  parts =
      let n = points s in
      let all : reals s ≡ head_reals + (2 * n + 3 * n) = omega arith in
      ap (first_from (bad_real s) 0) all
      ∙ split (bad_real s) 0 head_reals (2 * n + 3 * n)
      ∙ ap (or_else (part 0 head_reals)) (split (bad_real s) head_reals (2 * n) (3 * n))

  pub found_head : (i : ℕ) → at i ≡ part 0 head_reals → at i ≡ first_bad_real s
  found_head i e = sym (parts ∙ rw (← e))

  module _ (h : nowhere ≡ part 0 head_reals) where
    pub found_uv : (i : ℕ) → at i ≡ uv_part → at i ≡ first_bad_real s
    found_uv i e = sym (parts ∙ rw (← h, ← e))

    pub found_xyz : (p : Place) → nowhere ≡ uv_part → p ≡ xyz_part → p ≡ first_bad_real s
    found_xyz p l e = sym (parts ∙ rw (← h, ← l, ← e))

-- what the parts' answers say of the whole
pub ruleset of_parts = (found_head, found_uv, found_xyz)

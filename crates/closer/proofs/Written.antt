-- A result that a table holds is written whole; a refusal writes nothing.
use Prim.Native.Nat.{ℕ, zero, suc, ◌≤◌}
use mathlib.Core.Path.{◌≡◌, refl, sym, ap, ◌∙◌}
use mathlib.Core.Bool.{Bool, true, false, cond}
use mathlib.Core.List.{List, [], ◌∷◌, ◌++◌}
use native.Mathlib.Omega.{arith}
use borrow.Author.Tests.{lt-ltb, le-leb}
use lib.Ieee.{Float}
use lib.ListN.{length, take, length-map}
use Rattle.numbers.specs.declared.math.Vec3.{Vec3}
use Rattle.tables.specs.Corners.{Corner, uv_of}
use Rattle.tables.specs.Rows.{rows}
use Rattle.tables.specs.declared.corners.Corner.{Corner as Held}
use Rattle.records.specs.Bytes.{◌=?◌}
use Rattle.lists.specs.Elements.{sum, All, none, and}
use Rattle.records.specs.Call.{Outcome, refused, closed, lent_after}
use Rattle.records.specs.Face.{loops, points}
use Rattle.records.specs.Lent.{filled_if}
use Rattle.records.specs.declared.limits.Limits.{Limits}
use Rattle.records.specs.Encodable.{Encodable}
use Rattle.records.specs.Refusals.{Place, nowhere, at, Condition, passes, refuse_at, verdict}
use Rattle.records.specs.Result.{Short, Writable, encode, corners_of, count_of, area_of, result_of}
use Rattle.records.proofs.RoundTrip.{length-encode, encode-fits}
use Rattle.results.specs.declared.Path.{Path}
use Rattle.results.specs.declared.Path.TheVariants.{Closed as Closes, Wrapped, Whole}
use Rattle.std.specs.Prelude.{Option, Result, Ok, Err}
use Rattle.std.specs.Bool.{then_some}
use Rattle.std.specs.Option.{unwrap_or}
use Rattle.records.specs.declared.refusal.Refusal.{Refusal}
use Rattle.records.specs.Answers.{refusal_number, refusal_place}
use Rattle.results.specs.Written.{path_of, table_result, all_short, header_holds, length_of, result_fits, WrittenTo}
use Rattle.results.proofs.Given.{table_loops}
use Rattle.call.specs.Face.{wrapping}
use Rattle.call.specs.Judge.{result}
use Rattle.call.specs.Later.{strip_points}
use Rattle.call.specs.Paths.{path_in, result_loops, result_in}
use Rattle.call.proofs.Written.{result_fine, result_writable}
use Rattle.filling.specs.Filled.{HoldsResult, path_taken}
use Rattle.closer.specs.Returned.{Tells}

-- r is answered, and the lent bytes, which were `old`, are `new`
pub record AnswersTo (o : Outcome) (r : Result ℕ Refusal) (old new : List ℕ) : Type 0 where
  pub answer : Tells r o
  pub lent : new ≡ lent_after o old

-- what is answered and left where the judgement is a refusal
pub refused_by : (o : Outcome) (r : Refusal) → o ≡ refused (refusal_number r) (refusal_place r) → (old : List ℕ) → AnswersTo o (Err r) old old
refused_by o r e old = record { answer = rw e (refl, refl); lent = sym (ap (λ (j : Outcome). lent_after j old) e) }

-- ---- what filling tells

pub path-taken : (s : List ℕ) → path_of (path_taken s) ≡ path_in s
unfolding path_taken path_in
path-taken s = by_tests (loops s =? 0) (wrapping s =? 0)
  where
    by_tests : (a b : Bool) → path_of (cond a Whole (cond b Closes Wrapped)) ≡ cond a 2 (cond b 0 1)
    by_tests true b = refl
    by_tests false true = refl
    by_tests false false = refl

-- where all conditions pass, the first of them do
pub first_passes : (s : List ℕ) (ds cs : List Condition) → verdict (cs ++ ds) s ≡ passes → verdict cs s ≡ passes
unfolding verdict
first_passes s ds [] e = refl
first_passes s ds (c ∷ cs) e = by_place (c.place s) e (first_passes s ds cs)
  where
    by_place : (q : Place) → refuse_at q c.number (verdict (cs ++ ds) s) ≡ passes → (verdict (cs ++ ds) s ≡ passes → verdict cs s ≡ passes)
        → refuse_at q c.number (verdict cs s) ≡ passes
    by_place nowhere h ih = ih h
    by_place (at k) h ih = absurd (let z : ◌≡◌ {A = ℕ} 0 1 = cc in omega arith)

-- ---- writing

short_all : {counts : List ℕ} → All Short counts → all_short counts ≡ true
unfolding all_short
short_all none = refl
short_all (and {a} h hs) = rw (lt-ltb a 65536 h, short_all hs)

-- a list whose front of n has n elements has n
pub front_full : {A : Type 0} (n : ℕ) (l : List A) → length (take n l) ≡ n → n ≤ length l
front_full zero l e = omega arith
front_full (suc n) [] e = absurd (omega arith)
front_full (suc n) (a ∷ l) e = let h = front_full n l (omega arith) in omega arith

module _ (L : Limits) (encodable : Encodable L) (s : List ℕ) (few_loops : loops s ≤ L.loops) (few_points : points s ≤ L.points)
    (short_strip : (wrapping s ≡ 0 → ⊥) → strip_points s ≤ L.strip)
    (path : Path) (path_is : path_of path ≡ path_in s) (counts : List ℕ) (areas : List Float) (t : List Held) (h : HoldsResult (result_loops s) counts areas t)
    (out : List ℕ) (lent : L.result ≤ length out) where
  writable : Writable (result_in s)
  writable = result_writable L encodable s few_loops few_points short_strip

  result_is : table_result (path_of path) counts areas (rows t) ≡ result_in s
  unfolding result_in
  result_is =
      table_loops (result_loops s) (path_of path) counts areas (rows t) h.counts_are h.areas_are h.corners_are
      ∙ ap (λ (p : ℕ). result_of uv_of (λ (c : Corner Vec3). c.at) p (result_loops s)) path_is

  counts_in_lem : (result_in s).counts ≡ counts
  unfolding result_in result_of
  counts_in_lem = sym h.counts_are

  header : header_holds counts ≡ true
  unfolding header_holds
  header =
      let e = ap length counts_in_lem in
      let a = writable.outer in
      let b = writable.few in
      rw (le-leb 1 (length counts) (omega arith), le-leb (length counts) 256 (omega arith), ap all_short (sym counts_in_lem) ∙ short_all writable.short)

  long : length (result s) ≡ length_of counts
  long = length-encode (result_in s) writable ∙ ap length_of counts_in_lem

  short : length (result s) ≤ L.result
  unfolding result_in result_of
  short =
      let f = result_fine L encodable s few_loops few_points short_strip in
      encode-fits (result_in s) writable L encodable (let a = f.few in let b = length-map (result_loops s) count_of in omega arith) f.corners

  corners_there : sum counts ≤ length (rows t)
  unfolding result_in result_of
  corners_there =
      front_full (sum counts) (rows t) (ap length h.corners_are ∙ sym (length-map (corners_of (result_loops s)) (λ (c : Corner Vec3). c.at)) ∙ writable.a_position_each ∙ ap sum counts_in_lem)

  areas_there : length counts ≤ length areas
  areas_there =
      front_full (length counts) areas (ap length h.areas_are ∙ length-map (result_loops s) area_of ∙ sym (length-map (result_loops s) count_of) ∙ ap length (sym h.counts_are))

  fits : result_fits counts (length areas) (length (rows t)) (length out) ≡ true
  unfolding result_fits
  fits =
      let m = long in
      let n = short in
      rw (header, le-leb (length_of counts) (length out) (omega arith), le-leb (length counts) (length areas) areas_there, le-leb (sum counts) (length (rows t)) corners_there)

  pub result-written : (new : List ℕ) (w : Option ℕ) (k : ℕ) → WrittenTo path counts areas t out new w → k ≡ unwrap_or w 0 → AnswersTo (closed (result s)) (Ok k) out new
  unfolding filled_if
  result-written new w k wr e = record {
    answer = e ∙ ap (λ (o : Option ℕ). unwrap_or o 0) (wr.answer ∙ ap (λ (t : Bool). then_some t (length_of counts)) fits) ∙ sym long;
    lent = wr.is ∙ (λ i. filled_if (fits i) (encode (result_is i)) out);
  }

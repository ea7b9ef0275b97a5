-- What filling a face answers, and what the lent table, counts and areas then hold: the result outside bytes.
use Rattle.std.specs.Prelude.{ℕ, ◌≡◌, cond, List, map, Float, length, take, Result, IfOk}
use Rattle.tables.specs.Rows.{rows}
use Rattle.tables.specs.declared.corners.Corner.{Corner as Held}
use Rattle.records.specs.Bytes.{◌=?◌}
use Rattle.lists.specs.Elements.{sum}
use Rattle.records.specs.Face.{loops}
use Rattle.records.specs.declared.refusal.Refusal.{Refusal}
use Rattle.records.specs.Answers.{verdict_of}
use Rattle.records.specs.Refusals.{Verdict, passes}
use Rattle.records.specs.Result.{corners_of, count_of, area_of}
use Rattle.results.specs.declared.Path.{Path}
use Rattle.results.specs.declared.Path.TheVariants.{Closed, Wrapped, Whole}
use Rattle.call.specs.Face.{wrapping}
use Rattle.call.specs.Paths.{ResultLoop, result_loops}
use Rattle.filling.specs.declared.face.FilledFace.{FilledFace}
use Rattle.filling.specs.declared.result_loops.ResultLoops.{ResultLoops}

-- the loops of a result, outer loop first: one count and one area each, and the corners of all in the front of a table
pub record HoldsResult (ls : List ResultLoop) (counts : List ℕ) (areas : List Float) (t : List Held) : Type 0 where
  pub counts_are : counts ≡ map count_of ls
  pub areas_are : take (length counts) areas ≡ map area_of ls
  pub corners_are : take (sum counts) (rows t) ≡ corners_of ls

-- 01, "Where port and Rust part": "No loops: `full_domain_loop`. None wraps by `net_wrap`: `closed_region` .. Two wrap: `wrapped_region`."
unfoldable pub path_taken : List ℕ → Path
path_taken s = cond (loops s =? 0) Whole (cond (wrapping s =? 0) Closed Wrapped)

-- the path and how many loops the result has
abbrev pub filled_by : List ℕ → FilledFace
filled_by s = record { path = path_taken s; loops = length (result_loops s) }

-- v is what the conditions say of the record s: so it is answered, by the number of a refusal and its place. Nothing is said of what stands
-- behind the result, nor, where the face is refused, of what was lent.
pub record FillsTo (v : Verdict) (s : List ℕ) (r : Result FilledFace Refusal) (out : ResultLoops) : Type 0 where
  pub answer : verdict_of r ≡ v
  pub face : IfOk r (λ f. f ≡ filled_by s)
  pub holds : v ≡ passes → HoldsResult (result_loops s) (take (length (result_loops s)) out.counts) out.areas out.corners

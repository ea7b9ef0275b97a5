-- The whole call from its stages.
use Prim.Native.Nat.{ℕ, ◌≤◌, ◌<◌, min}
use mathlib.Core.Path.{◌≡◌, sym, ap, ◌∙◌, subst}
use mathlib.Core.List.{List, ◌++◌}
use native.Mathlib.Omega.{arith}
use mir.Syntax.{w8}
use mir.Val.{Fits}
use borrow.Author.Tests.{lt-ltb, le-ltb}
use lib.ListN.{length, get_or, take, length-map}
use Rattle.std.specs.Prelude.{Result, Ok, Err}
use Rattle.records.specs.declared.refusal.Refusal.{Refusal}
use Rattle.records.specs.declared.refusal.Refusal.TheVariants.{TooFewLent, WrongHeader}
use Rattle.records.specs.declared.limits.Limits.{Limits}
use Rattle.records.specs.Accepted.{Accepted}
use Rattle.records.specs.Answers.{refusal_number, refusal_place}
use Rattle.records.specs.Call as Call
use Rattle.records.specs.Call.{Outcome, outcome, code, value, lent_after}
use Rattle.records.specs.Encodable.{version1_encodable}
use Rattle.records.specs.Limits.{version1}
use Rattle.records.specs.Refusals.{Verdict, at, passes, refuses, Condition, NoneHolds, record_conditions, too_few_lent, wrong_header, verdict}
use Rattle.records.specs.Result.{count_of}
use Rattle.records.proofs.Refused.{verdict-passes}
use Rattle.records.proofs.Accepted.{accepted_exactly}
use Rattle.call.specs.Demands.{Demand1, BandDemand, WholeDemand}
use Rattle.call.specs.Judge.{all_conditions, judge, result}
use Rattle.call.specs.Paths.{result_loops}
use Rattle.call.specs.Later.{later_conditions}
use Rattle.call.proofs.Demands.{demand_1, demand_3, strip_short}
use Rattle.magnitudes.specs.Bounded.{ResultBounded}
use Rattle.magnitudes.proofs.Still.{whole_demand}
use Rattle.magnitudes.proofs.Theorem.{result_bounded}
use Rattle.results.specs.Written.{path_of, WrittenTo}
use Rattle.filling.specs.declared.face.FilledFace.{FilledFace}
use Rattle.filling.specs.declared.result_loops.ResultLoops.{ResultLoops}
use Rattle.filling.specs.Filled.{HoldsResult, FillsTo}
use Rattle.closer.specs.Returned.{Tells, code_of, value_of, WrittenBytes}
use Rattle.closer.proofs.Numbers.{code_is, value_is}
use Rattle.closer.proofs.Written.{AnswersTo, refused_by, front_full, path-taken, first_passes, result-written}

-- what the contract claims of a pair and of the lent bytes, beside its equations
abbrev Claims : (s old : List ℕ) (code value : ℕ) (new : List ℕ) → Type 0
Claims s old code value new = Demand1 s old code value new × (BandDemand s code new × (WholeDemand s code new × ResultBounded s code new))

-- the contract of the call, from what it answers and leaves; the record is one of bytes
module _ (s old : List ℕ) (byte : Fits w8 (get_or s 2 0)) where
  abbrev o : Outcome
  o = judge (length old) s

  pub promised : {r : Result ℕ Refusal} {new : List ℕ} → AnswersTo o r old new
      → Tells r o × ((new ≡ lent_after o old) × Claims s old (code_of r) (value_of r) new)
  promised {r} {new} h =
      let c = code_is o r h.answer in
      let v = value_is o r h.answer in
      let n = h.lent in
      let loops-byte : get_or s 2 0 < 256 = omega (arith, byte) in (
        h.answer,
        (n, (rw (c, v, n) (demand_1 s old loops-byte), (rw (c, n) (demand_3 s old), (rw (c, n) (whole_demand s old), rw (c, n) (result_bounded s old))))),
      )

-- the conditions of the record, by the limits of version 1: those behind refusal 1
abbrev behind_lent : List Condition
behind_lent = record_conditions version1 ++ later_conditions version1

module _ (old s : List ℕ) where
  pub too_few : (limits : Limits) → limits ≡ version1 → length old < limits.result → AnswersTo (judge (length old) s) (Err (TooFewLent limits.result)) old old
  unfolding Call.judge verdict too_few_lent
  too_few limits e h = rw e (refused_by _ (TooFewLent version1.result) (rw (lt-ltb (length old) version1.result (rw e at h))) old)

  module _ (limits : Limits) (limits_are : limits ≡ version1) (lent : limits.result ≤ length old) where
    enough : version1.result ≤ length old
    enough = rw limits_are at lent

    lent-passes : verdict (all_conditions (length old)) s ≡ verdict behind_lent s
    unfolding verdict too_few_lent
    lent-passes = rw (le-ltb (length old) version1.result enough)

    judge_is : (v : Verdict) → verdict behind_lent s ≡ v → judge (length old) s ≡ outcome v (result s)
    unfolding Call.judge
    judge_is v e = ap (λ (w : Verdict). outcome w (result s)) (lent-passes ∙ e)

    -- refusal 2 stands first behind it
    pub header_refused : (p : ℕ) → at p ≡ wrong_header s → AnswersTo (judge (length old) s) (Err (WrongHeader p)) old old
    unfolding verdict
    header_refused p is = refused_by _ (WrongHeader p) (judge_is (refuses 2 p) (rw (sym is))) old

    module _ (out : ResultLoops) where
      pub face_refused : (r : Refusal) → FillsTo (verdict behind_lent s) s (Err r) out → AnswersTo (judge (length old) s) (Err r) old old
      face_refused r f = refused_by _ r (judge_is (refuses (refusal_number r) (refusal_place r)) (sym f.answer)) old

      module _ (filled : FilledFace) (f : FillsTo (verdict behind_lent s) s (Ok filled) out) where
        passed : verdict behind_lent s ≡ passes
        passed = sym f.answer

        many : filled.loops ≡ length (result_loops s)
        many = ap (λ (k : FilledFace). k.loops) f.face

        held : HoldsResult (result_loops s) (take filled.loops out.counts) out.areas out.corners
        held = subst (λ (k : ℕ). HoldsResult (result_loops s) (take k out.counts) out.areas out.corners) (sym many) (f.holds passed)

        counts_there_lem : filled.loops ≤ length out.counts
        counts_there_lem = front_full filled.loops out.counts (ap length held.counts_are ∙ length-map (result_loops s) count_of ∙ sym many)

        free : NoneHolds (all_conditions (length old)) s
        free = (verdict-passes s (all_conditions (length old))).0 (lent-passes ∙ passed)

        accepted : Accepted version1 s
        accepted = (accepted_exactly s version1).0 (first_passes s (later_conditions version1) (record_conditions version1) passed)

        pub face-closed : (new : List ℕ) (k : ℕ) → WrittenBytes filled.path filled.loops out.counts out.areas out.corners old new k → AnswersTo (judge (length old) s) (Ok k) old new
        face-closed new k w =
            let few : min filled.loops (length out.counts) ≡ filled.loops = let c = counts_there_lem in omega arith in
            let to : WrittenTo filled.path (take filled.loops out.counts) out.areas out.corners old new w.written =
            subst (λ (m : ℕ). WrittenTo filled.path (take m out.counts) out.areas out.corners old new w.written) few w.written_to in
            subst (λ (o : Outcome). AnswersTo o (Ok k) old new) (sym (judge_is passes passed))
            (result-written version1 version1_encodable s accepted.loops_are accepted.total (strip_short version1 (length old) s free)
            filled.path (ap (λ (k : FilledFace). path_of k.path) f.face ∙ path-taken s) (take filled.loops out.counts) out.areas out.corners held old enough new w.written k to w.bytes)

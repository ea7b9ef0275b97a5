-- A list of conditions judged in two parts, and the path of a face that the refusals 8 to 11 let pass.
use Prim.Native.Nat.{ℕ, ◌≤◌, ◌<◌}
use mathlib.Core.Path.{◌≡◌, refl, sym, ap, ◌∙◌, subst}
use mathlib.Core.List.{List, [], ◌∷◌, ◌++◌, map}
use native.Mathlib.Omega.{arith}
use borrow.Author.Tests.{ne_eqb}
use lib.IntN.{ℤ}
use lib.Ieee.{Float, nan}
use lib.ListN.{length, length-map, get_or, take, replicate}
use Rattle.std.proofs.Common.{Option}
use Rattle.lists.specs.Pieces.{pieces}
use Rattle.lists.specs.Placed.{placed}
use Rattle.lists.proofs.Pieces.{length-pieces}
use Rattle.lists.proofs.Placed.{front-placed}
use Rattle.surfaces.specs.declared.patch.Patch.{Patch}
use Rattle.surfaces.specs.declared.surface.Surface.{Surface}
use Rattle.filling.specs.Band.{patch_in}
use Rattle.surfaces.specs.Domains.{u_period}
use Rattle.tables.specs.Rows.{rows}
use Rattle.tables.specs.declared.corners.Corner.{Corner as Held}
use Rattle.loop_records.specs.declared.LoopRecord.{LoopRecord}
use Rattle.loop_records.specs.Record.{no_loop}
use Rattle.records.specs.Accepted.{Accepted}
use Rattle.records.specs.Bytes.{◌=?◌}
use Rattle.records.specs.Face.{loops}
use Rattle.records.specs.Face as Record
use Rattle.records.specs.Refusals.{Place, nowhere, at, Condition, Verdict, passes, refuses, refuse_at, verdict, record_conditions}
use Rattle.records.proofs.Accepted.{accepted_exactly}
use Rattle.records.proofs.Columns.{length-counts}
use Rattle.records.proofs.Refused.{verdict-passes}
use Rattle.records.specs.Limits.{version1}
use Rattle.call.specs.Face.{surface_of, measured_in, is_wrapping, wrapping, surface_in, sense_in, loops_in, wraps_in}
use Rattle.call.specs.Paths.{signed_area}
use Rattle.call.specs.Later.{long_strip, wrapping_of, ring_conditions, strip_conditions}
use Rattle.call.proofs.Demands.{two_wrap}
use Rattle.call.proofs.Loops.{measured_many}
use Rattle.call.proofs.Sizes.{only-few}
use Rattle.measuring.specs.Head.{frame_at, options_at}
use Rattle.loop_records.specs.Loops.{records_from}
use Rattle.measuring.proofs.Heads.{frame_read, surface_read, options_read}
use Rattle.call.proofs.Judged.{wrapping_in}
use Rattle.measuring.proofs.Measured.{wraps-along, areas-along}
use Rattle.loop_records.proofs.Recorded.{length_records, read_out}
use Rattle.std.specs.Prelude.{Result, Err}
use Rattle.records.specs.declared.refusal.Refusal.{Refusal}
use Rattle.records.specs.Answers.{refusal_number, refusal_place}
use Rattle.filling.specs.declared.face.FilledFace.{FilledFace}
use Rattle.filling.specs.declared.result_loops.ResultLoops.{ResultLoops}
use Rattle.filling.specs.Filled.{FillsTo}
use Rattle.filling.specs.Stages.{ReadAs}

-- ---- conditions behind others

module _ (s : List ℕ) (ds : List Condition) where
  pub first_refuse : (cs : List Condition) (n p : ℕ) → verdict cs s ≡ refuses n p → verdict (cs ++ ds) s ≡ refuses n p
  unfolding verdict
  first_refuse [] n p e = absurd (let z : ◌≡◌ {A = ℕ} 0 1 = cc in omega arith)
  first_refuse (c ∷ cs) n p e = by_place (c.place s) e (first_refuse cs n p)
    where
      by_place : (q : Place) → refuse_at q c.number (verdict cs s) ≡ refuses n p → (verdict cs s ≡ refuses n p → verdict (cs ++ ds) s ≡ refuses n p)
          → refuse_at q c.number (verdict (cs ++ ds) s) ≡ refuses n p
      by_place nowhere h ih = ih h
      by_place (at k) h ih = h

  pub first_pass : (cs : List Condition) → verdict cs s ≡ passes → verdict (cs ++ ds) s ≡ verdict ds s
  unfolding verdict
  first_pass [] e = refl
  first_pass (c ∷ cs) e = by_place (c.place s) e (first_pass cs)
    where
      by_place : (q : Place) → refuse_at q c.number (verdict cs s) ≡ passes → (verdict cs s ≡ passes → verdict (cs ++ ds) s ≡ verdict ds s)
          → refuse_at q c.number (verdict (cs ++ ds) s) ≡ verdict ds s
      by_place nowhere h ih = ih h
      by_place (at k) h ih = absurd (let z : ◌≡◌ {A = ℕ} 0 1 = cc in omega arith)

-- a refusal is filled so, whatever the lent tables hold
pub refused_by : (v : Verdict) (s : List ℕ) (r : Refusal) → refuses (refusal_number r) (refusal_place r) ≡ v → (out : ResultLoops)
    → FillsTo v s (Err r) out
refused_by v s r e out = record {
  answer = e;
  face = tt;
  holds = λ f. let d : refuses (refusal_number r) (refusal_place r) ≡ passes = e ∙ f in absurd (let z : ◌≡◌ {A = ℕ} 0 1 = cc in omega arith);
}

-- ---- cs are judged first

module _ (s : List ℕ) (cs ds : List Condition) where
  pub refused_as : (r : Refusal) → refuses (refusal_number r) (refusal_place r) ≡ verdict cs s → (out : ResultLoops)
      → FillsTo (verdict (cs ++ ds) s) s (Err r) out
  refused_as r e out = refused_by _ s r (sym (first_refuse s ds cs _ _ (sym e))) out

  pub filled_as : passes ≡ verdict cs s → (r : Result FilledFace Refusal) (out : ResultLoops) → FillsTo (verdict ds s) s r out
      → FillsTo (verdict (cs ++ ds) s) s r out
  filled_as e r out = subst (λ (v : Verdict). FillsTo v s r out) (sym (first_pass s ds cs (sym e)))

pub accepted_as : (s : List ℕ) → passes ≡ verdict (record_conditions version1) s → Accepted version1 s
accepted_as s e = (accepted_exactly s version1).0 (sym e)

-- ---- the three paths

module _ (s : List ℕ) (a : Accepted version1 s) (head : List Float) (counts : List ℕ) (t : List Held) (read : ReadAs s head counts t) where
  pub counted : length counts ≡ loops s
  counted = ap length read.counts_are ∙ length-counts s

  pub few-counts : length counts ≤ 16
  few-counts = let e = counted in let f = a.loops_are in omega arith

  pub held : pieces counts (rows t) ≡ loops_in s
  unfolding loops_in
  held = λ i. pieces (read.counts_are i) (read.corners_are i)

  pub no_loops : length counts ≡ 0 → loops s ≡ 0
  no_loops e = sym counted ∙ e

  pub some_loops : (length counts ≡ 0 → ⊥) → 0 < loops s
  some_loops h = let e = counted in omega arith

  few-wrap : wrapping s ≤ loops s
  unfolding wrapping
  few-wrap = let b = only-few is_wrapping (measured_in s) in let m = measured_many s in omega arith

  none_of_none : loops s ≡ 0 → wrapping s ≡ 0
  none_of_none e = let f = few-wrap in omega arith

  -- a face without a band has no strip
  no_strip : (wrapping s ≡ 2 → ⊥) → passes ≡ verdict (strip_conditions version1) s
  unfolding verdict long_strip
  no_strip h = rw (ne_eqb (wrapping s) 2 h)

  pub patch_in_lem : (surface : Surface) → surface ≡ surface_in s → (p : Patch) → p ≡ record { surface = surface; frame = frame_at head; options = options_at head (Record.segments s) }
      → p ≡ patch_in s
  patch_in_lem surface surface_is p e = e ∙ (λ i. record {
    surface = surface_is i;
    frame = (ap frame_at read.head_is ∙ frame_read s) i;
    options = (ap (λ (h : List Float). options_at h (Record.segments s)) read.head_is ∙ options_read s) i;
  })

  pub sense_in_lem : (sense : ℕ) → sense ≡ Record.sense s → (sense =? 1) ≡ sense_in s
  unfolding sense_in
  sense_in_lem sense sense_is = ap (λ (k : ℕ). k =? 1) sense_is

  module _ (r : Result FilledFace Refusal) (out : ResultLoops) (f : FillsTo passes s r out) where
    unwrapped : wrapping s ≡ 0 → FillsTo (verdict (strip_conditions version1) s) s r out
    unwrapped e = subst (λ (v : Verdict). FillsTo v s r out) (no_strip (λ two. omega arith)) f

    pub whole_filled : length counts ≡ 0 → FillsTo (verdict (strip_conditions version1) s) s r out
    whole_filled e = unwrapped (none_of_none (no_loops e))

  module _ (wraps : List ℤ) (wraps_are : wraps ≡ wraps_in s) (n : ℕ) (n_is : n ≡ wrapping_of wraps) where
    wrap_many : wrapping s ≡ n
    wrap_many = sym (n_is ∙ ap wrapping_of wraps_are ∙ wrapping_in s)

    pub none-wraps : n ≡ 0 → wrapping s ≡ 0
    none-wraps e = wrap_many ∙ e

    pub closed_filled : n ≡ 0 → (r : Result FilledFace Refusal) (out : ResultLoops) → FillsTo passes s r out
        → FillsTo (verdict (strip_conditions version1) s) s r out
    closed_filled e r out f = unwrapped r out f (none-wraps e)

    pub band-wraps : verdict ring_conditions s ≡ passes → (n ≡ 0 → ⊥) → wrapping s ≡ 2
    band-wraps e h = let none = (verdict-passes s ring_conditions).0 e in two_wrap s (none 1) (none 2) (λ z. h (sym wrap_many ∙ z))

  -- ---- the surface, the records and the wraps, as they are measured

  pub surface_in_lem : (kind : ℕ) → kind ≡ Record.kind s → (x y : Float) → x ≡ get_or head 9 nan → y ≡ get_or head 10 nan → (surface : Surface) → surface ≡ surface_of kind x y → surface ≡ surface_in s
  surface_in_lem kind kind_is x y x_is y_is surface e =
      e ∙ (λ i. surface_of (kind_is i) ((x_is ∙ ap (λ (h : List Float). get_or h 9 nan) read.head_is) i) ((y_is ∙ ap (λ (h : List Float). get_or h 10 nan) read.head_is) i))
      ∙ surface_read s

  module _ (surface : Surface) (surface_is : surface ≡ surface_in s) (p : Option Float) (p_is : p ≡ u_period surface)
      (records : List LoopRecord) (recorded : records ≡ placed 0 (records_from p 0 (pieces counts (rows t))) (replicate 16 no_loop)) where
    pub records_in : records ≡ placed 0 (records_from (u_period surface) 0 (pieces counts (rows t))) (replicate 16 no_loop)
    records_in = recorded ∙ ap (λ (q : Option Float). placed 0 (records_from q 0 (pieces counts (rows t))) (replicate 16 no_loop)) p_is

    module _ (l : ℕ) (l_is : l ≡ length counts) where
      -- what is read out of the records, of each loop: f of its record
      out : {B : Type 0} (f : LoopRecord → B) (b₀ b : List B) → b ≡ placed 0 (map f (take l records)) b₀ → b ≡ placed 0 (map f (records_from p 0 (pieces counts (rows t)))) b₀
      out f b₀ b e = read_out f p counts (rows t) records b₀ b few-counts recorded (e ∙ ap (λ (k : ℕ). placed 0 (map f (take k records)) b₀) l_is)

      -- f of the first records, put into the front of a lent slice, and read there
      front_read : {B : Type 0} (f : LoopRecord → B) (b₀ b : List B) → 16 ≤ length b₀ → b ≡ placed 0 (map f (take l records)) b₀
          → take l b ≡ map f (records_from p 0 (pieces counts (rows t)))
      front_read f b₀ b room e =
          let few = few-counts in
          let w : List _ = map f (records_from p 0 (pieces counts (rows t))) in
          let many : length w ≡ l = length-map (records_from p 0 (pieces counts (rows t))) f ∙ length_records p 0 (pieces counts (rows t)) ∙ length-pieces counts (rows t) ∙ sym l_is in
          (λ i. take (sym many i) (out f b₀ b e i)) ∙ front-placed w b₀ (omega arith)

      pub wraps_in_lem : (w₀ w : List ℤ) → 16 ≤ length w₀ → w ≡ placed 0 (map (λ (one : LoopRecord). one.wrap) (take l records)) w₀ → take l w ≡ wraps_in s
      wraps_in_lem w₀ w room e =
          front_read (λ (one : LoopRecord). one.wrap) w₀ w room e
          ∙ ap (λ (q : Option Float). map (λ (one : LoopRecord). one.wrap) (records_from q 0 (pieces counts (rows t)))) (p_is ∙ ap u_period surface_is)
          ∙ wraps-along s (pieces counts (rows t)) held

      pub areas_in : (m₀ m : List Float) → 16 ≤ length m₀ → m ≡ placed 0 (map (λ (one : LoopRecord). one.area) (take l records)) m₀
          → take l m ≡ map signed_area (pieces counts (rows t))
      areas_in m₀ m room e = front_read (λ (one : LoopRecord). one.area) m₀ m room e ∙ areas-along p 0 (pieces counts (rows t))

-- `split_corners_mut` lends the corners of the table and what stands behind them. The cells change their type at the
-- call, beside the machine's memory, and the code makes the pointers alone.
use mathlib.Core.Path.{◌≡◌, refl}
use Prim.Native.Nat.{ℕ, ◌+◌, ◌*◌, ◌/◌, ◌%◌, ◌^◌, ◌<◌}
use native.Mathlib.Omega.{arith}
use mathlib.Core.List.{List, [], ◌∷◌}
use lib.Dec.{lit<}
use lib.Ieee.{Float}
use lib.ListN.{length}
use seplogic.Ra.Ura.{Ura}
use mir.Syntax.{named}
use mir.Val.{Val, vstruct, vcons, vnil}
use base.Logic.{SProp, ent, sep, ex, via, emp}
use base.Fml.{Lft, GName, Share, ftrue, flft}
use prog.Model.{Model}
use prog.Routine.{Routine}
use prog.Wp.{Env, Calls, Loops, WpFn, Closed}
use types.Logic.{Logic}
use contract.Aware.{aware, aware_mono}
use contract.CodeStep.{c_enter, c_mono}
use contract.Monad.{Fun}
use contract.Running.{MachineTables, tables}
use types.Kit.{‵, ◌⊛◌, raw, some, at_ret, ◌$◌, ◌∵◌, !, qed, by, move, keep, split, split3, join, fsplit, fjoin}
use types.Kit.{feq_i, fpack, pick, suffices, frame, done}
use types.Part.{whole, sub, agg}
use types.Run.{stop, fld, hop, from, addr, lit, bin, and_then, no_more, of_opd, first, blocks, exec, returns, enter}
use types.ByLocal.{alloc_all, pass_all, free_all, look_at, look_in_at, get, get_in, sets, sets_last, env}
use denote.Builtin.{f64}
use denote.Exit.{no}
use denote.RattleType.{RattleType, Valss, owns}
use denote.Follow.{both_by}
use denote.Struct.Struct.{within}
use denote.Struct.Tuple.{tuple_type}
use denote.Struct.Declared.{shape}
use borrow.Table.Elements.{at, at_mul}
use denote.Ref.{MutBor}
use denote.Signature.{plain, mut_slice_of}
use denote.Slice.{MutSlice, Room, slice_val, mut_slice_vals, mut_slice_Tells}
use denote.Steps.{nothing}
use denote.Triple.Clauses.{Clauses}
use denote.Triple.Entry.{on_entry}
use denote.Triple.Walked.{says, Stays, stay_dropped, walk_of, ends_at, walked, Goes-spent_slice, walk_Meets}
use Rattle.tables.specs.declared.corners.Corner.{Corner}
use Rattle.views.specs.Tables.{corners_of, rest_of}
use Rattle.views.proofs.CornerRows.{whole_length, rows_count, rest_count}
use Rattle.views.proofs.CornerCells.{C, corner_view, corners_lie}
use Rattle.views.proofs.Lent.{BothLent, both_lent, lends_pair}
use Rattle.views.specs.contracts.corners.split_corners_mut as F
use Rattle.views.specs.contracts.corners.split_corners_mut.Key.{name as #self}
use Rattle.views.proofs.corners.split_corners_mut.Statement as stated
use Rattle.views.proofs.corners.split_corners_mut.Code as code

abbrev stayed : Stays (F.ended).signature.params (F.ended).kept
stayed = (stay_dropped (mut_slice_of (0 ∷ []) tt (plain (λ _. f64))) no, tt)

module _ {M : Type 1} {𝓤 : Ura M} (𝓛 : Logic 𝓤) (𝓜 : Model 𝓤 𝓛.H)
    (run : Routine → Fun 𝓤) (C' : Calls 𝓤 𝓛.H) (Λ : Loops 𝓤 𝓛.H)
    (κ : Lft) (q : Share) (b o : ℕ) (γ : GName) (xs : List Float) where
  open 𝓛 use {H}

  abbrev clauses : Clauses 𝓤 F.ended
  clauses = F.clauses 𝓛 𝓜.mem run

  abbrev t : MutBor (List Float)
  t = record { ref_ptr = (b, o); ghost_name = γ; now = xs }

  abbrev bound : (walk_of 𝓛 F.ended stayed clauses).Ghost
  bound = (((κ, tt), (q, tt), tt, (t, tt), (mut_slice_vals t, tt)), tt)

  abbrev Post : Val → SProp 𝓤
  Post = (walk_of 𝓛 F.ended stayed clauses).post bound

  abbrev ys : List Corner
  ys = corners_of xs

  roomy : Room f64 (length xs) → Room C (length ys)
  roomy rm = let e = whole_length xs in let l = rm.1 in let k = rm.0 in (omega arith, omega arith)

  roomy_rest : Room f64 (length xs) → Room f64 (length (rest_of xs))
  roomy_rest rm = let e = whole_length xs in let l = rm.1 in let k = rm.0 in (omega arith, omega arith)

  walk : Room f64 (length xs)
      → ent 𝓤 (ex 𝓤 (BothLent 𝓛 𝓜 corner_view (corners_lie 𝓛 𝓜) (named 0) κ q b o γ xs))
      (WpFn 𝓤 H C' Λ code.function (slice_val (b, o) (length xs) ∷ []) Post)
  unfolding both_by
  walk rm =
      let n : ℕ = length xs in
      let zs : List Float = rest_of xs in
      let p : ℕ = at o 40 (length ys) in
      let e = whole_length xs in let k = rm.0 in let r = rm.1 in
      let many : n / 5 ≡ length ys = rows_count xs in
      let few : n % 5 ≡ length zs = rest_count xs in
      let far : p ≡ length ys * 40 + o = at_mul o 40 (length ys) in
      let on : n / 5 * 5 * 8 + o ≡ p = omega arith in
      let fn : n < 2 ^ 64 = rm.0 in
      let fc : n / 5 < 2 ^ 64 = omega arith in
      let fm : n / 5 * 5 < 2 ^ 64 = omega arith in
      let fb : n / 5 * 5 * 8 < 2 ^ 64 = omega arith in
      let fr : n % 5 < 2 ^ 64 = omega arith in
      let halves : List RattleType = MutSlice (named 0) κ C ∷ MutSlice (named 0) κ f64 ∷ [] in
      let one : GName × GName → MutBor (List Corner) = λ δ. record { ref_ptr = (b, o); ghost_name = δ.0; now = ys } in
      let two : GName × GName → MutBor (List Float) = λ δ. record { ref_ptr = (b, p); ghost_name = δ.1; now = zs } in
      let v : Val =
      vstruct (vcons (slice_val (b, o) (n / 5)) (vcons (slice_val (b, n / 5 * 5 * 8 + o) (n % 5)) vnil)) in
      qed 𝓛 (some (both_lent 𝓛 𝓜 corner_view (corners_lie 𝓛 𝓜) (named 0) κ q b o γ xs) ∷ []) ∵ pick ! (λ δ. split3 ! $
      nothing ! $ move ! (2 ∷ 0 ∷ []) $ fjoin ! $ move ! (1 ∷ 0 ∷ []) $ fjoin ! $
      feq_i ! (List Val) (v ∷ [])
      (vstruct (vcons (slice_val (b, o) (length ys)) (vcons (slice_val (b, p) (length zs)) vnil)) ∷ [])
      (λ i. vstruct (vcons (slice_val (b, o) (many i)) (vcons (slice_val (b, on i) (few i)) vnil)) ∷ []) $ fjoin ! $
      fpack ! (Valss halves) (within (shape (tuple_type halves)) (one δ, (two δ, tt)) (v ∷ []))
      (slice_val (b, o) (length ys) ∷ [], (slice_val (b, p) (length zs) ∷ [], tt)) $
      -- [the pair; the token and the tie]
      move ! (1 ∷ []) $ split ! $
      enter ! C' Λ code.function (slice_val (b, o) n ∷ []) _ $
      alloc_all ! (λ l. pass_all ! refl ((tt, (tt, (record { fits = fn }, tt))), tt) $
      let En : Env 𝓤 H = env (code.function).locals l in
      sets ! (of_opd ! (get_in ! (fld ! refl (stop !)) (sub ! 1 refl (whole !)))) refl (tt, record { fits = fn }) $
      sets ! (bin ! (get ! refl) (lit ! tt) (lit< tt)) refl (tt, record { fits = fc }) $
      sets ! (addr ! (from ! (fld ! refl (hop ! (look_in_at ! 1 (sub ! 0 refl (whole !))) (stop !))))) refl (tt, tt) $
      first ! $ blocks ! $
      sets ! (of_opd ! (get ! refl)) refl (tt, tt) $
      sets ! (agg ! (and_then ! (get ! refl) (and_then ! (get ! refl) (no_more !)))) refl (tt, (tt, (record { fits = fc }, tt))) $
      sets ! (bin ! (get ! refl) (lit ! tt) (record { fits = fm })) refl (tt, record { fits = fm }) $
      sets ! (bin ! (get ! refl) (lit ! tt) (record { fits = fb })) refl (tt, record { fits = fb }) $
      sets ! (bin ! (get ! refl) (get ! refl) tt) refl (tt, tt) $
      sets ! (bin ! (get ! refl) (lit ! tt) (lit< tt)) refl (tt, record { fits = fr }) $
      sets ! (agg ! (and_then ! (get ! refl) (and_then ! (get ! refl) (no_more !)))) refl (tt, (tt, (record { fits = fr }, tt))) $
      sets_last ! (agg ! (and_then ! (get ! refl) (and_then ! (get ! refl) (no_more !)))) refl
      (tt, ((tt, (record { fits = fc }, tt)), ((tt, (record { fits = fr }, tt)), tt))) $
      exec ! C' Λ En code.Mir.t-5 (at_ret En Post) $
      sets ! (of_opd ! (get ! refl)) refl (tt, ((tt, (record { fits = fc }, tt)), ((tt, (record { fits = fr }, tt)), tt))) $
      returns ! (look_at ! 0 refl) $ free_all ! refl $ move ! (2 ∷ 0 ∷ 1 ∷ []) $
      -- [the pair; the token; the tie]
      suffices ! _ (ends_at 𝓛 F.ended stayed clauses bound v (one δ, two δ) (tt, tt) (tt, tt)) $
      nothing ! $ nothing ! $ fjoin ! $ join ! $ nothing ! $ move ! (2 ∷ 0 ∷ []) $ join ! $ join ! $ frame ! $
      says ! (refl, refl) $ done !))

  -- the whole of the call: the cells change their type, and then the code runs
  goes : Room f64 (length xs)
      → ent 𝓤 (aware 𝓤 H 𝓜 (C' #self (slice_val (b, o) (length xs) ∷ []) Post)) (C' #self (slice_val (b, o) (length xs) ∷ []) Post)
      → Closed 𝓤 H C' Λ #self code.function
      → ent 𝓤 (sep 𝓤 (on_entry 𝓛 (F.signature) (κ, tt) (q, tt) (t, tt) (mut_slice_vals t, tt)) (emp 𝓤))
      (C' #self (slice_val (b, o) (length xs) ∷ []) Post)
  goes rm enters closed =
      let E : SProp 𝓤 = ex 𝓤 (BothLent 𝓛 𝓜 corner_view (corners_lie 𝓛 𝓜) (named 0) κ q b o γ xs) in
      let vs : List Val = slice_val (b, o) (length xs) ∷ [] in
      via 𝓤 (aware 𝓤 H 𝓜 E)
      (qed 𝓛
      (((‵ (flft κ q) ⊛ ‵ ftrue) ⊛ ‵ (owns (MutSlice (named 0) κ f64 ∷ []) (t, tt) (mut_slice_vals t, tt)))
      ∷ raw (emp 𝓤) ∷ []) ∵
      keep ! (0 ∷ []) $ split ! $ split ! $ move ! (2 ∷ []) $ fsplit ! $ keep ! (0 ∷ 2 ∷ []) $
      by ! (lends_pair 𝓛 𝓜 corner_view (corners_lie 𝓛 𝓜) (named 0) κ q b o γ xs (roomy rm) (roomy_rest rm) (mut_slice_vals t)))
      (via 𝓤 (aware 𝓤 H 𝓜 (C' #self vs Post))
      (aware_mono 𝓤 H 𝓜 E (C' #self vs Post)
      (via 𝓤 (WpFn 𝓤 H C' Λ code.function vs Post) (walk rm) (closed vs Post))) enters)

pub split_corners_mut_spec : {M : Type 1} → stated.statement M
split_corners_mut_spec 𝓤 𝓛 𝓜 𝓡 wired =
    let 𝓣 : MachineTables 𝓤 𝓛.H 𝓜 = tables 𝓤 𝓛.H 𝓜 𝓡 𝓡.env in
    walk_Meets 𝓛 F.ended stayed (Goes-spent_slice 𝓛 1 (0 ∷ []) tt (plain (λ _. f64)), tt)
    (F.clauses 𝓛 𝓜.mem 𝓡.returns) (𝓣.C #self) (c_mono 𝓤 𝓛.H 𝓜 𝓣.env 𝓣.C 𝓣.Λ 𝓣.follows #self)
    (walked 𝓛 F.ended stayed (F.clauses 𝓛 𝓜.mem 𝓡.returns) (𝓣.C #self)
    (λ κs. (mut_slice_vals, tt)) (λ κs. (mut_slice_Tells (named 0) κs.0 f64, tt))
    (λ κs qs bounds a g are.
    let xs : List Float = a.0.now in let b : ℕ = a.0.ref_ptr.0 in let o : ℕ = a.0.ref_ptr.1 in
    goes 𝓛 𝓜 𝓡.returns 𝓣.C 𝓣.Λ κs.0 qs.0 b o a.0.ghost_name xs are.0.0.1
    (c_enter 𝓤 𝓛.H 𝓜 𝓣.env 𝓣.C 𝓣.Λ 𝓣.follows #self (slice_val (b, o) (length xs) ∷ [])
    (Post 𝓛 𝓜 𝓡.returns 𝓣.C 𝓣.Λ κs.0 qs.0 b o a.0.ghost_name xs))
    (code.unfolded 𝓤 𝓛.H 𝓜 𝓡 wired)))

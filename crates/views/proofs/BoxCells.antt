-- Four reals side by side are a box, and back. Assumes `Logic`, and the way in `Model`.
use mathlib.Core.Path.{◌≡◌, refl, subst}
use Prim.Native.Nat.{ℕ, zero, ◌+◌}
use native.Mathlib.Omega.{arith}
use mathlib.Core.Bool.{true}
use mathlib.Core.List.{List, [], ◌∷◌, ◌++◌, map, append-nil}
use lib.Dec.{T}
use lib.Ieee
use lib.Ieee.{Float, binary64}
use lib.ListN.{length}
use seplogic.Ra.Ura.{Ura}
use base.Fraction.{full_share}
use base.Logic.{SProp, ent, sep, guard, via, mono_r, mono∗, comm∗, assoc', emp, emp∗, guard_e}
use base.Fml.{ftrue}
use mir.Syntax.{ty_array}
use mir.Val.{Val, vstruct, of_list, has_ty, WT}
use prog.Memory.{enc}
use prog.Model.{Model, elems}
use types.Logic.{Logic, sem}
use types.Kit.{‵, ◌⊛◌, raw, ◌$◌, ◌∵◌, !, qed, by, move, keep, use1, rewrite, split, fsplit, fjoin, done}
use types.SemTy.{cells}
use contract.Aware.{aware, aware_mono, aware_intro}
use denote.Builtin.{f64}
use denote.Floats.{float_Lawful, is_true}
use denote.Memory.{mem, lone, part_at, part_of}
use denote.Laws.{Is}
use denote.RattleType.{RattleType}
use denote.ArrayMemory.{elem_in}
use denote.Struct.Laws.{lawful, makes}
use denote.Struct.Parts.{Struct-parts, PartsBack}
use denote.Struct.Members.{Member, parts_at}
use borrow.Table.Elements.{at, cut_app, join_app}
use Rattle.closed_region.specs.declared.boxes.Bounds.{Bounds}
use Rattle.closed_region.specs.contracts.boxes.Bounds as bounds
use Rattle.closed_region.proofs.boxes.Bounds.TheLaws as bounds_laws
use Rattle.views.specs.BoxTables.{boxes_of, rest_of, reals_of}
use Rattle.views.proofs.Reals.{τ, val, AllFit, places, aware_both}
use Rattle.views.proofs.Retyped.{retyped}
use Rattle.views.proofs.BoxRows.{whole_length, length-reals}
use Rattle.views.proofs.View.{View, Turned, Lies}

abbrev pub C : RattleType
C = bounds.the_row

abbrev pub box_view : View
box_view = record {
  row = C;
  wide = 4;
  bytes = refl;
  items = boxes_of;
  rest = rest_of;
  reals = reals_of;
  whole = whole_length;
  many = length-reals;
}

module _ {M : Type 1} {𝓤 : Ura M} (𝓛 : Logic 𝓤) where
  open 𝓛 use {H}

  module _ (u v x y : Float) where
    abbrev c : Bounds
    c = record { ulo = u; uhi = v; vlo = x; vhi = y }

    abbrev four : List Float
    four = u ∷ v ∷ x ∷ y ∷ []

    abbrev row_val : Val
    row_val = vstruct (of_list (map val four))

    abbrev box_val : Val
    box_val = bounds_laws.lowered c

    same_cells : enc (lone C.mir) box_val ≡ enc (ty_array τ 4) row_val
    same_cells = append-nil (enc τ (val u) ++ (enc τ (val v) ++ (enc τ (val x) ++ (enc τ (val y) ++ []))))

    is_box : AllFit four → Is C c (box_val ∷ [])
    is_box fit =
        let fits : (r : Float) → T (has_ty τ (val r)) × WT (val r) → Ieee.fits binary64 r ≡ true =
        λ r t. is_true (Ieee.fits binary64 r) t.1 in (
          (val u ∷ [], (val v ∷ [], (val x ∷ [], (val y ∷ [], tt)))),
          (refl, ((refl, fits u fit.0), ((refl, fits v fit.1.0), ((refl, fits x fit.1.1.0), ((refl, fits y fit.1.1.1.0), tt))))),
        )

    -- the reals lie as the box does
    box_in : (𝓜 : Model 𝓤 H) (b o : ℕ)
        → ent 𝓤 (sem 𝓛 (cells (mem f64) four b o)) (aware 𝓤 H 𝓜 (sem 𝓛 (part_at C full_share c b o)))
    box_in 𝓜 b o =
        let us : List Val = map val four in
        let A : SProp 𝓤 = H.at full_share (ty_array τ 4) b o row_val in
        let B : SProp 𝓤 = H.at full_share (lone C.mir) b o box_val in
        let O : SProp 𝓤 = sem 𝓛 (C.own_val c (box_val ∷ [])) in
        let P : SProp 𝓤 = sem 𝓛 (part_at C full_share c b o) in
        via 𝓤 (guard 𝓤 (AllFit four) (elems 𝓤 H full_share τ b o us)) (places 𝓛 four b o)
        (guard_e 𝓤 (AllFit four) (elems 𝓤 H full_share τ b o us) (λ fit.
        let is : Is C c (box_val ∷ []) = is_box fit in
        let typed : T (has_ty (lone C.mir) box_val) × WT box_val =
        ((lawful bounds.the_type bounds_laws.the_laws 𝓛).typed c (box_val ∷ []) is).0 in
        via 𝓤 A (𝓛.laws.elems_at full_share τ b o us)
        (via 𝓤 (aware 𝓤 H 𝓜 B)
        (retyped 𝓤 H 𝓜 (ty_array τ 4) (lone C.mir) row_val box_val refl tt typed same_cells b o)
        (aware_mono 𝓤 H 𝓜 B P
        (via 𝓤 (sep 𝓤 B O)
        (via 𝓤 (sep 𝓤 (emp 𝓤) B) (emp∗ 𝓤 B)
        (via 𝓤 (sep 𝓤 B (emp 𝓤)) (comm∗ 𝓤 (emp 𝓤) B)
        (mono_r 𝓤 B (makes bounds.the_type bounds_laws.the_plain 𝓛 c (box_val ∷ []) is))))
        (elem_in 𝓛 C full_share tt c box_val b o))))))

  abbrev members : List Member
  members =
      record { row = f64; ty = τ } ∷ record { row = f64; ty = τ }
      ∷ record { row = f64; ty = τ } ∷ record { row = f64; ty = τ } ∷ []

  abbrev reals : Bounds → List Float
  reals c = c.ulo ∷ c.uhi ∷ c.vlo ∷ c.vhi ∷ []

  abbrev fields : Bounds → Float × (Float × (Float × (Float × Unit {0})))
  fields c = (c.ulo, (c.uhi, (c.vlo, (c.vhi, tt))))

  fields_out : (c : Bounds) (b o : ℕ)
      → ent 𝓤 (sem 𝓛 (part_at (bounds.the_field).row full_share (fields c) b o))
      (sem 𝓛 (cells (mem f64) (reals c) b o))
  fields_out c b o =
      let L = float_Lawful 𝓛 binary64 in
      let first : o + 0 ≡ o = omega arith in let third : o + 16 ≡ o + 8 + 8 = omega arith in
      let fourth : o + 24 ≡ o + 8 + 8 + 8 = omega arith in
      qed 𝓛 (‵ (part_at (bounds.the_field).row full_share (fields c) b o) ∷ []) ∵
      use1 𝓛
      (‵ (parts_at full_share members zero (fields c) b o) ⊛ raw (PartsBack 𝓛 full_share (bounds.the_type).name members b o))
      (Struct-parts 𝓛 full_share (bounds.the_type).name members (L, (L, (L, (L, tt)))) (fields c) b o) $
      split ! $ keep ! (0 ∷ []) $ fsplit ! $ move ! (1 ∷ []) $ fsplit ! $ move ! (1 ∷ []) $ fsplit ! $ move ! (1 ∷ []) $ fsplit ! $
      -- [vhi; nothing; vlo; uhi; ulo]
      rewrite ! 0 (λ (k : ℕ). ‵ (part_at f64 full_share c.vhi b k)) fourth refl $
      rewrite ! 2 (λ (k : ℕ). ‵ (part_at f64 full_share c.vlo b k)) third refl $
      rewrite ! 4 (λ (k : ℕ). ‵ (part_at f64 full_share c.ulo b k)) first refl $
      move ! (0 ∷ 1 ∷ []) $ fjoin ! $ move ! (1 ∷ 0 ∷ []) $ fjoin ! $
      move ! (1 ∷ 0 ∷ []) $ fjoin ! $ move ! (1 ∷ 0 ∷ []) $ fjoin ! $ done !

  -- a box lies as its reals do
  box_out : (c : Bounds) (b o : ℕ) → ent 𝓤 (sem 𝓛 (part_at C full_share c b o)) (sem 𝓛 (cells (mem f64) (reals c) b o))
  unfolding part_of
  box_out c b o = fields_out c b o

  -- so do many
  boxes_out : (cs : List Bounds) (b o : ℕ)
      → ent 𝓤 (sem 𝓛 (cells (mem C) cs b o)) (sem 𝓛 (cells (mem f64) (reals_of cs) b o))
  unfolding reals_of
  boxes_out [] b o = qed 𝓛 (‵ (cells (mem C) [] b o) ∷ []) ∵ done !
  boxes_out (c ∷ cs) b o =
      let on : o + 32 ≡ at o 8 4 = omega arith in
      qed 𝓛 (‵ (cells (mem C) (c ∷ cs) b o) ∷ []) ∵ fsplit ! $
      use1 𝓛 (‵ (cells (mem f64) (reals c) b o)) (box_out c b o) $ move ! (1 ∷ []) $
      use1 𝓛 (‵ (cells (mem f64) (reals_of cs) b (o + 32))) (boxes_out cs b (o + 32)) $
      rewrite ! 0 (λ (k : ℕ). ‵ (cells (mem f64) (reals_of cs) b k)) on refl $ move ! (1 ∷ 0 ∷ []) $
      by ! (join_app 𝓛 (mem f64) (reals c) (reals_of cs) b o)

  module _ (𝓜 : Model 𝓤 H) where
    abbrev K : SProp 𝓤 → SProp 𝓤
    K P = aware 𝓤 H 𝓜 P

    abbrev Turns : List Float → ℕ → ℕ → SProp 𝓤
    Turns xs b o = Turned 𝓛 𝓜 box_view xs b o

    few : (xs : List Float) (b o : ℕ)
        → ent 𝓤 (sem 𝓛 (cells (mem f64) xs b o)) (K (sep 𝓤 (sem 𝓛 ftrue) (sem 𝓛 (cells (mem f64) xs b o))))
    few xs b o =
        let P : SProp 𝓤 = sem 𝓛 (cells (mem f64) xs b o) in
        via 𝓤 (sep 𝓤 (sem 𝓛 ftrue) P) (emp∗ 𝓤 P) (aware_intro 𝓤 H 𝓜 (sep 𝓤 (sem 𝓛 ftrue) P))

    turns : (xs : List Float) (b o : ℕ) → ent 𝓤 (sem 𝓛 (cells (mem f64) xs b o)) (K (Turns xs b o))
    unfolding boxes_of rest_of
    turns [] b o = few [] b o
    turns (u ∷ []) b o = few (u ∷ []) b o
    turns (u ∷ v ∷ []) b o = few (u ∷ v ∷ []) b o
    turns (u ∷ v ∷ x ∷ []) b o = few (u ∷ v ∷ x ∷ []) b o
    turns (u ∷ v ∷ x ∷ y ∷ rest) b o =
        let on : at o 8 4 ≡ o + 32 = omega arith in
        let ys : List Float = u ∷ v ∷ x ∷ y ∷ [] in
        let P : SProp 𝓤 = sem 𝓛 (part_at C full_share (c u v x y) b o) in
        via 𝓤 (sep 𝓤 (sem 𝓛 (cells (mem f64) ys b o)) (sem 𝓛 (cells (mem f64) rest b (o + 32))))
        (subst
        (λ (k : ℕ). ent 𝓤 (sem 𝓛 (cells (mem f64) (ys ++ rest) b o))
        (sep 𝓤 (sem 𝓛 (cells (mem f64) ys b o)) (sem 𝓛 (cells (mem f64) rest b k)))) on
        (cut_app 𝓛 (mem f64) ys rest b o))
        (via 𝓤 (sep 𝓤 (K P) (K (Turns rest b (o + 32)))) (mono∗ 𝓤 (box_in u v x y 𝓜 b o) (turns rest b (o + 32)))
        (via 𝓤 (K (sep 𝓤 P (Turns rest b (o + 32)))) (aware_both 𝓛 𝓜 P (Turns rest b (o + 32)))
        (aware_mono 𝓤 H 𝓜 (sep 𝓤 P (Turns rest b (o + 32))) (Turns (u ∷ v ∷ x ∷ y ∷ rest) b o)
        (assoc' 𝓤 P (sem 𝓛 (cells (mem C) (boxes_of rest) b (o + 32)))
        (sem 𝓛 (cells (mem f64) (rest_of rest) b (at (o + 32) 32 (length (boxes_of rest)))))))))

    pub boxes_lie : Lies 𝓛 𝓜 box_view
    boxes_lie = record { out = boxes_out; turns = turns }

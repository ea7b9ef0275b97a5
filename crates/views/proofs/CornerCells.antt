-- Five reals side by side are a corner, and back. Assumes `Logic`, and the way in `Model`.
use mathlib.Core.Path.{◌≡◌, refl, ap, subst, ◌∙◌}
use Prim.Native.Nat.{ℕ, zero, ◌+◌}
use native.Mathlib.Omega.{arith}
use mathlib.Core.Bool.{true}
use mathlib.Core.List.{List, [], ◌∷◌, ◌++◌, map, append-nil}
use lib.Dec.{T}
use lib.Ieee
use lib.Ieee.{Float, binary64}
use lib.ListN.{length}
use seplogic.Ra.Ura.{Ura}
use base.Fraction.{full_share}
use base.Logic.{SProp, ent, sep, guard, via, mono_r, mono∗, comm∗, assoc', emp, emp∗, guard_e}
use base.Fml.{ftrue}
use mir.Syntax.{ty_array}
use mir.Mem.{Cell}
use mir.Val.{Val, vstruct, of_list, has_ty, WT}
use prog.Memory.{enc}
use prog.Model.{Model, elems}
use types.Logic.{Logic, sem}
use types.Kit.{‵, ◌⊛◌, raw, ◌$◌, ◌∵◌, !, qed, by, move, keep, use1, rewrite, split, fsplit, fjoin, done}
use types.SemTy.{cells}
use contract.Aware.{aware, aware_mono, aware_intro}
use denote.Builtin.{f64}
use denote.Floats.{float_Lawful, is_true}
use denote.Memory.{mem, lone, part_at, part_of}
use denote.Laws.{Is}
use denote.RattleType.{RattleType}
use denote.ArrayMemory.{elem_in}
use denote.Struct.Laws.{lawful, makes}
use denote.Struct.Parts.{Struct-parts, PartsBack}
use denote.Struct.Members.{Member, parts_at}
use borrow.Table.Elements.{at, cut_app, join_app}
use Rattle.numbers.specs.declared.math.Vec3.{Vec3}
use Rattle.tables.specs.declared.corners.Corner.{Corner}
use Rattle.numbers.specs.contracts.math.Vec3 as vec
use Rattle.tables.specs.contracts.corners.Corner as corner
use Rattle.numbers.proofs.math.Vec3.TheLaws as vec_laws
use Rattle.tables.proofs.corners.Corner.TheLaws as corner_laws
use Rattle.views.specs.Tables.{corners_of, rest_of, reals_of}
use Rattle.views.proofs.Reals.{τ, val, AllFit, places, aware_both}
use Rattle.views.proofs.Retyped.{retyped}
use Rattle.views.proofs.CornerRows.{whole_length, length-reals}
use Rattle.views.proofs.View.{View, Turned, Lies}

abbrev pub C : RattleType
C = corner.the_row

abbrev pub corner_view : View
corner_view = record {
  row = C;
  wide = 5;
  bytes = refl;
  items = corners_of;
  rest = rest_of;
  reals = reals_of;
  whole = whole_length;
  many = length-reals;
}

module _ {M : Type 1} {𝓤 : Ura M} (𝓛 : Logic 𝓤) where
  open 𝓛 use {H}

  module _ (u v x y z : Float) where
    abbrev c : Corner
    c = record { u = u; v = v; at = record { x = x; y = y; z = z } }

    abbrev five : List Float
    five = u ∷ v ∷ x ∷ y ∷ z ∷ []

    abbrev row_val : Val
    row_val = vstruct (of_list (map val five))

    abbrev corner_val : Val
    corner_val = corner_laws.lowered c

    same_cells : enc (lone C.mir) corner_val ≡ enc (ty_array τ 5) row_val
    same_cells =
        let U : List Cell = enc τ (val u) in let V : List Cell = enc τ (val v) in
        let W : List Cell = enc τ (val x) ++ (enc τ (val y) ++ (enc τ (val z) ++ [])) in
        append-nil (U ++ (V ++ ((W ++ []) ++ [])))
        ∙ ap (λ (l : List Cell). U ++ (V ++ l)) (append-nil (W ++ []) ∙ append-nil W)

    is_corner : AllFit five → Is C c (corner_val ∷ [])
    is_corner fit =
        let fits : (r : Float) → T (has_ty τ (val r)) × WT (val r) → Ieee.fits binary64 r ≡ true =
        λ r t. is_true (Ieee.fits binary64 r) t.1 in (
          (val u ∷ [], (val v ∷ [], (vec_laws.lowered c.at ∷ [], tt))),
          (
            refl,
            (
              (refl, fits u fit.0),
              (
                (refl, fits v fit.1.0),
                (
                  (
                    (val x ∷ [], (val y ∷ [], (val z ∷ [], tt))),
                    (refl, ((refl, fits x fit.1.1.0), ((refl, fits y fit.1.1.1.0), ((refl, fits z fit.1.1.1.1.0), tt)))),
                  ),
                  tt,
                ),
              ),
            ),
          ),
        )

    -- the reals lie as the corner does
    corner_in : (𝓜 : Model 𝓤 H) (b o : ℕ)
        → ent 𝓤 (sem 𝓛 (cells (mem f64) five b o)) (aware 𝓤 H 𝓜 (sem 𝓛 (part_at C full_share c b o)))
    corner_in 𝓜 b o =
        let us : List Val = map val five in
        let A : SProp 𝓤 = H.at full_share (ty_array τ 5) b o row_val in
        let B : SProp 𝓤 = H.at full_share (lone C.mir) b o corner_val in
        let O : SProp 𝓤 = sem 𝓛 (C.own_val c (corner_val ∷ [])) in
        let P : SProp 𝓤 = sem 𝓛 (part_at C full_share c b o) in
        via 𝓤 (guard 𝓤 (AllFit five) (elems 𝓤 H full_share τ b o us)) (places 𝓛 five b o)
        (guard_e 𝓤 (AllFit five) (elems 𝓤 H full_share τ b o us) (λ fit.
        let is : Is C c (corner_val ∷ []) = is_corner fit in
        let typed : T (has_ty (lone C.mir) corner_val) × WT corner_val =
        ((lawful corner.the_type corner_laws.the_laws 𝓛).typed c (corner_val ∷ []) is).0 in
        via 𝓤 A (𝓛.laws.elems_at full_share τ b o us)
        (via 𝓤 (aware 𝓤 H 𝓜 B)
        (retyped 𝓤 H 𝓜 (ty_array τ 5) (lone C.mir) row_val corner_val refl tt typed same_cells b o)
        (aware_mono 𝓤 H 𝓜 B P
        (via 𝓤 (sep 𝓤 B O)
        (via 𝓤 (sep 𝓤 (emp 𝓤) B) (emp∗ 𝓤 B)
        (via 𝓤 (sep 𝓤 B (emp 𝓤)) (comm∗ 𝓤 (emp 𝓤) B)
        (mono_r 𝓤 B (makes corner.the_type corner_laws.the_plain 𝓛 c (corner_val ∷ []) is))))
        (elem_in 𝓛 C full_share tt c corner_val b o))))))

  abbrev vec_members : List Member
  vec_members = record { row = f64; ty = τ } ∷ record { row = f64; ty = τ } ∷ record { row = f64; ty = τ } ∷ []

  abbrev members : List Member
  members =
      record { row = f64; ty = τ } ∷ record { row = f64; ty = τ }
      ∷ record { row = (vec.the_field).row; ty = lone (vec.the_row).mir } ∷ []

  vec_out : (p : Vec3) (b o : ℕ)
      → ent 𝓤 (sem 𝓛 (part_at (vec.the_field).row full_share (p.x, (p.y, (p.z, tt))) b o))
      (sem 𝓛 (cells (mem f64) (p.x ∷ p.y ∷ p.z ∷ []) b o))
  vec_out p b o =
      let L = float_Lawful 𝓛 binary64 in
      let first : o + 0 ≡ o = omega arith in let third : o + 16 ≡ o + 8 + 8 = omega arith in
      qed 𝓛 (‵ (part_at (vec.the_field).row full_share (p.x, (p.y, (p.z, tt))) b o) ∷ []) ∵
      use1 𝓛
      (‵ (parts_at full_share vec_members zero (p.x, (p.y, (p.z, tt))) b o)
      ⊛ raw (PartsBack 𝓛 full_share (vec.the_type).name vec_members b o))
      (Struct-parts 𝓛 full_share (vec.the_type).name vec_members (L, (L, (L, tt))) (p.x, (p.y, (p.z, tt))) b o) $
      split ! $ keep ! (0 ∷ []) $ fsplit ! $ move ! (1 ∷ []) $ fsplit ! $ move ! (1 ∷ []) $ fsplit ! $
      -- [z; nothing; y; x]
      rewrite ! 0 (λ (k : ℕ). ‵ (part_at f64 full_share p.z b k)) third refl $
      rewrite ! 3 (λ (k : ℕ). ‵ (part_at f64 full_share p.x b k)) first refl $
      fjoin ! $ move ! (1 ∷ 0 ∷ []) $ fjoin ! $ move ! (1 ∷ 0 ∷ []) $ fjoin ! $ done !

  vec_row : (p : Vec3) (b o : ℕ)
      → ent 𝓤 (sem 𝓛 (part_at vec.the_row full_share p b o)) (sem 𝓛 (cells (mem f64) (p.x ∷ p.y ∷ p.z ∷ []) b o))
  unfolding part_of
  vec_row p b o = vec_out p b o

  abbrev reals : Corner → List Float
  reals c = c.u ∷ c.v ∷ c.at.x ∷ c.at.y ∷ c.at.z ∷ []

  abbrev fields : Corner → Float × (Float × ((Float × (Float × (Float × Unit {0}))) × Unit {0}))
  fields c = (c.u, (c.v, ((c.at.x, (c.at.y, (c.at.z, tt))), tt)))

  fields_out : (c : Corner) (b o : ℕ)
      → ent 𝓤 (sem 𝓛 (part_at (corner.the_field).row full_share (fields c) b o))
      (sem 𝓛 (cells (mem f64) (reals c) b o))
  fields_out c b o =
      let L = float_Lawful 𝓛 binary64 in
      let first : o + 0 ≡ o = omega arith in let third : o + 16 ≡ o + 8 + 8 = omega arith in
      qed 𝓛 (‵ (part_at (corner.the_field).row full_share (fields c) b o) ∷ []) ∵
      use1 𝓛
      (‵ (parts_at full_share members zero (fields c) b o) ⊛ raw (PartsBack 𝓛 full_share (corner.the_type).name members b o))
      (Struct-parts 𝓛 full_share (corner.the_type).name members
      (L, (L, ((vec_laws.the_field_laws).lawful 𝓛, tt))) (fields c) b o) $
      split ! $ keep ! (0 ∷ []) $ fsplit ! $ move ! (1 ∷ []) $ fsplit ! $ move ! (1 ∷ []) $ fsplit ! $
      -- [the vector; nothing; v; u]
      use1 𝓛 (‵ (cells (mem f64) (c.at.x ∷ c.at.y ∷ c.at.z ∷ []) b (o + 16))) (vec_out c.at b (o + 16)) $
      rewrite ! 0 (λ (k : ℕ). ‵ (cells (mem f64) (c.at.x ∷ c.at.y ∷ c.at.z ∷ []) b k)) third refl $
      rewrite ! 3 (λ (k : ℕ). ‵ (part_at f64 full_share c.u b k)) first refl $
      move ! (2 ∷ 0 ∷ []) $ fjoin ! $ move ! (2 ∷ 0 ∷ []) $ fjoin ! $ keep ! (0 ∷ []) $ done !

  -- a corner lies as its reals do
  corner_out : (c : Corner) (b o : ℕ) → ent 𝓤 (sem 𝓛 (part_at C full_share c b o)) (sem 𝓛 (cells (mem f64) (reals c) b o))
  unfolding part_of
  corner_out c b o = fields_out c b o

  -- so do many
  corners_out : (cs : List Corner) (b o : ℕ)
      → ent 𝓤 (sem 𝓛 (cells (mem C) cs b o)) (sem 𝓛 (cells (mem f64) (reals_of cs) b o))
  unfolding reals_of
  corners_out [] b o = qed 𝓛 (‵ (cells (mem C) [] b o) ∷ []) ∵ done !
  corners_out (c ∷ cs) b o =
      let on : o + 40 ≡ at o 8 5 = omega arith in
      qed 𝓛 (‵ (cells (mem C) (c ∷ cs) b o) ∷ []) ∵ fsplit ! $
      use1 𝓛 (‵ (cells (mem f64) (reals c) b o)) (corner_out c b o) $ move ! (1 ∷ []) $
      use1 𝓛 (‵ (cells (mem f64) (reals_of cs) b (o + 40))) (corners_out cs b (o + 40)) $
      rewrite ! 0 (λ (k : ℕ). ‵ (cells (mem f64) (reals_of cs) b k)) on refl $ move ! (1 ∷ 0 ∷ []) $
      by ! (join_app 𝓛 (mem f64) (reals c) (reals_of cs) b o)

  module _ (𝓜 : Model 𝓤 H) where
    abbrev K : SProp 𝓤 → SProp 𝓤
    K P = aware 𝓤 H 𝓜 P

    abbrev Turns : List Float → ℕ → ℕ → SProp 𝓤
    Turns xs b o = Turned 𝓛 𝓜 corner_view xs b o

    few : (xs : List Float) (b o : ℕ)
        → ent 𝓤 (sem 𝓛 (cells (mem f64) xs b o)) (K (sep 𝓤 (sem 𝓛 ftrue) (sem 𝓛 (cells (mem f64) xs b o))))
    few xs b o =
        let P : SProp 𝓤 = sem 𝓛 (cells (mem f64) xs b o) in
        via 𝓤 (sep 𝓤 (sem 𝓛 ftrue) P) (emp∗ 𝓤 P) (aware_intro 𝓤 H 𝓜 (sep 𝓤 (sem 𝓛 ftrue) P))

    turns : (xs : List Float) (b o : ℕ) → ent 𝓤 (sem 𝓛 (cells (mem f64) xs b o)) (K (Turns xs b o))
    unfolding corners_of rest_of
    turns [] b o = few [] b o
    turns (u ∷ []) b o = few (u ∷ []) b o
    turns (u ∷ v ∷ []) b o = few (u ∷ v ∷ []) b o
    turns (u ∷ v ∷ x ∷ []) b o = few (u ∷ v ∷ x ∷ []) b o
    turns (u ∷ v ∷ x ∷ y ∷ []) b o = few (u ∷ v ∷ x ∷ y ∷ []) b o
    turns (u ∷ v ∷ x ∷ y ∷ z ∷ rest) b o =
        let on : at o 8 5 ≡ o + 40 = omega arith in
        let ys : List Float = u ∷ v ∷ x ∷ y ∷ z ∷ [] in
        let P : SProp 𝓤 = sem 𝓛 (part_at C full_share (c u v x y z) b o) in
        via 𝓤 (sep 𝓤 (sem 𝓛 (cells (mem f64) ys b o)) (sem 𝓛 (cells (mem f64) rest b (o + 40))))
        (subst
        (λ (k : ℕ). ent 𝓤 (sem 𝓛 (cells (mem f64) (ys ++ rest) b o))
        (sep 𝓤 (sem 𝓛 (cells (mem f64) ys b o)) (sem 𝓛 (cells (mem f64) rest b k)))) on
        (cut_app 𝓛 (mem f64) ys rest b o))
        (via 𝓤 (sep 𝓤 (K P) (K (Turns rest b (o + 40)))) (mono∗ 𝓤 (corner_in u v x y z 𝓜 b o) (turns rest b (o + 40)))
        (via 𝓤 (K (sep 𝓤 P (Turns rest b (o + 40)))) (aware_both 𝓛 𝓜 P (Turns rest b (o + 40)))
        (aware_mono 𝓤 H 𝓜 (sep 𝓤 P (Turns rest b (o + 40))) (Turns (u ∷ v ∷ x ∷ y ∷ z ∷ rest) b o)
        (assoc' 𝓤 P (sem 𝓛 (cells (mem C) (corners_of rest) b (o + 40)))
        (sem 𝓛 (cells (mem f64) (rest_of rest) b (at (o + 40) 40 (length (corners_of rest)))))))))

    pub corners_lie : Lies 𝓛 𝓜 corner_view
    corners_lie = record { out = corners_out; turns = turns }

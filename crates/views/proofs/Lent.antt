-- A `&mut` of a table of reals is lent on as one of the items of its whole rows and one of what stands behind
-- them; the table's last list is the items' reals and those behind. Assumes `Logic` and `Model`.
use mathlib.Core.Path.{◌≡◌, refl, sym, ap, ◌∙◌}
use Prim.Native.Nat.{ℕ, ◌+◌, ◌*◌}
use native.Mathlib.Omega.{arith}
use mathlib.Core.List.{List, [], ◌∷◌, ◌++◌}
use lib.Ieee.{Float}
use lib.ListN.{length, length-append}
use seplogic.Ra.Ura.{Ura}
use mir.Syntax.{Lifetime}
use mir.Val.{Val}
use base.Logic.{SProp, ent, sep, ex, emp, via, mono_l}
use base.Stored.{coded_list}
use base.Fml.{Fml, Lft, GName, Share, flft, fobs, fauth, fbor, fobor}
use prog.Model.{Model}
use types.Logic.{Logic, sem}
use types.Kit.{Item, ‵, ◌⊛◌, raw, some, later, ◌$◌, ◌∵◌, !, qed, move, keep, use1, use2, drop, split, split3, group}
use types.Kit.{rewrite, fsplit, fsplit3, fjoin, feq_l, feq_i, await, updating, now, pick, show, done}
use types.SemTy.{cells, Arr, Body}
use types.Mut.{open_ref}
use types.Follow.{takes_two, after₂}
use contract.Aware.{aware, aware_mono, aware_trans, aware_frame, ⇛→aware}
use denote.Builtin.{f64}
use denote.FollowSlice.{heres_id, slice_of}
use denote.Memory.{mem}
use denote.RattleType.{RattleType}
use denote.Steps.{nothing}
use denote.Slice.{MutSlice, Room, slice_val}
use borrow.Table.Elements.{at, at_mul, join_app}
use native.Mathlib.Nat.{mul_assoc}
use Rattle.views.proofs.View.{View, Lies, Turned}

module _ {M : Type 1} {𝓤 : Ura M} (𝓛 : Logic 𝓤) (𝓜 : Model 𝓤 𝓛.H) (V : View) (lies : Lies 𝓛 𝓜 V)
    (ℓ : Lifetime) (κ : Lft) (q : Share) (b o : ℕ) (γ : GName) (xs : List Float) where
  open 𝓛 use {H, A}

  abbrev R : RattleType
  R = V.row

  abbrev s : ℕ
  s = (mem V.row).size

  abbrev ys : List V.row.Denot
  ys = V.items xs

  abbrev zs : List Float
  zs = V.rest xs

  abbrev K : SProp 𝓤 → SProp 𝓤
  K P = aware 𝓤 H 𝓜 P

  abbrev table : Fml
  table = Body (Arr (mem f64) (length xs)) b o γ

  -- the `&mut` of the table, opened, with P in the place of its cells
  abbrev Open : SProp 𝓤 → SProp 𝓤
  Open P =
      sep 𝓤 P (sep 𝓤 (A.obor κ q table)
      (sep 𝓤 (A.obs γ ((coded_list f64.coded).code xs)) (A.auth γ ((coded_list f64.coded).code xs))))

  abbrev lent_table : List Val → Fml
  lent_table vs = (MutSlice ℓ κ f64).own_val (record { ref_ptr = (b, o); ghost_name = γ; now = xs }) vs

  opens : (vs : List Val)
      → ent 𝓤 (sep 𝓤 (sem 𝓛 (lent_table vs)) (A.lft κ q)) (H.⇛ (Open (sem 𝓛 (cells (mem f64) xs b o))))
  opens vs =
      qed 𝓛 (‵ (lent_table vs) ∷ ‵ (flft κ q) ∷ []) ∵ updating ! $ fsplit3 ! $ drop ! $
      rewrite ! 0 (λ (l : List Float). ‵ (fobs γ ((coded_list f64.coded).code l))) (heres_id f64 xs) refl $
      open_ref ! tt (Arr (mem f64) (length xs)) {b = b} {o = o} $ fsplit ! $ drop ! $ now ! $ done !

  -- what is made of the cells by an update is made of the table, beside the memory
  turned_to : (Q : SProp 𝓤) → ent 𝓤 (Open (Turned 𝓛 𝓜 V xs b o)) (H.⇛ Q) → (vs : List Val)
      → ent 𝓤 (sep 𝓤 (sem 𝓛 (lent_table vs)) (A.lft κ q)) (K Q)
  turned_to Q h vs =
      let P : SProp 𝓤 = sem 𝓛 (cells (mem f64) xs b o) in
      let T : SProp 𝓤 = Turned 𝓛 𝓜 V xs b o in
      let F : SProp 𝓤 =
      sep 𝓤 (A.obor κ q table)
      (sep 𝓤 (A.obs γ ((coded_list f64.coded).code xs)) (A.auth γ ((coded_list f64.coded).code xs))) in
      let turned : ent 𝓤 (Open P) (K (Open T)) =
      via 𝓤 (sep 𝓤 (K T) F) (mono_l 𝓤 F (lies.turns xs b o)) (aware_frame 𝓤 H 𝓜 T F) in
      let lent : ent 𝓤 (Open T) (K Q) = via 𝓤 (H.⇛ Q) h (⇛→aware 𝓤 H 𝓜 Q) in
      via 𝓤 (H.⇛ (Open P)) (opens vs)
      (via 𝓤 (K (Open P)) (⇛→aware 𝓤 H 𝓜 (Open P))
      (via 𝓤 (K (K Q))
      (aware_mono 𝓤 H 𝓜 (Open P) (K Q)
      (via 𝓤 (K (Open T)) turned
      (via 𝓤 (K (K Q)) (aware_mono 𝓤 H 𝓜 (Open T) (K Q) lent) (aware_trans 𝓤 H 𝓜 Q))))
      (aware_trans 𝓤 H 𝓜 Q)))

  -- where what stands behind begins
  abbrev p : ℕ
  p = at o s (length ys)

  abbrev pub joined : List V.row.Denot → List Float → List Float
  joined cs rs = V.reals cs ++ rs

  abbrev pub items_of_pair : GName × GName → Fml
  items_of_pair δ =
      (MutSlice ℓ κ R).own_val
      (record { ref_ptr = (b, o); ghost_name = δ.0; now = ys }) (slice_val (b, o) (length ys) ∷ [])

  abbrev pub rest_of_pair : GName × GName → Fml
  rest_of_pair δ =
      (MutSlice ℓ κ f64).own_val
      (record { ref_ptr = (b, p); ghost_name = δ.1; now = zs }) (slice_val (b, p) (length zs) ∷ [])

  abbrev pub tie : GName × GName → Fml
  tie δ = after₂ (Arr (mem f64) 0) (Arr (mem R) 0) (Arr (mem f64) 0) γ δ.0 δ.1 joined

  -- both parts under new names, the token, and what the table ends as
  abbrev pub BothLent : GName × GName → SProp 𝓤
  BothLent δ = sep 𝓤 (sem 𝓛 (items_of_pair δ)) (sep 𝓤 (sem 𝓛 (rest_of_pair δ)) (sep 𝓤 (A.lft κ q) (sem 𝓛 (tie δ))))

  -- the same, as an item of a walk
  abbrev pub both_lent : GName × GName → Item 𝓤
  both_lent δ = ‵ (items_of_pair δ) ⊛ ‵ (rest_of_pair δ) ⊛ ‵ (flft κ q) ⊛ ‵ (tie δ)

  put_both : (ws : List V.row.Denot) (rs : List Float)
      → ent 𝓤
      (sep 𝓤 (sem 𝓛 ((Arr (mem R) (length ys)).own_at ws b o))
      (sep 𝓤 (sem 𝓛 ((Arr (mem f64) (length zs)).own_at rs b p)) (emp 𝓤)))
      (sem 𝓛 ((Arr (mem f64) (length xs)).own_at (joined ws rs) b o))
  put_both ws rs =
      qed 𝓛
      (‵ ((Arr (mem R) (length ys)).own_at ws b o) ∷ ‵ ((Arr (mem f64) (length zs)).own_at rs b p) ∷ raw (emp 𝓤) ∷ []) ∵
      fsplit ! $ feq_l ! (λ e. move ! (1 ∷ []) $ fsplit ! $ feq_l ! (λ e'.
      let whole = V.whole xs in let many = V.many ws in
      let both : length (joined ws rs) ≡ length (V.reals ws) + length rs = length-append (V.reals ws) rs in
      let far : p ≡ length ys * s + o = at_mul o s (length ys) in
      let near : at o 8 (length (V.reals ws)) ≡ length (V.reals ws) * 8 + o = at_mul o 8 (length (V.reals ws)) in
      let wide : length ys * s ≡ length (V.reals ws) * 8 =
      ap (λ (k : ℕ). k * s) (sym e) ∙ ap (λ (k : ℕ). length ws * k) V.bytes
      ∙ sym (mul_assoc (length ws) V.wide 8) ∙ ap (λ (k : ℕ). k * 8) (sym many) in
      let here : p ≡ at o 8 (length (V.reals ws)) = far ∙ ap (λ (k : ℕ). k + o) wide ∙ sym near in
      let as_many : length ws * V.wide ≡ length ys * V.wide = ap (λ (k : ℕ). k * V.wide) e in
      rewrite ! 0 (λ (k : ℕ). ‵ (cells (mem f64) rs b k)) here refl $ move ! (1 ∷ []) $
      use1 𝓛 (‵ (cells (mem f64) (V.reals ws) b o)) (lies.out ws b o) $
      use2 𝓛 (‵ (cells (mem f64) (joined ws rs) b o)) (join_app 𝓛 (mem f64) (V.reals ws) rs b o) $
      feq_i ! ℕ (length (joined ws rs)) (length xs) (omega arith) $ fjoin ! $ keep ! (0 ∷ []) $ done !))

  lends_both : Room R (length ys) → Room f64 (length zs)
      → ent 𝓤 (Open (Turned 𝓛 𝓜 V xs b o)) (H.⇛ (ex 𝓤 BothLent))
  lends_both rm rm' =
      qed 𝓛
      ((‵ (cells (mem R) ys b o) ⊛ ‵ (cells (mem f64) zs b p)) ∷ ‵ (fobor κ q table)
      ∷ ‵ (fobs γ ((coded_list f64.coded).code xs)) ∷ ‵ (fauth γ ((coded_list f64.coded).code xs)) ∷ []) ∵ updating ! $
      split ! $ feq_i ! ℕ (length ys) (length ys) refl $ fjoin ! $ move ! (1 ∷ []) $
      feq_i ! ℕ (length zs) (length zs) refl $ fjoin ! $ nothing ! $
      move ! (3 ∷ 4 ∷ 5 ∷ 2 ∷ 1 ∷ 0 ∷ []) $ group ! 6 $
      use1 𝓛
      (later (some (λ (δ : GName × GName).
      (‵ (fobs δ.0 ((coded_list R.coded).code ys)) ⊛ ‵ (fbor κ (Body (Arr (mem R) (length ys)) b o δ.0)))
      ⊛ (‵ (fobs δ.1 ((coded_list f64.coded).code zs)) ⊛ ‵ (fbor κ (Body (Arr (mem f64) (length zs)) b p δ.1)))
      ⊛ ‵ (flft κ q) ⊛ ‵ (tie δ))))
      (takes_two 𝓛 (Arr (mem f64) (length xs)) (Arr (mem R) (length ys)) (Arr (mem f64) (length zs)) joined
      κ q b o b o b p γ (emp 𝓤) put_both
      ((coded_list f64.coded).code xs) ((coded_list f64.coded).code xs) ys zs) $
      await ! tt $ pick ! (λ δ. split3 ! $
      split ! $ use2 𝓛 (‵ (items_of_pair δ)) (slice_of 𝓛 R ℓ κ b o δ.0 ys rm) $ move ! (1 ∷ []) $
      split ! $ use2 𝓛 (‵ (rest_of_pair δ)) (slice_of 𝓛 f64 ℓ κ b p δ.1 zs rm') $ move ! (1 ∷ 0 ∷ []) $
      now ! $ show ! BothLent δ $ done !)

  pub lends_pair : Room R (length ys) → Room f64 (length zs) → (vs : List Val)
      → ent 𝓤 (sep 𝓤 (sem 𝓛 (lent_table vs)) (A.lft κ q)) (K (ex 𝓤 BothLent))
  lends_pair rm rm' vs = turned_to (ex 𝓤 BothLent) (lends_both rm rm') vs

-- What is owned whole as a value of one type is owned as a value of another that lies in the same cells. No code
-- runs. Assumes `Model`.
use mathlib.Core.Path.{◌≡◌, sym, subst}
use mathlib.Core.Option.{some}
use Prim.Native.Nat.{ℕ}
use seplogic.Ra.Ura.{Ura}
use base.Fraction.{full_share}
use base.Logic.{SProp, ent, sep, ex, wand, guard, upd, id⊢, via, mono_r, fst∗, ex_e, guard_e}
use lib.Dec.{T}
use mir.Syntax.{Ty}
use mir.Val.{Val, has_ty, WT}
use prog.Memory.{Memory, size, align, divides, enc, store_m}
use prog.Wp.{Heap}
use prog.Model.{Model, Exactly}
use contract.Aware.{aware, aware_by}
use Rattle.views.proofs.Same.{store_same}

module _ {M : Type 1} (𝓤 : Ura M) (H : Heap 𝓤) (𝓜 : Model 𝓤 H) (τ τ' : Ty) (v v' : Val)
    (same_size : size τ' ≡ size τ) (aligns : T (divides (align τ') (align τ)))
    (typed : T (has_ty τ' v') × WT v') (cells : enc τ' v' ≡ enc τ v) (b o : ℕ) where
  open 𝓜 use {mem}

  pub retyped : ent 𝓤 (H.at full_share τ b o v) (aware 𝓤 H 𝓜 (H.at full_share τ' b o v'))
  retyped =
      let P : SProp 𝓤 = H.at full_share τ b o v in
      let Q : SProp 𝓤 = H.at full_share τ' b o v' in
      let X : SProp 𝓤 = H.room τ b o in
      let Y : SProp 𝓤 = H.room τ' b o in
      let stored : Memory → SProp 𝓤 = λ (μ : Memory). upd 𝓤 (sep 𝓤 (mem μ) Q) in
      aware_by 𝓤 H 𝓜 P Q (λ σ.
      via 𝓤 (guard 𝓤 (Exactly σ τ b o v) (sep 𝓤 (mem σ) P)) (𝓜.sees σ full_share τ b o v)
      (guard_e 𝓤 (Exactly σ τ b o v) (sep 𝓤 (mem σ) P) (λ there.
      via 𝓤 (sep 𝓤 (mem σ) Y)
      (mono_r 𝓤 (mem σ)
      (via 𝓤 X (𝓜.at_room τ b o v)
      (via 𝓤 (sep 𝓤 Y (wand 𝓤 Y X)) (𝓜.room_as τ τ' b o same_size aligns) (fst∗ 𝓤 Y (wand 𝓤 Y X)))))
      (via 𝓤 (ex 𝓤 (λ (μ : Memory). guard 𝓤 (store_m σ τ' b o v' ≡ some μ) (stored μ)))
      (𝓜.room_store σ τ' b o v' typed.0 typed.1)
      (ex_e 𝓤 (λ (μ : Memory). guard 𝓤 (store_m σ τ' b o v' ≡ some μ) (stored μ)) (λ μ.
      guard_e 𝓤 (store_m σ τ' b o v' ≡ some μ) (stored μ) (λ h.
      subst (λ (m : Memory). ent 𝓤 (stored m) (stored σ)) (sym (store_same σ μ τ τ' b o v v' there cells h))
      (id⊢ 𝓤 (stored σ)))))))))

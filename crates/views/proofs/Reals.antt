-- Reals side by side, as the machine's places. Assumes `Logic`.
use Prim.Native.Nat.{ℕ, ◌+◌}
use mathlib.Core.List.{List, [], ◌∷◌, map}
use lib.Dec.{T}
use lib.Ieee.{Float, binary64}
use seplogic.Ra.Ura.{Ura}
use base.Fraction.{full_share}
use base.Logic.{SProp, ent, sep, guard, via, comm∗}
use base.Fml.{fat}
use mir.Syntax.{Ty, ty_float}
use mir.Val.{Val, vfloat, has_ty, WT}
use prog.Model.{Model, elems}
use types.Logic.{Logic, sem}
use types.Kit.{‵, raw, given, ◌$◌, ◌∵◌, !, qed, move, use1, learn, fsplit, check, done}
use types.Run.{well_typed}
use types.SemTy.{cells}
use contract.Aware.{aware, aware_mono, aware_trans, aware_frame}
use denote.Builtin.{f64}
use denote.Floats.{Float-out}
use denote.Memory.{mem}

abbrev pub τ : Ty
τ = ty_float binary64

abbrev pub val : Float → Val
val x = vfloat binary64 x

abbrev pub AllFit : List Float → Type 0
AllFit [] = Unit {0}
AllFit (x ∷ xs) = (T (has_ty τ (val x)) × WT (val x)) × AllFit xs

module _ {M : Type 1} {𝓤 : Ura M} (𝓛 : Logic 𝓤) where
  open 𝓛 use {H}

  pub places : (xs : List Float) (b o : ℕ)
      → ent 𝓤 (sem 𝓛 (cells (mem f64) xs b o)) (guard 𝓤 (AllFit xs) (elems 𝓤 H full_share τ b o (map val xs)))
  places [] b o = qed 𝓛 (‵ (cells (mem f64) [] b o) ∷ []) ∵ check ! tt $ done !
  places (x ∷ xs) b o = qed 𝓛 (‵ (cells (mem f64) (x ∷ xs) b o) ∷ []) ∵ fsplit ! $
      use1 𝓛 (‵ (fat full_share τ b o (val x))) (Float-out 𝓛 full_share binary64 x b o) $
      well_typed ! (λ t. move ! (1 ∷ []) $
      use1 𝓛 (given (AllFit xs) (raw (elems 𝓤 H full_share τ b (o + 8) (map val xs)))) (places xs b (o + 8)) $
      learn ! (λ ts. check ! (t, ts) $ move ! (1 ∷ 0 ∷ []) $ done !))

  module _ (𝓜 : Model 𝓤 H) where
    abbrev K : SProp 𝓤 → SProp 𝓤
    K P = aware 𝓤 H 𝓜 P

    -- two updates that know the memory are one
    pub aware_both : (P Q : SProp 𝓤) → ent 𝓤 (sep 𝓤 (K P) (K Q)) (K (sep 𝓤 P Q))
    aware_both P Q =
        via 𝓤 (K (sep 𝓤 P (K Q))) (aware_frame 𝓤 H 𝓜 P (K Q))
        (via 𝓤 (K (K (sep 𝓤 P Q))) (aware_mono 𝓤 H 𝓜 (sep 𝓤 P (K Q)) (K (sep 𝓤 P Q))
        (via 𝓤 (sep 𝓤 (K Q) P) (comm∗ 𝓤 P (K Q))
        (via 𝓤 (K (sep 𝓤 Q P)) (aware_frame 𝓤 H 𝓜 Q P)
        (aware_mono 𝓤 H 𝓜 (sep 𝓤 Q P) (sep 𝓤 P Q) (comm∗ 𝓤 Q P)))))
        (aware_trans 𝓤 H 𝓜 (sep 𝓤 P Q)))

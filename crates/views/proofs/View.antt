-- Rows of reals as items of another type that lies as they do.
--     View      the type, the reals of a row, the items of a table's whole rows, what stands behind them, and the
--               reals of items
--     Lies      in memory the items are their reals, and the whole rows are their items once the machine's memory is
--               at hand
use mathlib.Core.Path.{◌≡◌}
use Prim.Native.Nat.{ℕ, ◌+◌, ◌*◌}
use mathlib.Core.List.{List}
use lib.Ieee.{Float}
use lib.ListN.{length}
use seplogic.Ra.Ura.{Ura}
use base.Logic.{SProp, ent, sep}
use prog.Model.{Model}
use types.Logic.{Logic, sem}
use types.SemTy.{cells}
use contract.Aware.{aware}
use denote.Builtin.{f64}
use denote.Memory.{mem}
use denote.RattleType.{RattleType}
use borrow.Table.Elements.{at}

pub record View : Type 2 where
  pub row : RattleType
  pub wide : ℕ
  pub bytes : (mem row).size ≡ wide * 8
  pub items : List Float → List row.Denot
  pub rest : List Float → List Float
  pub reals : List row.Denot → List Float
  pub whole : (xs : List Float) → length xs ≡ length (items xs) * wide + length (rest xs)
  pub many : (ws : List row.Denot) → length (reals ws) ≡ length ws * wide

module _ {M : Type 1} {𝓤 : Ura M} (𝓛 : Logic 𝓤) (𝓜 : Model 𝓤 𝓛.H) (V : View) where
  abbrev pub Turned : List Float → ℕ → ℕ → SProp 𝓤
  Turned xs b o =
      sep 𝓤 (sem 𝓛 (cells (mem V.row) (V.items xs) b o))
      (sem 𝓛 (cells (mem f64) (V.rest xs) b (at o (mem V.row).size (length (V.items xs)))))

  pub record Lies : Type 2 where
    pub out : (ws : List V.row.Denot) (b o : ℕ)
        → ent 𝓤 (sem 𝓛 (cells (mem V.row) ws b o)) (sem 𝓛 (cells (mem f64) (V.reals ws) b o))
    pub turns : (xs : List Float) (b o : ℕ) → ent 𝓤 (sem 𝓛 (cells (mem f64) xs b o)) (aware 𝓤 𝓛.H 𝓜 (Turned xs b o))

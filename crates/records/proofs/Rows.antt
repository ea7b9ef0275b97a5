-- Things that stand in a row of bytes: how many there are, which is where, what holds of each.
use mathlib.Core.Path.{◌≡◌, refl, ap}
use mathlib.Core.List.{List}
use Prim.Native.Nat.{ℕ, zero, suc, ◌+◌, ◌*◌, ◌<◌}
use native.Mathlib.Omega.{arith}
use lib.ListN.{length, get_or}
use Rattle.records.specs.Bytes.{row_at}
use Rattle.lists.specs.Elements.{All, none, and}

module _ {A : Type 0} (one : List ℕ → ℕ → A) (w : ℕ) (s : List ℕ) where
  pub length-row_at : (p n : ℕ) → length (row_at one w s p n) ≡ n
  unfolding row_at
  length-row_at p zero = refl
  length-row_at p (suc n) = ap suc (length-row_at (p + w) n)

  pub get_or-row_at : (p n i : ℕ) (d : A) → i < n → get_or (row_at one w s p n) i d ≡ one s (p + w * i)
  unfolding row_at
  get_or-row_at p zero i d h = absurd (omega arith)
  get_or-row_at p (suc n) zero d h = let e : p + w * 0 ≡ p = omega arith in rw e
  get_or-row_at p (suc n) (suc i) d h = let e : p + w * suc i ≡ p + w + w * i = omega arith in rw e (get_or-row_at (p + w) n i d (omega arith))

  pub all_row_at : (P : A → Type 0) (p n : ℕ) → ((j : ℕ) → j < n → P (one s (p + w * j))) → All P (row_at one w s p n)
  unfolding row_at
  all_row_at P p zero h = none
  all_row_at P p (suc n) h =
      let e : p + w * 0 ≡ p = omega arith in
      and (rw e at (h 0 (omega arith)))
      (all_row_at P (p + w) n (λ j l. let f : p + w * suc j ≡ p + w + w * j = omega arith in rw f at (h (suc j) (omega arith))))

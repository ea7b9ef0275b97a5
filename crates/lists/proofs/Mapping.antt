-- A loop that does f to each element where it stands.
use Prim.Native.Nat.{ℕ, ◌+◌, ◌≤◌, ◌<◌}
use mathlib.Core.Path.{◌≡◌, sym, ap, ◌∙◌}
use mathlib.Core.List.{List, map}
use native.Mathlib.Omega.{arith}
use lib.ListN.{length, get_or, set, length-map}
use Rattle.lists.proofs.Elements.{get_d_map}
use Rattle.lists.proofs.Filling.{Filling, front, front_turn, filling_read, filling_end}
use Rattle.lists.proofs.Placed.{placed_whole}

module _ {A : Type 0} (f : A → A) (s₀ : List A) where
  abbrev pub Mapping : List A → ℕ → Type 0
  Mapping s i = Filling 0 (map f s₀) s₀ s i

  pub mapping : Mapping s₀ 0
  mapping = front (map f s₀) s₀ (let e = length-map s₀ f in omega arith)

  pub mapping_turn : (z : A) (s : List A) (i : ℕ) (x : A) → Mapping s i → i < length s₀ → x ≡ f (get_or s i z) → Mapping (set s i x) (i + 1)
  mapping_turn z s i x m h e =
      let l = length-map s₀ f in
      front_turn (map f s₀) s₀ s i x z m (omega arith)
      (e ∙ ap f (filling_read 0 (map f s₀) s₀ s i i z m (omega arith)) ∙ sym (get_d_map f s₀ i z z h))

  pub mapping_end : (s : List A) (i : ℕ) → Mapping s i → length s₀ ≤ i → s ≡ map f s₀
  mapping_end s i m h =
      let l = length-map s₀ f in
      filling_end 0 (map f s₀) s₀ s i m (omega (arith, m.long)) ∙ placed_whole (map f s₀) s₀ l

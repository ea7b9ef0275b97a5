-- A part of a list, changed by f.
use Prim.Native.Nat.{ℕ, ◌+◌, ◌-◌}
use mathlib.Core.Path.{◌≡◌, ap}
use mathlib.Core.List.{List, ◌++◌}
use native.Mathlib.Omega.{arith}
use lib.ListN.{length, take, drop}
use lib.Seq.{take_at, drop_at}
use Rattle.lists.specs.Parts.{on_part}

module _ {A : Type 0} (f : List A → List A) where
  -- what a call on the part from a up to e leaves
  pub part_is : (a e : ℕ) (xs ys : List A) → ys ≡ f (take (e - a) (drop a xs)) → take a xs ++ (ys ++ drop (e - a) (drop a xs)) ≡ on_part f a e xs
  unfolding on_part
  part_is a e xs ys h = ap (λ (r : List A). take a xs ++ (r ++ drop (e - a) (drop a xs))) h

  -- of a list that is given in three parts
  pub on_part_lem : (p m r : List A) (a e : ℕ) → length p ≡ a → a + length m ≡ e → on_part f a e (p ++ (m ++ r)) ≡ p ++ (f m ++ r)
  unfolding on_part
  on_part_lem p m r a e h k =
      let n : length m ≡ e - a = omega arith in
      rw (take_at p (m ++ r) a h, drop_at p (m ++ r) a h, take_at m r (e - a) n, drop_at m r (e - a) n)

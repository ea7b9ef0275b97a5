-- The inner rungs: how many, and where they are written.
use Rattle.std.proofs.Common.{◌≡◌, ℕ, ◌+◌, ◌-◌, ◌≤◌, List, ◌++◌, length, take, drop, sym, ap, ◌∙◌, arith, length-drop}
use lib.Seq.{sets}
use lib.Ieee.{Float}
use Rattle.lists.proofs.Elements.{drop_last-take, length-drop_last}
use Rattle.lists.proofs.Stores.{sets_part, sets-room}
use Rattle.surfaces.specs.Rungs.{inner}

pub inner-length : (xs : List Float) → length (inner xs) ≡ length xs - 1 - 1
unfolding inner
inner-length xs = length-drop_last (drop 1 xs) ∙ ap (λ (k : ℕ). k - 1) (length-drop 1 xs)

pub inner_counted : (xs : List Float) {k m : ℕ} → k ≡ length xs - 1 → m ≡ k - 1 → m ≡ length (inner xs)
inner_counted xs e1 e2 = let q = inner-length xs in omega arith

pub inner-take : (xs : List Float) → take (length (inner xs)) (drop 1 xs) ≡ inner xs
unfolding inner
inner-take xs = ap (λ (k : ℕ). take k (drop 1 xs)) (length-drop_last (drop 1 xs)) ∙ sym (drop_last-take (drop 1 xs))

module _ (xs os : List Float) {m : ℕ} (count : m ≡ length (inner xs)) where
  -- into a part with room for just these
  pub inner_part : {ws : List Float} → ws ≡ sets (take m os) 0 (drop 1 xs) → ws ++ drop m os ≡ sets os 0 (inner xs)
  inner_part e =
      let z : m - 0 ≡ length (inner xs) = omega arith in
      ap (λ (l : List Float). l ++ drop m os) e ∙ sets_part m os 0 (drop 1 xs) ∙ rw (z, inner-take xs)

  -- into all of it, where there is no room for the last
  pub inner_whole : {ws : List Float} → length os ≤ m → ws ≡ sets os 0 (drop 1 xs) → ws ≡ sets os 0 (inner xs)
  inner_whole h e =
      let l : length os ≤ 0 + length (inner xs) = omega arith in
      e ∙ sym (sets-room os 0 (length (inner xs)) (drop 1 xs) l) ∙ rw (inner-take xs)

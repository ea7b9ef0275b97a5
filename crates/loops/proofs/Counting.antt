-- The net of a list of steps: of two lists joined it is the sum, and of the steps taken backward it is negated.
use Prim.Native.Nat.{◌+◌}
use mathlib.Core.Path.{◌≡◌, refl, ap, ◌∙◌}
use mathlib.Core.Bool.{Bool, and_comm}
use mathlib.Core.List.{List, [], ◌∷◌, ◌++◌, map, reverse, reverse-cons}
use native.Mathlib.Omega.{arith}
use lib.IntN.{pos, neg_ℤ, ◌+ℤ◌, ◌-ℤ◌}
use Rattle.loops.specs.Steps.{Step, count, net_of}
use Rattle.loops.proofs.Differences.{difference_of_sums, difference_negated}

abbrev pub step_back : {A : Type 0} → Step A → Step A
step_back s = record { from = s.to; to = s.from }

module _ {A : Type 0} (same : A → A → Bool) (a b : A) where
  count-append : (ss ts : List (Step A)) → count same a b (ss ++ ts) ≡ count same a b ss + count same a b ts
  unfolding count
  count-append [] ts = omega arith
  count-append (s ∷ ss) ts = let rest = count-append ss ts in omega arith

  count-back : (ss : List (Step A)) → count same a b (map step_back ss) ≡ count same b a ss
  unfolding count
  count-back [] = refl
  count-back (s ∷ ss) = rw (and_comm (same s.to a) (same s.from b), count-back ss)

  count-reverse : (ss : List (Step A)) → count same a b (reverse ss) ≡ count same a b ss
  count-reverse [] = refl
  count-reverse (s ∷ ss) =
      let rest = count-reverse ss in
      let s-last = count-append (reverse ss) (s ∷ []) in
      let s-first = count-append (s ∷ []) ss in
      ap (count same a b) (reverse-cons s ss) ∙ (omega arith)

module _ {A : Type 0} (same : A → A → Bool) (a b : A) where
  pub net_of-append : (ss ts : List (Step A)) → net_of same a b (ss ++ ts) ≡ net_of same a b ss +ℤ net_of same a b ts
  unfolding net_of
  net_of-append ss ts =
      (λ i. pos (count-append same a b ss ts i) -ℤ pos (count-append same b a ss ts i))
      ∙ difference_of_sums (count same a b ss) (count same a b ts) (count same b a ss) (count same b a ts)

  pub net_of-back : (ss : List (Step A)) → net_of same a b (reverse (map step_back ss)) ≡ neg_ℤ (net_of same a b ss)
  unfolding net_of
  net_of-back ss =
      (λ i. pos (count-reverse same a b (map step_back ss) i) -ℤ pos (count-reverse same b a (map step_back ss) i))
      ∙ (λ i. pos (count-back same a b ss i) -ℤ pos (count-back same b a ss i))
      ∙ difference_negated (count same a b ss) (count same b a ss)

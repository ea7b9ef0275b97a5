-- Elements that `same` does not tell apart may stand for each other, and a step between two such adds nothing.
use Prim.Native.Nat.{◌+◌}
use mathlib.Core.Path.{◌≡◌, refl, sym, ap, ◌∙◌}
use mathlib.Core.Bool.{Bool, true, false, cond, ◌&&◌, and_comm}
use mathlib.Core.List.{List, [], ◌∷◌, ◌++◌, Forall₂}
use mathlib.Mathlib.Data.List.Forall2.{rel-append}
use lib.IntN.{pos, ◌+ℤ◌, ◌-ℤ◌, +ℤ_idl, +ℤ_invr}
use Rattle.loops.specs.Steps.{Step, PartialEquivalence, steps_along, count, net_of, net}
use Rattle.loops.proofs.Counting.{net_of-append}
use Rattle.loops.proofs.Paths.{net_along, net-along}

-- What is `same` is alike (`alike`), and any datum is alike itself, also one that is not `same` as itself.
abbrev pub Alike : {A : Type 0} → (A → A → Bool) → A → A → Type 0
Alike {A} same x y = (a : A) → same x a ≡ same y a

module _ {A : Type 0} (same : A → A → Bool) where
  pub alike : PartialEquivalence same → (x y : A) → same x y ≡ true → Alike same x y
  alike P x y e a = both_or_neither (same x a) (same y a) (P.transitive y x a (P.symmetric x y e)) (P.transitive x y a e)
    where
      both_or_neither : (s t : Bool) → (s ≡ true → t ≡ true) → (t ≡ true → s ≡ true) → s ≡ t
      both_or_neither true t f g = sym (f refl)
      both_or_neither false true f g = g refl
      both_or_neither false false f g = refl

  pub alike_refl : (xs : List A) → Forall₂ (Alike same) xs xs
  alike_refl [] = Forall₂.nil
  alike_refl (x ∷ xs) = Forall₂.cons (λ a. refl) (alike_refl xs)

  -- ---- a step to itself

  module _ (a b : A) where
    lone_step : (x y : A) → Alike same x y → net_of same a b (record { from = x; to = y } ∷ []) ≡ pos 0
    unfolding net_of count
    lone_step x y e =
        rw (← e b, ← e a, and_comm (same x b) (same x a)) (+ℤ_invr (pos (cond (same x a && same x b) 1 0 + 0)))

    -- 01, "Bands": "a step from a position to itself adds nothing to any count"
    pub self_step : (x y : A) (steps : List (Step A)) → Alike same x y
        → net_of same a b (record { from = x; to = y } ∷ steps) ≡ net_of same a b steps
    self_step x y steps e =
        net_of-append same a b (record { from = x; to = y } ∷ []) steps
        ∙ ap (◌+ℤ net_of same a b steps) (lone_step x y e) ∙ +ℤ_idl (net_of same a b steps)

  -- ---- replaced

  count_alike : (a b : A) {xs ys : List A} → Forall₂ (Alike same) xs ys
      → count same a b (steps_along xs) ≡ count same a b (steps_along ys)
  unfolding count steps_along
  count_alike a b Forall₂.nil = refl
  count_alike a b (Forall₂.cons e Forall₂.nil) = refl
  count_alike a b (Forall₂.cons e (Forall₂.cons f es)) = λ i. cond (e a i && f b i) 1 0 + count_alike a b (Forall₂.cons f es) i

  module _ (a b : A) where
    pub along_alike : {xs ys : List A} → Forall₂ (Alike same) xs ys → net_along same a b xs ≡ net_along same a b ys
    unfolding net_of
    along_alike es = λ i. pos (count_alike a b es i) -ℤ pos (count_alike b a es i)

    pub net_alike : {xs ys : List A} → Forall₂ (Alike same) xs ys → net same a b xs ≡ net same a b ys
    net_alike Forall₂.nil = refl
    net_alike (Forall₂.cons {a = x} {b = y} {l₁ = xs} {l₂ = ys} e es) =
        net-along same a b x xs
        ∙ along_alike (Forall₂.cons e (rel-append xs ys es (x ∷ []) (y ∷ []) (Forall₂.cons e Forall₂.nil)))
        ∙ sym (net-along same a b y ys)

    pub net_replace : (xs : List A) (x y : A) (ys : List A) → Alike same x y → net same a b (xs ++ x ∷ ys) ≡ net same a b (xs ++ y ∷ ys)
    net_replace xs x y ys e = net_alike (rel-append xs xs (alike_refl xs) (x ∷ ys) (y ∷ ys) (Forall₂.cons e (alike_refl ys)))

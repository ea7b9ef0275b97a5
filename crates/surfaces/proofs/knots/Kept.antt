-- What is kept of a list, by each element: dropped where it is near the one kept before, else kept.
use Rattle.std.proofs.Common.{◌≡◌, ℕ, zero, suc, ◌<◌, ◌≤◌, Bool, true, false, cond, List, [], ◌∷◌, length, get_or, refl, suc-le-suc, le_of_suc-le-suc, not-suc-le-zero, zero-lt-suc, arith}
use lib.Ieee.{Float, nan}
use Rattle.surfaces.specs.Rungs.{near, kept_after}

pub data Kept (e : Float) : Float → List Float → List Float → Type 0 where
  done : {last : Float} → Kept e last [] []
  dropped : {last x : Float} {xs ks : List Float} → near e x last ≡ true → Kept e last xs ks → Kept e last (x ∷ xs) ks
  taken : {last x : Float} {xs ks : List Float} → near e x last ≡ false → Kept e x xs ks → Kept e last (x ∷ xs) (x ∷ ks)

pub kept_step : (e last x : Float) (xs : List Float) → kept_after e last (x ∷ xs) ≡ cond (near e x last) (kept_after e last xs) (x ∷ kept_after e x xs)
unfolding kept_after
kept_step e last x xs = go (near e x last)
  where
    go : (t : Bool) → cond t (kept_after e (cond t last x) xs) (x ∷ kept_after e (cond t last x) xs) ≡ cond t (kept_after e last xs) (x ∷ kept_after e x xs)
    go true = refl
    go false = refl

pub kept_after_lem : (e last : Float) (xs : List Float) → Kept e last xs (kept_after e last xs)
unfolding kept_after
kept_after_lem e last [] = done
kept_after_lem e last (x ∷ xs) = rw (kept_step e last x xs) (go (near e x last) refl (kept_after_lem e last xs) (kept_after_lem e x xs))
  where
    go : (t : Bool) → near e x last ≡ t → Kept e last xs (kept_after e last xs) → Kept e x xs (kept_after e x xs) → Kept e last (x ∷ xs) (cond t (kept_after e last xs) (x ∷ kept_after e x xs))
    go true h p q = dropped h p
    go false h p q = taken h q

module _ {e : Float} where
  pub kept-few : {last : Float} {xs ks : List Float} → Kept e last xs ks → length ks ≤ length xs
  kept-few done = omega arith
  kept-few (dropped h k) = let l = kept-few k in omega arith
  kept-few (taken h k) = let l = kept-few k in omega arith

  -- what holds of each element holds of each that is kept
  pub kept_each : (P : Float → Type 0) {last : Float} {xs ks : List Float} → Kept e last xs ks → ((i : ℕ) → i < length xs → P (get_or xs i nan)) → (j : ℕ) → j < length ks → P (get_or ks j nan)
  kept_each P done p j h = absurd (not-suc-le-zero h)
  kept_each P (dropped n k) p j h = kept_each P k (λ i l. p (suc i) (suc-le-suc l)) j h
  kept_each P (taken n k) p zero h = p 0 (zero-lt-suc _)
  kept_each P (taken n k) p (suc j) h = kept_each P k (λ i l. p (suc i) (suc-le-suc l)) j (le_of_suc-le-suc h)

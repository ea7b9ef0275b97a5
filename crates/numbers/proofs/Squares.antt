-- Squares, and sums of what is not negative, are not negative.
use Rattle.std.proofs.Common.{◌≡◌, ℕ, ◌+◌, ◌*◌, ◌^◌, Bool, true, false, ◌⊎◌, ℤ, sym, refl, subst, inl, inr, true≢false}
use lib.Ieee.{Float, nan, inf, fin, binary64, up, down, round, sum, add, mul, unlike}
use lib.Ieee.Order.{kept, drop}
use Rattle.numbers.specs.Within.{Within, NonNeg}
use Rattle.numbers.proofs.Magnitude.{units_shape}

pub round_nonneg : (a b : ℕ) → NonNeg (round binary64 false a b)
unfolding round
round_nonneg a b = go (units_shape false (kept 53 (a * 2 ^ 1074) b) (drop 53 (a * 2 ^ 1074) b))
  where
    go : ((m : ℕ) × (e : ℤ) × (round binary64 false a b ≡ fin false m e)) ⊎ (round binary64 false a b ≡ inf false) → NonNeg (round binary64 false a b)
    go (inl w) = subst NonNeg (sym w.2) refl
    go (inr w) = subst NonNeg (sym w) refl

unlike_same : (s : Bool) → unlike s s ≡ false
unlike_same true = refl
unlike_same false = refl

pub square_nonneg : (A : ℕ) (x : Float) → Within A x → NonNeg (mul binary64 x x)
unfolding mul
square_nonneg A nan w = w
square_nonneg A (inf s) w = absurd w
square_nonneg A (fin s m e) w = subst (λ (t : Bool). NonNeg (round binary64 t (m * up e * (m * up e)) (down e * down e))) (sym (unlike_same s)) (round_nonneg (m * up e * (m * up e)) (down e * down e))

pub add_nonneg : (x y : Float) → NonNeg x → NonNeg y → NonNeg (add binary64 x y)
unfolding add sum
add_nonneg nan y v w = v
add_nonneg (inf true) y v w = absurd (true≢false v)
add_nonneg (inf false) nan v w = w
add_nonneg (inf false) (inf true) v w = absurd (true≢false w)
add_nonneg (inf false) (inf false) v w = refl
add_nonneg (inf false) (fin t n d) v w = refl
add_nonneg (fin true m e) y v w = absurd (true≢false v)
add_nonneg (fin false m e) nan v w = w
add_nonneg (fin false m e) (inf t) v w = w
add_nonneg (fin false m e) (fin true n d) v w = absurd (true≢false w)
add_nonneg (fin false m e) (fin false n d) v w = round_nonneg (m * up e * down d + n * up d * down e) (down e * down d)

-- Round, floor and ceil give the whole numbers that specs/WholeNumbers.antt says. x is a / b in size, and n is the size of the answer, exactly.
use Rattle.std.proofs.Common.{◌≡◌, ℕ, zero, suc, ◌+◌, ◌-◌, ◌*◌, ◌^◌, ◌<◌, ◌≤◌, Bool, true, false, T, ℤ, pos, negsuc, sym, refl, ap, ◌∙◌, subst, mul_assoc, suc-mul, mul_comm, mul-pos, le-mul_of_pos_right, div-mul-le_self, arith, lit<, pow_pos}
use native.Mathlib.Nat.{lt-div-mul-add}
use lib.Ieee.{Float, fin, binary64, up, down, fits, round}
use lib.Ieee.Fits.{down_pos}
use lib.Ieee.Exact.{HasValue}
use lib.Ieee.Back.{round_whole}
use Rattle.numbers.proofs.Reals.{fits-digits, whole_back}
use Rattle.numbers.specs.Round.{cut, cut_up, nearest_up, round_away, floor_of, ceil_of}
use Rattle.numbers.specs.WholeNumbers.{Nearest, Below, Above, Whole, RoundMeans, FloorMeans, CeilMeans}

pub cut_below : (a b : ℕ) → 0 < b → Below a b (cut a b)
cut_below a b h = record { low = div-mul-le_self a b; high = lt-div-mul-add h }

pub nearest_up_lem : (a b : ℕ) → 0 < b → Nearest a b (nearest_up a b)
nearest_up_lem a b h =
    let n = nearest_up a b in
    let c = cut_below (2 * a + b) (2 * b) (mul-pos (lit< tt) h) in
    let e : n * (2 * b) ≡ 2 * n * b = sym (mul_assoc n 2 b) ∙ ap (λ (z : ℕ). z * b) (mul_comm n 2) in
    let l = c.low in
    let u = c.high in
    record { low = omega arith; high = omega arith }

pub cut-above : (a b : ℕ) → 0 < b → Above a b (cut_up a b)
cut-above a b h =
    let c = cut_below (a + (b - 1)) b h in
    let l = c.low in
    let u = c.high in
    record { low = omega arith; high = omega arith }

-- ---- a whole number less than one away from a real is held exactly
held : (s : Bool) (m : ℕ) (e : ℤ) (n : ℕ) → T (fits binary64 (fin s m e)) → n * down e < m * up e + down e → m * up e < n * down e + down e → HasValue (round binary64 s n 1) s n 1
held s m (pos k) n f h l =
    let e : n ≡ m * 2 ^ k = omega arith in
    subst (λ (z : ℕ). HasValue (round binary64 s z 1) s z 1) (sym e)
    (subst (λ (x : Float). HasValue x s (m * 2 ^ k) 1) (sym (whole_back s m k f)) (refl, refl))
held s m (negsuc k) n f h l =
    let d = (fits-digits binary64 s m (negsuc k) f).0 in
    round_whole binary64 s n (less n (2 ^ suc k) (pow_pos (suc k)) d h)
  where
    less : (n b : ℕ) → 0 < b → m < 2 ^ 53 → n * b < m * 1 + b → n ≤ 2 ^ 53
    less zero b p d h = omega arith
    less (suc n) b p d h =
        let a : suc n * b ≡ n * b + b = suc-mul n b in
        let c : n ≤ n * b = le-mul_of_pos_right n p in
        omega arith

-- ---- the answers
whole : {P : ℕ → ℕ → ℕ → Type 0} (s : Bool) (m : ℕ) (e : ℤ) (n : ℕ) → T (fits binary64 (fin s m e)) → P (m * up e) (down e) n → n * down e < m * up e + down e → m * up e < n * down e + down e → Whole P s m e (round binary64 s n 1)
whole s m e n f p l h = record { n = n; exact = held s m e n f l h; is = p }

pub round-nearest : RoundMeans
unfolding round_away
round-nearest s m e f =
    let p = nearest_up_lem (m * up e) (down e) (down_pos e) in
    let d = down_pos e in
    let l = p.low in
    let u = p.high in
    whole s m e (nearest_up (m * up e) (down e)) f p (omega arith) (omega arith)

below : (s : Bool) (m : ℕ) (e : ℤ) → T (fits binary64 (fin s m e)) → Whole Below s m e (round binary64 s (cut (m * up e) (down e)) 1)
below s m e f =
    let p = cut_below (m * up e) (down e) (down_pos e) in
    let d = down_pos e in
    let l = p.low in
    whole s m e (cut (m * up e) (down e)) f p (omega arith) p.high

above : (s : Bool) (m : ℕ) (e : ℤ) → T (fits binary64 (fin s m e)) → Whole Above s m e (round binary64 s (cut_up (m * up e) (down e)) 1)
above s m e f =
    let p = cut-above (m * up e) (down e) (down_pos e) in
    let d = down_pos e in
    let u = p.high in
    whole s m e (cut_up (m * up e) (down e)) f p p.low (omega arith)

pub floor_means : FloorMeans
unfolding floor_of
floor_means false m e f = below false m e f
floor_means true m e f = above true m e f

pub ceil_means : CeilMeans
unfolding ceil_of
ceil_means false m e f = above false m e f
ceil_means true m e f = below true m e f

-- the answer as a whole number, cut to none of its digits
pub ceil_exact : (m : ℕ) (e : ℤ) → T (fits binary64 (fin false m e)) → HasValue (ceil_of (fin false m e)) false (cut_up (m * up e) (down e)) 1
unfolding ceil_of
ceil_exact m e f =
    let p = cut-above (m * up e) (down e) (down_pos e) in
    let d = down_pos e in
    let u = p.high in
    held false m e (cut_up (m * up e) (down e)) f p.low (omega arith)

-- A number in bytes, as the code reads it.
use mathlib.Core.Path.{◌≡◌, refl, ap, ◌∙◌}
use mathlib.Core.List.{List, [], ◌∷◌}
use Prim.Native.Nat.{ℕ, zero, suc, ◌+◌, ◌*◌, ◌^◌, ◌<◌}
use native.Mathlib.Nat.{pow-succ'}
use native.Mathlib.Omega.{arith}
use lib.ListN.{get_or, take, drop}
use lib.Seq.{take-nil}
use Rattle.std.proofs.lemmas.List.{take-take}
use Rattle.std.specs.Int.{w16, w64, from_le_bytes}
use Rattle.records.specs.Bytes.{number, number_at}

number_at-none : (s : List ℕ) (p : ℕ) → number_at 0 s p ≡ 0
unfolding number number_at
number_at-none s p = refl

pub number_at-cons : (w : ℕ) (s : List ℕ) (p : ℕ) → number_at (suc w) s p ≡ get_or s p 0 + 256 * number_at w s (suc p)
unfolding number number_at
number_at-cons w [] zero = rw (take-nil {A = ℕ} w)
number_at-cons w [] (suc p) = rw (take-nil {A = ℕ} w)
number_at-cons w (b ∷ s) zero = refl
number_at-cons w (b ∷ s) (suc p) = number_at-cons w s p

-- of w bytes, each below 256
pub number_at-low : (w : ℕ) (s : List ℕ) (p : ℕ) → ((i : ℕ) → i < w → get_or s (p + i) 0 < 256) → number_at w s p < 256 ^ w
number_at-low zero s p f = let e = number_at-none s p in omega arith
number_at-low (suc w) s p f =
    let c = number_at-cons w s p in
    let b : get_or s p 0 < 256 = (let q : p + 0 ≡ p = omega arith in rw q at (f 0 (omega arith))) in
    let l = number_at-low w s (suc p) (λ i h. let q : p + suc i ≡ suc p + i = omega arith in rw q at (f (suc i) (omega arith))) in
    let e : 256 ^ suc w ≡ 256 * 256 ^ w = pow-succ' 256 w in
    omega arith

-- what `from_le_bytes` gives of the first bytes of b

two : (b : List ℕ) → from_le_bytes w16 b ≡ number_at 2 b 0
unfolding number number_at
two b = omega (arith, number_at-cons 1 b 0, number_at-cons 0 b 1)

eight : (b : List ℕ) → from_le_bytes w64 b ≡ number_at 8 b 0
unfolding number number_at
eight b =
    let a = number_at-cons 7 b 0 in
    let c = number_at-cons 6 b 1 in
    let d = number_at-cons 5 b 2 in
    let e = number_at-cons 4 b 3 in
    let f = number_at-cons 3 b 4 in
    let g = number_at-cons 2 b 5 in
    let h = number_at-cons 1 b 6 in
    let i = number_at-cons 0 b 7 in
    omega arith

-- of the bytes from p on

cut : (w : ℕ) (s : List ℕ) (p : ℕ) → number_at w (take w (drop p s)) 0 ≡ number_at w s p
unfolding number_at
cut w s p = ap number (take-take w w (drop p s) (omega arith))

pub two_at : (s : List ℕ) (p : ℕ) → from_le_bytes w16 (take 2 (drop p s)) ≡ number_at 2 s p
two_at s p = two (take 2 (drop p s)) ∙ cut 2 s p

pub eight_at : (s : List ℕ) (p : ℕ) → from_le_bytes w64 (take 8 (drop p s)) ≡ number_at 8 s p
eight_at s p = eight (take 8 (drop p s)) ∙ cut 8 s p

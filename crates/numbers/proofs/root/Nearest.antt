-- `root_float` is the float nearest to the root.
use Rattle.std.proofs.Common.{◌≡◌, ℕ, suc, ◌+◌, ◌-◌, ◌*◌, ◌/◌, ◌^◌, ◌<◌, ◌≤◌, false, not, T, ◌⊎◌, sym, refl, ap, ◌∙◌, subst, inl, inr, le_trans, le_of_eq, lt_of_lt_of_le, lt_of_le_of_lt, le_of_lt, add-le-add, mul-le-mul_right, zero-lt-suc, mul_assoc, div-lt_iff_lt-mul, add-mul, mul-le-mul, lt_of_mul-lt-mul_right, eq-or-lt_of_le, mul-le-mul_left, mul-lt-mul_of_pos_right, mul-pos, one-mul, lt_of_not-le, le-div_iff_mul-le, sub-add_cancel, mul_right_comm, not-le_of_lt, div-mul-le_self, mul-div_cancel, add-one, arith, lit<, lit≤, eqb→eq, leb→le, pow_pos, pow_mono, pow-add}
use Prim.Native.Nat.{compare, Ordering}
use native.Mathlib.Nat.{mul-mul-mul_comm, eq_of_mul-eq-mul_right, lt-div-mul-add, mul-lt-mul_of_pos_left}
use native.Mathlib.Decide.{dec_le}
use lib.Dec.{is_le, compare_is_eq, nleb→lt}
use lib.Ieee.{Float, nan, inf, fin, binary64, up, down, fits, size, nearest, units}
use lib.Ieee.Digits.{size-lt, size-le, size_reaches}
use lib.Ieee.Fits.{up_pos, down_pos}
use lib.Ieee.Exact.{HasValue, units_val}
use Rattle.numbers.proofs.Reals.{fits-digits, fits_under, place}
use Rattle.numbers.specs.Root.{root_of}
use Rattle.numbers.specs.Sqrt.{root_float, sqrt_of}
use Rattle.numbers.specs.Nearest.{NearestRoot, SqrtMeans}
use Rattle.numbers.proofs.root.Whole.{pow_lt_back, square_odd, square_lt, square_lt-back, square_shift, four-pow, four_pos, root_is}

-- a float of Y units is c * 2 ^ j units, with c of 53 digits
float_units : (y : Float) (Y : ℕ) → T (fits binary64 y) → HasValue y false Y (2 ^ 1074) → (c : ℕ) × (j : ℕ) × (c < 2 ^ 53) × (c * 2 ^ j ≡ Y)
float_units nan Y f v = absurd v
float_units (inf s) Y f v = absurd v
float_units (fin s c e) Y f v =
    let g = fits-digits binary64 s c e f in
    let p = place 1074 e g.1 in (
      c,
      p.0,
      g.0,
      eq_of_mul-eq-mul_right (down e) (down_pos e) (c * 2 ^ p.0) Y (mul_assoc c (2 ^ p.0) (down e) ∙ ap (λ (z : ℕ). c * z) (sym p.1) ∙ sym (mul_assoc c (up e) (2 ^ 1074)) ∙ v.1),
    )

next_pow : (j K : ℕ) → j < K → 2 ^ 53 * 2 ^ j ≤ 2 ^ 52 * 2 ^ K
next_pow j K h = le_trans (le_of_eq (sym (pow-add 2 53 j))) (le_trans (pow_mono {i = 53 + j} {j = 52 + K} (omega arith)) (le_of_eq (pow-add 2 52 K)))

-- at a larger step, or at the same, c * 2 ^ j is a multiple of 2 ^ K
as_multiple : (c j K : ℕ) → K ≤ j → c * 2 ^ j ≡ c * 2 ^ (j - K) * 2 ^ K
as_multiple c j K h = ap (λ (z : ℕ). c * 2 ^ z) (sym (sub-add_cancel h)) ∙ ap (λ (z : ℕ). c * z) (pow-add 2 (j - K) K) ∙ sym (mul_assoc c (2 ^ (j - K)) (2 ^ K))

one_more : (n p : ℕ) → (n + 1) * p ≡ n * p + p
one_more n p = add-mul n 1 p ∙ ap (λ (z : ℕ). n * p + z) (one-mul p)

above : (n K c j : ℕ) → 2 ^ 52 ≤ n → c < 2 ^ 53 → n * 2 ^ K < c * 2 ^ j → n * 2 ^ K + 2 ^ K ≤ c * 2 ^ j
above n K c j N C h = go (dec_le K j)
  where
    go : Dec (K ≤ j) → n * 2 ^ K + 2 ^ K ≤ c * 2 ^ j
    go (yes k) =
        let e = as_multiple c j K k in
        let l : n < c * 2 ^ (j - K) = lt_of_mul-lt-mul_right (2 ^ K) (lt_of_lt_of_le h (le_of_eq e)) in
        le_trans (le_of_eq (sym (one_more n (2 ^ K)))) (le_trans (mul-le-mul_right (2 ^ K) (le_trans (le_of_eq (add-one n)) l)) (le_of_eq (sym e)))
    go (no k) =
        absurd (not-le_of_lt h (le_trans (mul-le-mul_right (2 ^ j) (le_of_lt C)) (le_trans (next_pow j K (lt_of_not-le k)) (mul-le-mul_right (2 ^ K) N))))

below : (n K c j : ℕ) → 2 ^ 52 ≤ n → c < 2 ^ 53 → c * 2 ^ j < n * 2 ^ K → (c * 2 ^ j + 2 ^ K ≤ n * 2 ^ K) ⊎ (n ≡ 2 ^ 52)
below n K c j N C h = go (dec_le K j) (eq-or-lt_of_le N)
  where
    go : Dec (K ≤ j) → (2 ^ 52 ≡ n) ⊎ (2 ^ 52 < n) → (c * 2 ^ j + 2 ^ K ≤ n * 2 ^ K) ⊎ (n ≡ 2 ^ 52)
    go (yes k) q =
        let e = as_multiple c j K k in
        let l : c * 2 ^ (j - K) < n = lt_of_mul-lt-mul_right (2 ^ K) (lt_of_le_of_lt (le_of_eq (sym e)) h) in
        inl (le_trans (le_of_eq (ap (λ (z : ℕ). z + 2 ^ K) e ∙ sym (one_more (c * 2 ^ (j - K)) (2 ^ K)))) (mul-le-mul_right (2 ^ K) (le_trans (le_of_eq (add-one (c * 2 ^ (j - K)))) l)))
    go (no k) (inl q) = inr (sym q)
    go (no k) (inr q) =
        let a : c * 2 ^ j ≤ 2 ^ 52 * 2 ^ K = le_trans (mul-le-mul_right (2 ^ j) (le_of_lt C)) (next_pow j K (lt_of_not-le k)) in
        inl (le_trans (add-le-add a (le_of_eq refl)) (le_trans (le_of_eq (sym (one_more (2 ^ 52) (2 ^ K)))) (mul-le-mul_right (2 ^ K) (le_trans (le_of_eq (add-one (2 ^ 52))) q))))

-- ---- from half a unit around n * 2 ^ K to the claim
-- n' is n less 1
record Half (X n K : ℕ) : Type 0 where
  least : 2 ^ 52 ≤ n
  low : (n' : ℕ) → n' + 1 ≡ n → (2 * n' + 1) * (2 * n' + 1) * 4 ^ K < 4 * X
  high : 4 * X < (2 * n + 1) * (2 * n + 1) * 4 ^ K
  edge : n ≡ 2 ^ 52 → n * n * 4 ^ K ≤ X

claim_high : (X n K Y : ℕ) → Half X n K → n * 2 ^ K + 2 ^ K ≤ Y → 4 * X < (Y + n * 2 ^ K) * (Y + n * 2 ^ K)
claim_high X n K Y h l =
    let p = 2 ^ K in
    let a : (2 * n + 1) * p ≤ Y + n * p = le_trans (le_of_eq (one_more (2 * n) p ∙ ap (λ (z : ℕ). z + p) (mul_assoc 2 n p))) (omega arith) in
    lt_of_lt_of_le h.high (le_trans (le_of_eq (sym (square_shift (2 * n + 1) K))) (mul-le-mul a a))

claim_low : (X n n' K Y : ℕ) → Half X n K → n' + 1 ≡ n → Y + 2 ^ K ≤ n * 2 ^ K → (Y + n * 2 ^ K) * (Y + n * 2 ^ K) < 4 * X
claim_low X n n' K Y h e l =
    let p = 2 ^ K in
    let f : n * p ≡ n' * p + p = ap (λ (z : ℕ). z * p) (sym e) ∙ one_more n' p in
    let a : Y + n * p ≤ (2 * n' + 1) * p = le_trans (omega arith) (le_of_eq (sym (one_more (2 * n') p ∙ ap (λ (z : ℕ). z + p) (mul_assoc 2 n' p)))) in
    lt_of_le_of_lt (mul-le-mul a a) (lt_of_le_of_lt (le_of_eq (square_shift (2 * n' + 1) K)) (h.low n' e))

claim_edge : (X n K Y : ℕ) → Half X n K → n ≡ 2 ^ 52 → Y < n * 2 ^ K → (Y + n * 2 ^ K) * (Y + n * 2 ^ K) < 4 * X
claim_edge X n K Y h e l =
    let p = n * 2 ^ K in
    let a : Y + p < 2 * p = omega arith in
    lt_of_lt_of_le (square_lt a) (le_trans (le_of_eq (four p)) (mul-le-mul_left 4 (le_trans (le_of_eq (square_shift n K)) (h.edge e))))
  where
    four : (p : ℕ) → 2 * p * (2 * p) ≡ 4 * (p * p)
    four p = mul-mul-mul_comm 2 p 2 p

pred_of : (n : ℕ) → 2 ^ 52 ≤ n → n - 1 + 1 ≡ n
pred_of n h = omega arith

near_of_half : (X n K : ℕ) → Half X n K → n ≤ 2 ^ 53 → n * 2 ^ K < 2 ^ 2098 → NearestRoot X (units binary64 false n K)
near_of_half X n K h m r = (n * 2 ^ K, units_val binary64 false n K r, near)
  where
    near : (y : Float) (Y : ℕ) → T (fits binary64 y) → HasValue y false Y (2 ^ 1074) → (Y < n * 2 ^ K → (Y + n * 2 ^ K) * (Y + n * 2 ^ K) < 4 * X) × (n * 2 ^ K < Y → 4 * X < (Y + n * 2 ^ K) * (Y + n * 2 ^ K))
    near y Y f v =
        let g = float_units y Y f v in (
          (λ l. lower (below n K g.0 g.1 h.least g.2 (lt_of_le_of_lt (le_of_eq g.3) l)) l g.3),
          (λ l. claim_high X n K Y h (le_trans (above n K g.0 g.1 h.least g.2 (lt_of_lt_of_le l (le_of_eq (sym g.3)))) (le_of_eq g.3))),
        )
      where
        lower : {z : ℕ} → (z + 2 ^ K ≤ n * 2 ^ K) ⊎ (n ≡ 2 ^ 52) → Y < n * 2 ^ K → z ≡ Y → (Y + n * 2 ^ K) * (Y + n * 2 ^ K) < 4 * X
        lower (inl a) l e = claim_low X n (n - 1) K Y h (pred_of n h.least) (subst (λ (z : ℕ). z + 2 ^ K ≤ n * 2 ^ K) e a)
        lower (inr a) l e = claim_edge X n K Y h a l

-- ---- `root_float` is within half a unit
record Cut (X Q K : ℕ) : Type 0 where
  least : 2 ^ 52 ≤ Q
  most : Q < 2 ^ 53
  low : Q * Q * 4 ^ K ≤ X
  high : X < (Q + 1) * (Q + 1) * 4 ^ K

stay : (X Q K : ℕ) → Cut X Q K → 4 * X < (2 * Q + 1) * (2 * Q + 1) * 4 ^ K → Half X Q K
stay X Q K c h =
    record {
      least = c.least;
      low =
          λ n' e.
          let a : 2 * n' + 1 < 2 * Q = omega arith in
          lt_of_lt_of_le (mul-lt-mul_of_pos_right (square_lt a) (four_pos K)) (le_trans (le_of_eq (four Q (4 ^ K))) (mul-le-mul_left 4 c.low));
      high = h;
      edge = λ e. c.low;
    }
  where
    four : (p z : ℕ) → 2 * p * (2 * p) * z ≡ 4 * (p * p * z)
    four p z = ap (λ (w : ℕ). w * z) (mul-mul-mul_comm 2 p 2 p) ∙ mul_assoc 4 (p * p) z

go_up : (X Q K : ℕ) → Cut X Q K → (2 * Q + 1) * (2 * Q + 1) * 4 ^ K < 4 * X → Half X (Q + 1) K
go_up X Q K c h =
    record {
      least = let l = c.least in omega arith;
      low = λ n' e. subst (λ (z : ℕ). (2 * z + 1) * (2 * z + 1) * 4 ^ K < 4 * X) (let f : Q ≡ n' = omega arith in f) h;
      high =
          let a : 2 * (Q + 1) ≤ 2 * (Q + 1) + 1 = omega arith in
          lt_of_lt_of_le (mul-lt-mul_of_pos_left c.high (lit< tt)) (le_trans (le_of_eq (sym (four (Q + 1) (4 ^ K)))) (mul-le-mul_right (4 ^ K) (mul-le-mul a a)));
      edge = λ e. let l = c.least in absurd (no e l);
    }
  where
    four : (p z : ℕ) → 2 * p * (2 * p) * z ≡ 4 * (p * p * z)
    four p z = ap (λ (w : ℕ). w * z) (mul-mul-mul_comm 2 p 2 p) ∙ mul_assoc 4 (p * p) z

    no : Q + 1 ≡ 2 ^ 52 → 2 ^ 52 ≤ Q → ⊥
    no e l = omega arith

-- ---- no tie: where X is a multiple of 4 ^ K, 4 X is no odd multiple of it
no_tie : (X Q K N : ℕ) → X ≡ N * 4 ^ K → 4 * X ≡ (2 * Q + 1) * (2 * Q + 1) * 4 ^ K → ⊥
no_tie X Q K N e t =
    let both : 4 * N * 4 ^ K ≡ (2 * Q + 1) * (2 * Q + 1) * 4 ^ K = mul_assoc 4 N (4 ^ K) ∙ ap (λ (z : ℕ). 4 * z) (sym e) ∙ t in
    odd (eq_of_mul-eq-mul_right (4 ^ K) (four_pos K) (4 * N) ((2 * Q + 1) * (2 * Q + 1)) both)
  where
    odd : 4 * N ≡ (2 * Q + 1) * (2 * Q + 1) → ⊥
    odd h = let s = square_odd Q in omega arith

half_of : (X Q K N : ℕ) → X ≡ N * 4 ^ K → Cut X Q K → (o : Ordering) → (T (is_le o) → 4 * X ≤ (2 * Q + 1) * (2 * Q + 1) * 4 ^ K) → (T (not (is_le o)) → (2 * Q + 1) * (2 * Q + 1) * 4 ^ K < 4 * X) → (T (compare_is_eq o) → 4 * X ≡ (2 * Q + 1) * (2 * Q + 1) * 4 ^ K)
    → Half X (nearest Q o) K × (nearest Q o ≤ 2 ^ 53)
half_of X Q K N w c Ordering.lt a b e = (stay X Q K c (strict (eq-or-lt_of_le (a tt))), le_of_lt c.most)
  where
    strict : (4 * X ≡ (2 * Q + 1) * (2 * Q + 1) * 4 ^ K) ⊎ (4 * X < (2 * Q + 1) * (2 * Q + 1) * 4 ^ K) → 4 * X < (2 * Q + 1) * (2 * Q + 1) * 4 ^ K
    strict (inl t) = absurd (no_tie X Q K N w t)
    strict (inr l) = l
half_of X Q K N w c Ordering.gt a b e = (subst (λ (z : ℕ). Half X z K) (add-one Q) (go_up X Q K c (b tt)), c.most)
half_of X Q K N w c Ordering.eq a b e = absurd (no_tie X Q K N w (e tt))

cut : (X : ℕ) → 2 ^ 104 ≤ X → Cut X (root_of X / 2 ^ (size (root_of X) - 53)) (size (root_of X) - 53)
cut X h =
    let w = root_of X in
    let K = size w - 53 in
    let Q = w / 2 ^ K in
    let i = root_is X in
    let w-least : 2 ^ 52 < w + 1 = square_lt-back (2 ^ 52) (w + 1) (lt_of_le_of_lt h i.high) in
    let s : 52 < size w = pow_lt_back 52 (size w) (lt_of_le_of_lt (at_least w w-least) (size-lt w)) in
    let reach : 2 ^ (52 + K) ≤ w = size_reaches w (52 + K) (omega arith) in
    let under : w < 2 ^ (53 + K) = lt_of_lt_of_le (size-lt w) (pow_mono (omega arith)) in
    let q-low : Q * 2 ^ K ≤ w = div-mul-le_self w (2 ^ K) in
    let q-high : w + 1 ≤ (Q + 1) * 2 ^ K = le_trans (le_of_eq (add-one w)) (le_trans (lt-div-mul-add (pow_pos K)) (le_of_eq (sym (one_more Q (2 ^ K))))) in
    record {
      least = (le-div_iff_mul-le (pow_pos K)).1 (le_trans (le_of_eq (sym (pow-add 2 52 K))) reach);
      most = (div-lt_iff_lt-mul (pow_pos K)).1 (lt_of_lt_of_le under (le_of_eq (pow-add 2 53 K)));
      low = le_trans (le_of_eq (sym (square_shift Q K))) (le_trans (mul-le-mul q-low q-low) i.low);
      high = lt_of_lt_of_le i.high (le_trans (mul-le-mul q-high q-high) (le_of_eq (square_shift (Q + 1) K)));
    }
  where
    at_least : (w : ℕ) → 2 ^ 52 < w + 1 → 2 ^ 52 ≤ w
    at_least w h = omega arith

-- the root of a number below 2 ^ 4000 has few digits
few : (X : ℕ) → X < 2 ^ 4000 → size (root_of X) - 53 ≤ 2000
few X h =
    let w = root_of X in
    let a : w < 2 ^ 2000 = square_lt-back w (2 ^ 2000) (lt_of_le_of_lt (root_is X).low (lt_of_lt_of_le h (lit≤ tt))) in
    let b : size w ≤ 2000 = size-le w 2000 a in
    omega arith

bounded : (n K : ℕ) → n ≤ 2 ^ 53 → K ≤ 2000 → n * 2 ^ K < 2 ^ 2098
bounded n K h k = lt_of_le_of_lt (le_trans (mul-le-mul_right (2 ^ K) h) (le_trans (le_of_eq (sym (pow-add 2 53 K))) (pow_mono {j = 2053} (omega arith)))) (lib.Pow.pow-lt {i = 2053} {j = 2098} (lit< tt))

-- a number of 53 digits and zeros is a multiple of the power that its root drops
multiple : (c j K Q : ℕ) → c < 2 ^ 53 → 2 ^ 52 ≤ Q → Q * Q * 4 ^ K ≤ c * 2 ^ j → c * 2 ^ j ≡ c * 2 ^ (j - (K + K)) * 4 ^ K
multiple c j K Q C L h =
    let two : 2 ^ (K + K) ≡ 4 ^ K = pow-add 2 K K ∙ sym (four-pow K) in
    let low : 2 ^ (104 + (K + K)) ≤ Q * Q * 4 ^ K = le_trans (le_of_eq (pow-add 2 104 (K + K) ∙ ap (λ (z : ℕ). 2 ^ 104 * z) two)) (mul-le-mul_right (4 ^ K) (mul-le-mul L L)) in
    let high : c * 2 ^ j < 2 ^ (53 + j) = lt_of_lt_of_le (mul-lt-mul_of_pos_right C (pow_pos j)) (le_of_eq (sym (pow-add 2 53 j))) in
    let few : 104 + (K + K) < 53 + j = pow_lt_back (104 + (K + K)) (53 + j) (lt_of_le_of_lt low (lt_of_le_of_lt h high)) in
    as_multiple c j (K + K) (omega arith) ∙ ap (λ (z : ℕ). c * 2 ^ (j - (K + K)) * z) two

pub root_nearest : (X c j : ℕ) → X ≡ c * 2 ^ j → c < 2 ^ 53 → 2 ^ 104 ≤ X → X < 2 ^ 4000 → NearestRoot X (root_float X)
unfolding root_float
root_nearest X c j e C a b =
    let K = size (root_of X) - 53 in
    let Q = root_of X / 2 ^ K in
    let r = (2 * Q + 1) * (2 * Q + 1) * 4 ^ K in
    let k = cut X a in
    let m = e ∙ multiple c j K Q C k.least (le_trans k.low (le_of_eq e)) in
    let h = half_of X Q K (c * 2 ^ (j - (K + K))) m k (compare (4 * X) r) (leb→le (4 * X) r) (nleb→lt (4 * X) r) (eqb→eq (4 * X) r) in
    near_of_half X (nearest Q (compare (4 * X) r)) K h.0 h.1 (bounded (nearest Q (compare (4 * X) r)) K h.1 (few X b))

pub sqrt-nearest : SqrtMeans
unfolding sqrt_of
sqrt-nearest m e f =
    let g = fits-digits binary64 false (suc m) e f in
    let X = suc m * up e * 4 ^ 1074 / down e in
    let p = place 1074 e g.1 in
    root_nearest X (suc m) (p.0 + 1074) (units p) g.0 (at_least g.1) (at_most (fits_under binary64 false (suc m) e f))
  where
    units : (p : (j : ℕ) × (up e * 2 ^ 1074 ≡ 2 ^ j * down e)) → suc m * up e * 4 ^ 1074 / down e ≡ suc m * 2 ^ (p.0 + 1074)
    units (j, h) =
        ap (λ (z : ℕ). z / down e)
        (sym (mul_assoc (suc m * up e) (2 ^ 1074) (2 ^ 1074))
        ∙ ap (λ (z : ℕ). z * 2 ^ 1074) (mul_assoc (suc m) (up e) (2 ^ 1074) ∙ ap (λ (z : ℕ). suc m * z) h ∙ sym (mul_assoc (suc m) (2 ^ j) (down e)))
        ∙ mul_right_comm (suc m * 2 ^ j) (down e) (2 ^ 1074)
        ∙ ap (λ (z : ℕ). z * down e) (mul_assoc (suc m) (2 ^ j) (2 ^ 1074) ∙ ap (λ (z : ℕ). suc m * z) (sym (pow-add 2 j 1074))))
        ∙ mul-div_cancel (suc m * 2 ^ (j + 1074)) (down_pos e)

    at_least : down e ≤ 2 ^ 1074 → 2 ^ 104 ≤ suc m * up e * 4 ^ 1074 / down e
    at_least d =
        (le-div_iff_mul-le (down_pos e)).1
        (le_trans (mul-le-mul_left (2 ^ 104) d)
        (le_trans (lit≤ {m = 2 ^ 104 * 2 ^ 1074} {n = 4 ^ 1074} tt)
        (le_trans (le_of_eq (sym (one-mul (4 ^ 1074)))) (mul-le-mul_right (4 ^ 1074) (mul-pos (zero-lt-suc m) (up_pos e))))))

    at_most : suc m * up e < 2 ^ 1024 * down e → suc m * up e * 4 ^ 1074 / down e < 2 ^ 4000
    at_most u =
        (div-lt_iff_lt-mul (down_pos e)).1
        (lt_of_lt_of_le (mul-lt-mul_of_pos_right u (lit< {m = 0} {n = 4 ^ 1074} tt))
        (le_trans (le_of_eq (mul_right_comm (2 ^ 1024) (down e) (4 ^ 1074))) (mul-le-mul_right (down e) (lit≤ {m = 2 ^ 1024 * 4 ^ 1074} {n = 2 ^ 4000} tt))))

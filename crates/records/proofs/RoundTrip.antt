-- The reader of result records gives back what was written, every real to the bit, whatever bytes stand behind the record; and the length of a record.
use mathlib.Core.Path.{◌≡◌, refl, sym, ap, ◌∙◌}
use Prim.Native.Nat.{ℕ, zero, suc, ◌+◌, ◌-◌, ◌*◌, ◌/◌, ◌^◌, ◌≤◌, ◌<◌}
use native.Mathlib.Omega.{arith}
use mathlib.Core.List.{List, [], ◌∷◌, ◌++◌, append_assoc}
use lib.ListN.{length, take, length-append}
use lib.Seq.{take_at, drop-append_seam}
use lib.Ieee.{binary64, of_bits, to_bits}
use lib.Ieee.Bits.{of_bits-to_bits, to_bits-lt}
use Rattle.records.specs.Bytes.{number, number_at, u16_at, real_at, uv_at, xyz_at, row_at, bytes, u16, real, uv, xyz, row}
use Rattle.lists.specs.Elements.{sum, All, none, and}
use Rattle.records.specs.declared.limits.Limits.{Limits}
use Rattle.records.specs.Encodable.{Encodable, most_corners}
use Rattle.records.specs.Result.{Result, encode, result_length, Short, Fits, FitsUv, FitsXyz, Writable, holes_in, loops_in, counts_in, corners_in, decode}

-- ---- one number

pub length-bytes : (w n : ℕ) → length (bytes w n) ≡ w
unfolding bytes
length-bytes zero n = refl
length-bytes (suc w) n = ap suc (length-bytes w (n / 256))

-- w bytes hold every number below 256 ^ w
number-bytes : (w n : ℕ) → n < 256 ^ w → number (bytes w n) ≡ n
unfolding number bytes
number-bytes zero n h = omega arith
number-bytes (suc w) n h = let e : number (bytes w (n / 256)) ≡ n / 256 = number-bytes w (n / 256) (omega arith) in omega arith

number_at-bytes : (w n : ℕ) → n < 256 ^ w → (p q : List ℕ) → number_at w (p ++ (bytes w n ++ q)) (length p) ≡ n
unfolding number_at
number_at-bytes w n h p q =
    ap (λ (l : List ℕ). number (take w l)) (drop-append_seam p (bytes w n ++ q)) ∙ ap number (take_at (bytes w n) q w (length-bytes w n)) ∙ number-bytes w n h

-- ---- one thing: `one` reads from any place what `write` wrote there, in w bytes

pub record Codes {A : Type 0} (one : List ℕ → ℕ → A) (write : A → List ℕ) (w : ℕ) (Ok : A → Type 0) : Type 0 where
  pub wide : (a : A) → length (write a) ≡ w
  pub back : (a : A) → Ok a → (p q : List ℕ) → one (p ++ (write a ++ q)) (length p) ≡ a

pub codes_u16 : Codes u16_at u16 2 Short
codes_u16 = record { wide = length-bytes 2; back = λ n h p q. number_at-bytes 2 n h p q }

pub codes_real : Codes real_at real 8 Fits
unfolding real_at real
codes_real = record {
  wide = λ x. length-bytes 8 (to_bits binary64 x);
  back = λ x h p q. ap (of_bits binary64) (number_at-bytes 8 (to_bits binary64 x) (to_bits-lt binary64 x h) p q) ∙ of_bits-to_bits binary64 x h;
}

module _ {A : Type 0} {one : List ℕ → ℕ → A} {write : A → List ℕ} {w : ℕ} {Ok : A → Type 0} (c : Codes one write w Ok) where
  -- a thing that stands behind p and m
  behind : (a : A) → Ok a → (p m q : List ℕ) (n : ℕ) → length m ≡ n → one (p ++ (m ++ (write a ++ q))) (length p + n) ≡ a
  behind a h p m q n e =
      let l : length (p ++ m) ≡ length p + n = length-append p m ∙ ap (λ (k : ℕ). length p + k) e in
      rw (← l, ← append_assoc p m (write a ++ q)) (c.back a h (p ++ m) q)

  -- ---- things in a row

  pub length-row : (l : List A) → length (row write l) ≡ w * length l
  unfolding row
  length-row [] = omega arith
  length-row (a ∷ l) = length-append (write a) (row write l) ∙ (let e = c.wide a in let f = length-row l in omega arith)

  row_at_none : (s : List ℕ) (p : ℕ) → row_at one w s p 0 ≡ []
  unfolding row_at
  row_at_none s p = refl

  row_at_next : (s : List ℕ) (p n : ℕ) → row_at one w s p (suc n) ≡ one s p ∷ row_at one w s (p + w) n
  unfolding row_at
  row_at_next s p n = refl

  row_back : {l : List A} → All Ok l → (p q : List ℕ) → row_at one w (p ++ (row write l ++ q)) (length p) (length l) ≡ l
  unfolding row
  row_back none p q = row_at_none _ _
  row_back (and {a} {l} h hs) p q =
      let tail : List ℕ = row write l ++ q in
      let far : length (p ++ write a) ≡ length p + w = length-append p (write a) ∙ ap (λ (k : ℕ). length p + k) (c.wide a) in
      let rest : row_at one w (p ++ (write a ++ tail)) (length p + w) (length l) ≡ l =
      rw (← far, ← append_assoc p (write a) tail) (row_back hs (p ++ write a) q) in
      rw (append_assoc (write a) (row write l) q)
      (row_at_next (p ++ (write a ++ tail)) (length p) (length l)
      ∙ ap (λ (x : A). x ∷ row_at one w (p ++ (write a ++ tail)) (length p + w) (length l)) (c.back a h p tail) ∙ ap (λ (r : List A). a ∷ r) rest)

  -- the same where the place and the number are known by equations
  row_here : {l : List A} → All Ok l → (s p q : List ℕ) (k n : ℕ) → s ≡ p ++ (row write l ++ q) → k ≡ length p → n ≡ length l → row_at one w s k n ≡ l
  row_here h s p q k n e f g = rw (e, f, g) (row_back h p q)

pub codes_uv : Codes uv_at uv 16 FitsUv
unfolding uv_at uv
codes_uv = record {
  wide = λ a. simp length-append (let e = codes_real.wide a.u in let f = codes_real.wide a.v in omega arith);
  back = λ a h p q.
      let first = codes_real.back a.u h.u p (real a.v ++ q) in
      let second = behind codes_real a.v h.v p (real a.u) q 8 (codes_real.wide a.u) in
      rw (append_assoc (real a.u) (real a.v) q) (λ i. record { u = first i; v = second i });
}

pub codes_xyz : Codes xyz_at xyz 24 FitsXyz
unfolding xyz_at xyz
codes_xyz = record {
  wide = λ a. simp length-append (let e = codes_real.wide a.x in let f = codes_real.wide a.y in let g = codes_real.wide a.z in omega arith);
  back = λ a h p q.
      let both : length (real a.x ++ real a.y) ≡ 16 = simp length-append (let e = codes_real.wide a.x in let f = codes_real.wide a.y in omega arith) in
      let first = codes_real.back a.x h.x p (real a.y ++ (real a.z ++ q)) in
      let second = behind codes_real a.y h.y p (real a.x) (real a.z ++ q) 8 (codes_real.wide a.x) in
      let third : real_at (p ++ (real a.x ++ (real a.y ++ (real a.z ++ q)))) (length p + 16) ≡ a.z =
      rw (← append_assoc (real a.x) (real a.y) (real a.z ++ q)) (behind codes_real a.z h.z p (real a.x ++ real a.y) q 16 both) in
      rw (append_assoc (real a.x) (real a.y ++ real a.z) q, append_assoc (real a.y) (real a.z) q)
      (λ i. record { x = first i; y = second i; z = third i });
}

-- ---- the record

module _ (r : Result) (w : Writable r) where
  abbrev start : List ℕ
  start = 1 ∷ r.path ∷ (length r.counts - 1) ∷ 0 ∷ []

  abbrev C : List ℕ
  C = row u16 r.counts

  abbrev A : List ℕ
  A = row real r.areas

  abbrev P : List ℕ
  P = row uv r.parameters

  abbrev X : List ℕ
  X = row xyz r.positions

  size_C : length C ≡ 2 * length r.counts
  size_C = length-row codes_u16 r.counts

  size-A : length A ≡ 8 * length r.counts
  size-A = length-row codes_real r.areas ∙ ap (λ (n : ℕ). 8 * n) w.an_area_each

  size-P : length P ≡ 16 * sum r.counts
  size-P = length-row codes_uv r.parameters ∙ ap (λ (n : ℕ). 16 * n) w.a_pair_each

  size_X : length X ≡ 24 * sum r.counts
  size_X = length-row codes_xyz r.positions ∙ ap (λ (n : ℕ). 24 * n) w.a_position_each

  pub length-encode : length (encode r) ≡ result_length (length r.counts - 1) (sum r.counts)
  unfolding encode
  length-encode =
      simp length-append (let a = size_C in let b = size-A in let c = size-P in let d = size_X in let e = w.outer in omega arith)

  module _ (rest : List ℕ) where
    abbrev b : List ℕ
    b = encode r ++ rest

    loops-back : loops_in b ≡ length r.counts
    unfolding encode
    loops-back = let e = w.outer in omega arith

    counts-back : counts_in b ≡ r.counts
    unfolding encode counts_in
    counts-back = row_here codes_u16 w.short b start (A ++ (P ++ X) ++ rest) 4 (loops_in b) (simp append_assoc) refl loops-back

    corners-back : corners_in b ≡ sum r.counts
    unfolding corners_in
    corners-back = ap sum counts-back

    areas-back : row_at real_at 8 b (4 + 2 * loops_in b) (loops_in b) ≡ r.areas
    unfolding encode
    areas-back =
        row_here codes_real w.areas_fit b (start ++ C) ((P ++ X) ++ rest) (4 + 2 * loops_in b) (loops_in b)
        (simp append_assoc) (simp length-append (let e = loops-back in let c = size_C in omega arith)) (loops-back ∙ sym w.an_area_each)

    parameters-back : row_at uv_at 16 b (4 + 10 * loops_in b) (corners_in b) ≡ r.parameters
    unfolding encode
    parameters-back =
        row_here codes_uv w.parameters_fit b (start ++ (C ++ A)) (X ++ rest) (4 + 10 * loops_in b) (corners_in b)
        (simp append_assoc) (simp length-append (let e = loops-back in let c = size_C in let a = size-A in omega arith)) (corners-back ∙ sym w.a_pair_each)

    positions-back : row_at xyz_at 24 b (4 + 10 * loops_in b + 16 * corners_in b) (corners_in b) ≡ r.positions
    unfolding encode
    positions-back =
        row_here codes_xyz w.positions_fit b (start ++ (C ++ (A ++ P))) rest (4 + 10 * loops_in b + 16 * corners_in b) (corners_in b)
        (simp append_assoc)
        (simp length-append (let e = loops-back in let f = corners-back in let c = size_C in let a = size-A in let d = size-P in omega arith))
        (corners-back ∙ sym w.a_position_each)

    pub decode-encode : decode b ≡ r
    unfolding decode encode
    decode-encode = λ i. record {
      path = r.path;
      counts = counts-back i;
      areas = areas-back i;
      parameters = parameters-back i;
      positions = positions-back i;
    }

    -- the length, with the holes and the counts read from the bytes
    pub length_read : length (encode r) ≡ result_length (holes_in b) (corners_in b)
    unfolding encode
    length_read = let e = loops-back in let f = corners-back in let g = length-encode in omega arith

  -- within the limits, an outer loop and a hole for each given loop with the corners of a strip and of all given points, the lent bytes are enough
  pub encode-fits : (L : Limits) → Encodable L → length r.counts ≤ L.loops + 1 → sum r.counts ≤ most_corners L → length (encode r) ≤ L.result
  encode-fits L fit h c = let e = length-encode in let f = fit.enough in omega arith

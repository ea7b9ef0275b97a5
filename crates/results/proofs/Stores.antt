-- Bytes stored one after another: what is stored, with what remains to be stored, is the whole.
use mathlib.Core.Path.{◌≡◌, refl, sym, ap, ◌∙◌}
use mathlib.Core.List.{List, ◌++◌}
use Prim.Native.Nat.{ℕ, ◌+◌, ◌-◌, ◌*◌, ◌/◌, ◌≤◌, ◌<◌}
use native.Mathlib.Numerals.{add-one}
use native.Mathlib.Omega.{arith}
use Rattle.std.proofs.Common.{append_assoc}
use lib.ListN.{length, get_or, take, drop, drop_of_length-le}
use lib.Seq.{sets, sets-eq, length-sets, drop-cons, drop-drop}
use lib.Ieee.{Float, binary64, to_bits}
use Rattle.lists.proofs.Stores.{sets-append}
use Rattle.std.specs.Int.{w64, to_le_bytes}
use Rattle.records.specs.Bytes.{bytes, real, row}

-- ---- bytes put where they go

-- what a copy into a part of the lent bytes leaves
pub put_part : (out w : List ℕ) (p e : ℕ) → e ≡ p + length w → e ≤ length out → take p out ++ (w ++ drop (e - p) (drop p out)) ≡ sets out p w
put_part out w p e q h =
    let n : p + (e - p) ≡ p + length w = omega arith in
    ap (λ (r : List ℕ). take p out ++ (w ++ r)) (drop-drop (e - p) p out ∙ ap (λ (k : ℕ). drop k out) n)
    ∙ rw (sets-eq w out p (omega arith), append_assoc)

-- the bytes that `to_le_bytes` gives
pub eight : (n : ℕ) → to_le_bytes w64 n ≡ bytes 8 n
unfolding bytes
eight n =
    let c : n / 256 / 256 ≡ n / 65536 = omega arith in
    let d : n / 256 / 256 / 256 ≡ n / 16777216 = omega arith in
    let e : n / 256 / 256 / 256 / 256 ≡ n / 4294967296 = omega arith in
    let f : n / 256 / 256 / 256 / 256 / 256 ≡ n / 1099511627776 = omega arith in
    let g : n / 256 / 256 / 256 / 256 / 256 / 256 ≡ n / 281474976710656 = omega arith in
    let h : n / 256 / 256 / 256 / 256 / 256 / 256 / 256 ≡ n / 72057594037927936 = omega arith in
    rw (h, g, f, e, d, c)

pub as_real : (x : Float) → to_le_bytes w64 (to_bits binary64 x) ≡ real x
unfolding real
as_real x = eight (to_bits binary64 x)

-- ---- things in a row: i of them are stored

pub record Storing {A : Type 0} (write : A → List ℕ) (w : ℕ) (out₀ : List ℕ) (p : ℕ) (xs : List A) (out : List ℕ) (i : ℕ) : Type 0 where
  pub long : length out ≡ length out₀
  pub is : sets out (p + w * i) (row write (drop i xs)) ≡ sets out₀ p (row write xs)

module _ {A : Type 0} {write : A → List ℕ} {w : ℕ} (wide : (a : A) → length (write a) ≡ w) {out₀ : List ℕ} {p : ℕ} {xs : List A} where
  pub store_start : Storing write w out₀ p xs out₀ 0
  store_start = let e : p + w * 0 ≡ p = omega arith in record { long = refl; is = rw e }

  module _ {out : List ℕ} {i : ℕ} (r : Storing write w out₀ p xs out i) where
    -- what is left begins with thing i
    left : (d : A) → i < length xs → row write (drop i xs) ≡ write (get_or xs i d) ++ row write (drop (i + 1) xs)
    unfolding row
    left d h = rw (add-one i, drop-cons xs i d h)

    pub store_turn : {out' : List ℕ} (d : A) → i < length xs → out' ≡ sets out (p + w * i) (write (get_or xs i d)) → Storing write w out₀ p xs out' (i + 1)
    store_turn d h e =
        let a = get_or xs i d in
        let q : p + w * (i + 1) ≡ p + w * i + length (write a) = let z = wide a in omega arith in
        record {
          long = ap length e ∙ length-sets out (p + w * i) (write a) ∙ r.long;
          is = rw e (sets-append out (p + w * i) (p + w * (i + 1)) (write a) (row write (drop (i + 1) xs)) q ∙ ap (sets out (p + w * i)) (sym (left d h)) ∙ r.is);
        }

    pub store_end : length xs ≤ i → out ≡ sets out₀ p (row write xs)
    unfolding row
    store_end h = rw (drop_of_length-le xs {i = i} h) at r.is

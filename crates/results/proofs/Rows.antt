-- The rows of a result record while they are stored: counts, reals, and corners.
use mathlib.Core.Path.{◌≡◌, ap, ◌∙◌}
use mathlib.Core.List.{List, [], ◌∷◌}
use Prim.Native.Nat.{ℕ, ◌+◌, ◌*◌, ◌≤◌, ◌<◌}
use lib.ListN.{length, get_or}
use lib.Seq.{sets}
use lib.Ieee.{Float, nan, binary64, to_bits}
use Rattle.std.specs.Int.{w64, to_le_bytes}
use Rattle.records.specs.Bytes.{bytes, u16, real, row}
use Rattle.records.proofs.RoundTrip.{codes_u16, codes_real}
use Rattle.numbers.specs.declared.math.Vec3.{Vec3}
use Rattle.tables.specs.Corners.{Corner, Corners}
use Rattle.tables.specs.Rows.{none}
use Rattle.results.proofs.Stores.{Storing, store_start, store_turn, store_end, as_real}

-- ---- counts

abbrev pub Counts : (out₀ : List ℕ) (p : ℕ) (xs out : List ℕ) (i : ℕ) → Type 0
Counts = Storing u16 2

module _ {out₀ : List ℕ} {p : ℕ} {xs : List ℕ} where
  pub counts_start : Counts out₀ p xs out₀ 0
  counts_start = store_start codes_u16.wide

  module _ {out : List ℕ} {i : ℕ} (r : Counts out₀ p xs out i) where
    pub counts_turn : {out' b : List ℕ} → i < length xs → b ≡ to_le_bytes w64 (get_or xs i 0)
        → out' ≡ sets out (p + 2 * i) (get_or b 0 0 ∷ get_or b 1 0 ∷ [])
        → Counts out₀ p xs out' (i + 1)
    unfolding bytes
    counts_turn h b e = store_turn codes_u16.wide r 0 h (e ∙ ap (λ (l : List ℕ). sets out (p + 2 * i) (get_or l 0 0 ∷ get_or l 1 0 ∷ [])) b)

    pub counts_end : length xs ≤ i → out ≡ sets out₀ p (row u16 xs)
    counts_end h = store_end codes_u16.wide r h

-- ---- reals: n are the bits of the next

abbrev pub Reals : (out₀ : List ℕ) (p : ℕ) (xs : List Float) (out : List ℕ) (i : ℕ) → Type 0
Reals = Storing real 8

module _ {out₀ : List ℕ} {p : ℕ} {xs : List Float} where
  pub reals-start : Reals out₀ p xs out₀ 0
  reals-start = store_start codes_real.wide

  module _ {out : List ℕ} {i : ℕ} (r : Reals out₀ p xs out i) where
    pub reals_turn : {out' b : List ℕ} {n : ℕ} → i < length xs → n ≡ to_bits binary64 (get_or xs i nan)
        → b ≡ to_le_bytes w64 n → out' ≡ sets out (p + 8 * i) b
        → Reals out₀ p xs out' (i + 1)
    reals_turn h n b e = store_turn codes_real.wide r nan h
        (e ∙ ap (sets out (p + 8 * i)) (b ∙ ap (to_le_bytes w64) n ∙ as_real (get_or xs i nan)))

    pub reals-end : length xs ≤ i → out ≡ sets out₀ p (row real xs)
    reals-end h = store_end codes_real.wide r h

-- ---- corners

module _ {write : Corner Vec3 → List ℕ} {w : ℕ} (wide : (c : Corner Vec3) → length (write c) ≡ w) {out₀ : List ℕ} {p : ℕ} {t : Corners Vec3} where
  pub corners_start : Storing write w out₀ p t out₀ 0
  corners_start = store_start wide

  module _ {out : List ℕ} {i : ℕ} (r : Storing write w out₀ p t out i) where
    pub corners_turn : {out' bytes : List ℕ} → i < length t → bytes ≡ write (get_or t i none) → out' ≡ sets out (p + w * i) bytes
        → Storing write w out₀ p t out' (i + 1)
    corners_turn {out'} {bytes} h b e = store_turn wide r none h (e ∙ ap (sets out (p + w * i)) b)

    pub corners_end : {whole : List ℕ} → length t ≤ i → row write t ≡ whole → out ≡ sets out₀ p whole
    corners_end h e = store_end wide r h ∙ ap (sets out₀ p) e

-- What the writer was given is read back from its bytes; and the table that holds the loops of a closed face gives that face's record.
use mathlib.Core.Path.{◌≡◌, refl, sym}
use mathlib.Core.Bool.{Bool, true, false, ◌&&◌, true≢false}
use mathlib.Core.List.{List, [], ◌∷◌, map}
use Prim.Native.Nat.{ℕ, zero, suc}
use lib.ListN.{length, take}
use lib.Ieee.{Float}
use borrow.Author.Tests.{ltb-true, leb-true}
use Rattle.numbers.specs.declared.math.Vec3.{Vec3}
use Rattle.records.specs.Bytes.{◌<?◌, ◌≤?◌}
use Rattle.lists.specs.Elements.{sum, All, none, and}
use Rattle.records.specs.Result.{encode, decode, Short, Fits, FitsUv, FitsXyz, Writable, Loop, corners_of, count_of, area_of, result_of}
use Rattle.records.specs.Lent.{filled_if}
use Rattle.tables.specs.Corners.{Corner, Corners, uv_of, positions}
use Rattle.tables.specs.Rows.{rows}
use Rattle.tables.specs.declared.corners.Corner.{Corner as Held}
use Rattle.records.proofs.RoundTrip.{decode-encode}
use Rattle.results.specs.Written.{table_result, all_short, header_holds, length_of, result_fits, Fitting}
use Rattle.results.proofs.Whole.{and_fst, and_snd, area_each, pair_each, position_each}

-- ---- doubles

all_take : {A : Type 0} {P : A → Type 0} (n : ℕ) {l : List A} → All P l → All P (take n l)
all_take zero h = none
all_take (suc n) none = none
all_take (suc n) (and h hs) = and h (all_take n hs)

-- all five reals of a corner are doubles
pub record FitsCorner (c : Corner Vec3) : Type 0 where
  pub parameters : FitsUv (uv_of c)
  pub position : FitsXyz c.at

all_parameters : {r : Corners Vec3} → All FitsCorner r → All FitsUv (map uv_of r)
all_parameters none = none
all_parameters (and h hs) = and h.parameters (all_parameters hs)

all_positions : {r : Corners Vec3} → All FitsCorner r → All FitsXyz (positions r)
all_positions none = none
all_positions (and h hs) = and h.position (all_positions hs)

all_short_lem : (counts : List ℕ) → all_short counts ≡ true → All Short counts
unfolding all_short
all_short_lem [] e = none
all_short_lem (n ∷ ns) e = go (n <? 65536) refl e (all_short_lem ns)
  where
    go : (b : Bool) → (n <? 65536) ≡ b → (b && all_short ns) ≡ true → (all_short ns ≡ true → All Short ns) → All Short (n ∷ ns)
    go true h e ih = and (ltb-true n 65536 h) (ih e)
    go false h e ih = absurd (true≢false (sym e))

-- ---- what fits can be written, and is read back

module _ (counts : List ℕ) (areas : List Float) (t : List Held) (out : List ℕ) (fits : result_fits counts (length areas) (length (rows t)) (length out) ≡ true) where
  header : header_holds counts ≡ true
  unfolding result_fits
  header = and_fst (header_holds counts) _ fits

  few_short : ((length counts ≤? 256) && all_short counts) ≡ true
  unfolding header_holds
  few_short = and_snd (1 ≤? length counts) _ header

  fitting : Fitting out counts areas (sum counts) (rows t)
  unfolding result_fits header_holds
  fitting =
      let bytes = and_snd (header_holds counts) _ fits in
      let slices = and_snd (length_of counts ≤? length out) _ bytes in
      record {
        outer = leb-true 1 (length counts) (and_fst (1 ≤? length counts) _ header);
        few = leb-true (length counts) 256 (and_fst (length counts ≤? 256) _ few_short);
        corners = refl;
        an_area_each = leb-true (length counts) (length areas) (and_fst (length counts ≤? length areas) _ slices);
        room = leb-true (sum counts) _ (and_snd (length counts ≤? length areas) _ slices);
        long = leb-true (length_of counts) (length out) (and_fst (length_of counts ≤? length out) _ bytes);
      }

  module _ (fa : All Fits areas) (fr : All FitsCorner (rows t)) (path : ℕ) where
    pub table_writable : Writable (table_result path counts areas (rows t))
    unfolding table_result
    table_writable =
        let w = fitting in
        record {
          outer = w.outer;
          few = w.few;
          short = all_short_lem counts (and_snd (length counts ≤? 256) _ few_short);
          an_area_each = area_each w;
          a_pair_each = pair_each w;
          a_position_each = position_each w;
          areas_fit = all_take (length counts) fa;
          parameters_fit = all_parameters (all_take (sum counts) fr);
          positions_fit = all_positions (all_take (sum counts) fr);
        }

    -- the lent bytes after writing, read as a result record
    pub read_back : decode (filled_if true (encode (table_result path counts areas (rows t))) out) ≡ table_result path counts areas (rows t)
    unfolding filled_if
    read_back = decode-encode (table_result path counts areas (rows t)) table_writable _

-- ---- a table that holds loops

-- the corners of all loops at the front of a table, the counts, and the areas at the front of theirs
pub table_loops : (ls : List (Loop (Corner Vec3))) (path : ℕ) (counts : List ℕ) (areas : List Float) (r : Corners Vec3)
    → counts ≡ map count_of ls → take (length counts) areas ≡ map area_of ls → take (sum counts) r ≡ corners_of ls
    → table_result path counts areas r ≡ result_of uv_of (λ (c : Corner Vec3). c.at) path ls
unfolding table_result result_of
table_loops ls path counts areas r ec ea er =
    λ i. record { path = path; counts = ec i; areas = ea i; parameters = map uv_of (er i); positions = positions (er i) }

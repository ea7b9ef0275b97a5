-- The parts of a result record stored one behind another are the record; and what the writer answers.
use mathlib.Core.Path.{◌≡◌, refl, sym, ap, ◌∙◌}
use mathlib.Core.Bool.{Bool, true, false, ◌&&◌, true≢false}
use mathlib.Core.List.{List, [], ◌∷◌, ◌++◌, map}
use Prim.Native.Nat.{ℕ, ◌+◌, ◌-◌, ◌*◌, ◌≤◌, ◌<◌}
use native.Mathlib.Omega.{arith}
use lib.ListN.{length, take, drop, length-append, length-map}
use lib.Seq.{sets, sets-eq, length-take-le}
use lib.Ieee.{Float}
use Rattle.numbers.specs.declared.math.Vec3.{Vec3}
use borrow.Author.Tests.{le-leb, lt-leb, leb-true}
use Rattle.lists.proofs.Stores.{sets-append}
use Rattle.records.specs.Bytes.{◌≤?◌, u16, real, uv, xyz, row}
use Rattle.lists.specs.Elements.{sum}
use Rattle.records.specs.Result.{encode}
use Rattle.records.specs.Lent.{front, filled_if}
use Rattle.records.proofs.RoundTrip.{codes_u16, codes_real, codes_uv, codes_xyz, length-row}
use Rattle.results.specs.declared.Path.{Path}
use Rattle.results.specs.declared.RecordSize.{RecordSize}
use Rattle.std.specs.Prelude.{Some, None}
use Rattle.std.specs.Bool.{then_some}
use Rattle.results.specs.Written.{path_of, table_result, header_holds, length_of, size_by, size_of, result_fits, Fitting, RowsWrittenTo}
use Rattle.tables.specs.Corners.{Corner, Corners, uv_of, positions}

-- ---- the parts

module _ {out counts : List ℕ} {areas : List Float} {m : ℕ} {t : Corners Vec3} (w : Fitting out counts areas m t) where
  corners_long : length (take m t) ≡ m
  corners_long = length-take-le m t w.room

  -- how many are taken from the front of a table that has these rows
  pub front_long : {A : Type 0} (table : List A) → length t ≡ length table → m ≡ length (take m table)
  front_long table e = sym (length-take-le m table (let k = w.room in omega arith))

  -- how many areas, parameters and positions there are
  pub area_each : length (take (length counts) areas) ≡ length counts
  area_each = length-take-le (length counts) areas w.an_area_each

  pub pair_each : length (map uv_of (take m t)) ≡ m
  pair_each = length-map (take m t) (λ (c : Corner Vec3). uv_of c) ∙ corners_long

  pub position_each : length (positions (take m t)) ≡ m
  position_each = length-map (take m t) (λ (c : Corner Vec3). c.at) ∙ corners_long

  abbrev n : ℕ
  n = length counts

  abbrev C : List ℕ
  C = row u16 counts

  abbrev A : List ℕ
  A = row real (take n areas)

  abbrev P : List ℕ
  P = row uv (map uv_of (take m t))

  abbrev X : List ℕ
  X = row xyz (positions (take m t))

  size_C : length C ≡ 2 * n
  size_C = length-row codes_u16 counts

  size-A : length A ≡ 8 * n
  size-A = length-row codes_real (take n areas) ∙ ap (λ (k : ℕ). 8 * k) area_each

  size-P : length P ≡ 16 * m
  size-P = length-row codes_uv (map uv_of (take m t)) ∙ ap (λ (k : ℕ). 16 * k) pair_each

  size_X : length X ≡ 24 * m
  size_X = length-row codes_xyz (positions (take m t)) ∙ ap (λ (k : ℕ). 24 * k) position_each

  -- a, b, c, d, e are the lent bytes after the header and after each row; `firsts` are the corners that are written
  pub whole : (path : ℕ) {firsts : Corners Vec3} {a b c d e : List ℕ} → firsts ≡ take m t → a ≡ sets out 0 (1 ∷ path ∷ (n - 1) ∷ 0 ∷ []) → b ≡ sets a 4 C → c ≡ sets b (4 + 2 * n) A
      → d ≡ sets c (4 + 10 * n) (row uv (map uv_of firsts)) → e ≡ sets d (4 + 10 * n + 16 * m) (row xyz (positions firsts))
      → e ≡ front (encode (table_result path counts areas t)) out
  unfolding encode table_result
  whole path {firsts} {a} {b} {c} {d} {e} taken ea eb ec ed₀ ee₀ =
      let ed : d ≡ sets c (4 + 10 * n) P = ed₀ ∙ ap (sets c (4 + 10 * n)) (ap (λ (r : Corners Vec3). row uv (map uv_of r)) taken) in
      let ee : e ≡ sets d (4 + 10 * n + 16 * m) X = ee₀ ∙ ap (sets d (4 + 10 * n + 16 * m)) (ap (λ (r : Corners Vec3). row xyz (positions r)) taken) in
      let start : List ℕ = 1 ∷ path ∷ (n - 1) ∷ 0 ∷ [] in
      let sc = size_C in
      let sa = size-A in
      let sp = size-P in
      let sx = size_X in
      let one = w.outer in
      let fits = w.long in
      let all : List ℕ = start ++ (C ++ (A ++ (P ++ X))) in
      let px : e ≡ sets c (4 + 10 * n) (P ++ X) = ee ∙ rw ed (sets-append c (4 + 10 * n) (4 + 10 * n + 16 * m) P X (omega arith)) in
      let apx : e ≡ sets b (4 + 2 * n) (A ++ (P ++ X)) = px ∙ rw ec (sets-append b (4 + 2 * n) (4 + 10 * n) A (P ++ X) (omega arith)) in
      let capx : e ≡ sets a 4 (C ++ (A ++ (P ++ X))) = apx ∙ rw eb (sets-append a 4 (4 + 2 * n) C (A ++ (P ++ X)) (omega arith)) in
      let whole_is : e ≡ sets out 0 all = capx ∙ rw ea (sets-append out 0 4 start (C ++ (A ++ (P ++ X))) refl) in
      let l : length all ≡ length_of counts = simp length-append (let q = w.corners in omega arith) in
      let g : 0 + length all ≡ length all = omega arith in
      let named : all ≡ encode (table_result path counts areas t) = rw w.corners in
      whole_is ∙ sets-eq all out 0 (omega arith) ∙ ap (λ (k : ℕ). all ++ drop k out) g ∙ ap (λ (r : List ℕ). front r out) named

-- ---- bools

and_right : (a b : Bool) → b ≡ false → (a && b) ≡ false
and_right true b e = e
and_right false b e = refl

pub and_fst : (a b : Bool) → (a && b) ≡ true → a ≡ true
and_fst true b e = refl
and_fst false b e = e

pub and_snd : (a b : Bool) → (a && b) ≡ true → b ≡ true
and_snd true b e = e
and_snd false b e = absurd (true≢false (sym e))

-- ---- what the writer answers

-- `result_size` has given what a record takes
pub record Sized (counts : List ℕ) (size : RecordSize) : Type 0 where
  pub held : header_holds counts ≡ true
  pub corners : size.corners ≡ sum counts
  pub long : size.length ≡ length_of counts

pub sized : {counts : List ℕ} {size : RecordSize} → Some size ≡ size_of counts → Sized counts size
unfolding size_of
sized {counts} {size} e = go (header_holds counts) refl e
  where
    go : (b : Bool) → header_holds counts ≡ b → Some size ≡ then_some b (size_by counts) → Sized counts size
    go true h q = let e : size ≡ size_by counts = cc in record { held = h; corners = ap (λ (k : RecordSize). k.corners) e; long = ap (λ (k : RecordSize). k.length) e }
    go false h q = absurd (cc)

-- behind the last test, with r the rows of the table
pub fitting : {out counts : List ℕ} {areas : List Float} {t : Corners Vec3} {size : RecordSize} {r : ℕ} → Sized counts size → size.length ≤ length out
    → length counts ≤ length areas → r ≡ length t → size.corners ≤ r → Fitting out counts areas size.corners t
unfolding header_holds
fitting {counts = counts} s h a q l = record {
  outer = leb-true 1 (length counts) (and_fst (1 ≤? length counts) _ s.held);
  few = leb-true (length counts) 256 (and_fst (length counts ≤? 256) _ (and_snd (1 ≤? length counts) _ s.held));
  corners = s.corners;
  an_area_each = a;
  room = rw q at l;
  long = rw s.long at h;
}

abbrev fits : (counts : List ℕ) (areas : List Float) (t : Corners Vec3) (out : List ℕ) → Bool
fits counts areas t out = result_fits counts (length areas) (length t) (length out)

module _ {path : Path} {counts : List ℕ} {areas : List Float} {t : Corners Vec3} {out : List ℕ} where
  kept : fits counts areas t out ≡ false → RowsWrittenTo path counts areas t out out None
  unfolding filled_if
  kept e = record { answer = rw e; is = rw e }

  pub too_large : None ≡ size_of counts → RowsWrittenTo path counts areas t out out None
  unfolding size_of result_fits
  too_large e = kept (go (header_holds counts) e)
    where
      go : (b : Bool) → None ≡ then_some b (size_by counts)
          → (b && ((length_of counts ≤? length out) && ((length counts ≤? length areas) && (sum counts ≤? length t)))) ≡ false
      go false e = refl
      go true e = absurd (cc)

  module _ {size : RecordSize} (s : Sized counts size) where
    pub short_out : length out < size.length → RowsWrittenTo path counts areas t out out None
    unfolding result_fits
    short_out h = let l = s.long in kept (and_right (header_holds counts) _ (rw (lt-leb (length_of counts) (length out) (omega arith))))

    pub short_areas : length areas < length counts → RowsWrittenTo path counts areas t out out None
    unfolding result_fits
    short_areas h = kept (and_right (header_holds counts) _ (and_right (length_of counts ≤? length out) _ (rw (lt-leb (length counts) (length areas) h))))

    pub short_columns : {r : ℕ} → r ≡ length t → r < size.corners → RowsWrittenTo path counts areas t out out None
    unfolding result_fits
    short_columns {r} q h =
        let m = s.corners in
        let l : length t < sum counts = omega arith in
        kept (and_right (header_holds counts) _ (and_right (length_of counts ≤? length out) _ (and_right (length counts ≤? length areas) _ (lt-leb (sum counts) _ l))))

    pub done : Fitting out counts areas size.corners t → {out' : List ℕ}
        → out' ≡ front (encode (table_result (path_of path) counts areas t)) out → RowsWrittenTo path counts areas t out out' (Some size.length)
    unfolding filled_if result_fits
    done w eo =
        let all : fits counts areas t out ≡ true =
        rw (s.held, le-leb (length_of counts) (length out) w.long, le-leb (length counts) (length areas) w.an_area_each, le-leb (sum counts) _ (rw w.corners at w.room)) in
        record { answer = rw (all, s.long); is = rw all eo }

-- What the writer of result records is lent, answers and leaves.
use Rattle.std.specs.Prelude.{◌≡◌, Bool, true, ◌&&◌, List, [], ◌∷◌, map, ℕ, ◌-◌, ◌≤◌, length, take, Float, Option}
use Rattle.std.specs.Bool.{then_some}
use Rattle.numbers.specs.declared.math.Vec3.{Vec3}
use Rattle.records.specs.Bytes.{◌<?◌, ◌≤?◌}
use Rattle.lists.specs.Elements.{sum}
use Rattle.records.specs.Result.{Result, encode, result_length}
use Rattle.records.specs.Lent.{filled_if}
use Rattle.tables.specs.Corners.{Corners, uv_of, positions}
use Rattle.tables.specs.Rows.{rows}
use Rattle.tables.specs.declared.corners.Corner.{Corner as Held}
use Rattle.results.specs.declared.Path.{Path}
use Rattle.results.specs.declared.Path.TheVariants.{Closed, Wrapped, Whole}
use Rattle.results.specs.declared.RecordSize.{RecordSize}

-- 01, "The result record": "path (0 closed, 1 wrapped, 2 whole surface)"
abbrev pub path_of : Path → ℕ
path_of Closed = 0
path_of Wrapped = 1
path_of Whole = 2

-- ---- the result that a table holds

-- one area for each count, and as many corners as the counts say, from the front of the table
unfoldable pub table_result : ℕ → List ℕ → List Float → Corners Vec3 → Result
table_result path counts areas r =
    let corners = take (sum counts) r in
    record { path = path; counts = counts; areas = take (length counts) areas; parameters = map uv_of corners; positions = positions corners }

-- ---- its size

unfoldable pub all_short : List ℕ → Bool
all_short [] = true
all_short (n ∷ ns) = (n <? 65536) && all_short ns

-- an outer loop, a byte for the holes, two bytes for each count
unfoldable pub header_holds : List ℕ → Bool
header_holds counts = (1 ≤? length counts) && ((length counts ≤? 256) && all_short counts)

abbrev pub length_of : List ℕ → ℕ
length_of counts = result_length (length counts - 1) (sum counts)

-- what a record with these counts takes
abbrev pub size_by : List ℕ → RecordSize
size_by counts = record { corners = sum counts; length = length_of counts }

unfoldable pub size_of : List ℕ → Option RecordSize
size_of counts = then_some (header_holds counts) (size_by counts)

-- ---- what writing answers, and makes of the lent bytes

unfoldable pub result_fits : List ℕ → (areas room lent : ℕ) → Bool
result_fits counts areas room lent = header_holds counts && ((length_of counts ≤? lent) && ((length counts ≤? areas) && (sum counts ≤? room)))

pub record RowsWrittenTo (path : Path) (counts : List ℕ) (areas : List Float) (rows : Corners Vec3) (out out' : List ℕ) (r : Option ℕ) : Type 0 where
  pub answer : r ≡ then_some (result_fits counts (length areas) (length rows) (length out)) (length_of counts)
  pub is : out' ≡ filled_if (result_fits counts (length areas) (length rows) (length out)) (encode (table_result (path_of path) counts areas rows)) out

-- of a table of corners, its rows
abbrev pub WrittenTo : Path → List ℕ → List Float → List Held → List ℕ → List ℕ → Option ℕ → Type 0
WrittenTo path counts areas t = RowsWrittenTo path counts areas (rows t)

-- ---- the table holds a record of m corners, and it fits the lent bytes

pub record Fitting (out counts : List ℕ) (areas : List Float) (m : ℕ) (rows : Corners Vec3) : Type 0 where
  pub outer : 1 ≤ length counts
  pub few : length counts ≤ 256
  pub corners : m ≡ sum counts
  pub an_area_each : length counts ≤ length areas
  pub room : m ≤ length rows
  pub long : length_of counts ≤ length out

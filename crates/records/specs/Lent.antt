-- What reading and writing answer, and what they leave in lent slices: where something lent is too short, nothing is written.
use Rattle.std.specs.Prelude.{◌≡◌, Bool, ◌&&◌, cond, List, ◌++◌, ℕ, ◌+◌, ◌*◌, ◌≤◌, length, drop, Float, Option}
use Rattle.std.specs.Bool.{then_some}
use Rattle.tables.specs.Rows.{rows}
use Rattle.tables.specs.declared.corners.Corner.{Corner}
use Rattle.records.specs.Bytes.{◌≤?◌}
use Rattle.records.specs.Face.{header_size, head_reals, loops, counts, head, points, real_place, needed, corners_in}

-- w at the front of d, the rest of d as it was
abbrev pub front : {A : Type 0} → List A → List A → List A
front w d = w ++ drop (length w) d

-- d filled with w from its front where all fits, else as it was
unfoldable pub filled_if : {A : Type 0} → Bool → List A → List A → List A
filled_if fits w d = cond fits (front w d) d

-- ---- reading: `room` is how many values the lent slices hold

unfoldable pub counts_there : List ℕ → Bool
counts_there s = header_size + 2 * loops s ≤? length s

unfoldable pub counts_fit : List ℕ → ℕ → Bool
counts_fit s room = counts_there s && (loops s ≤? room)

unfoldable pub head_fits : List ℕ → ℕ → Bool
head_fits s room = (real_place s head_reals ≤? length s) && (head_reals ≤? room)

unfoldable pub points_fit : List ℕ → ℕ → Bool
points_fit s room = (needed s ≤? length s) && (points s ≤? room)

-- what reading w into the slice d answers, and makes of it
pub record ReadInto {A : Type 0} (fits : Bool) (w d d' : List A) (r : Option ℕ) : Type 0 where
  pub answer : r ≡ then_some fits (length w)
  pub is : d' ≡ filled_if fits w d

-- the points of s are there, n of them, and fit
pub record CornersRoom (s : List ℕ) (n : ℕ) (t : List Corner) : Type 0 where
  pub many : n ≡ points s
  pub there : needed s ≤ length s
  pub room : n ≤ length (rows t)

-- what each of the three reading functions answers and leaves

abbrev pub CountsRead : List ℕ → (d d' : List ℕ) → Option ℕ → Type 0
CountsRead s d = ReadInto (counts_fit s (length d)) (counts s) d

abbrev pub HeadRead : List ℕ → (d d' : List Float) → Option ℕ → Type 0
HeadRead s d = ReadInto (head_fits s (length d)) (head s) d

abbrev pub CornersRead : List ℕ → (t t' : List Corner) → Option ℕ → Type 0
CornersRead s t t' = ReadInto (points_fit s (length (rows t))) (corners_in s) (rows t) (rows t')

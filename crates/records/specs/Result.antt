-- 01, "The result record": what is written, and how it is read.
use Rattle.std.specs.Prelude.{◌≡◌, ℕ, ◌+◌, ◌-◌, ◌*◌, ◌≤◌, ◌<◌, List, [], ◌∷◌, ◌++◌, map, length, T, Float}
use Rattle.std.specs.Float.{binary64}
use Rattle.std.specs.Float.Ieee.{fits}
use Rattle.lists.specs.Pieces.{pieces}
use Rattle.numbers.specs.declared.math.Vec2.{Vec2}
use Rattle.numbers.specs.declared.math.Vec3.{Vec3}
use Rattle.records.specs.Bytes.{byte_at, u16_at, real_at, uv_at, xyz_at, row_at, u16, real, uv, xyz, row}
use Rattle.lists.specs.Elements.{sum, All}

-- A closed face: its path (0 closed, 1 wrapped, 2 whole surface); the corner count and the area of the outer loop and of each hole; "two parallel arrays over all corners".
pub record Result : Type 0 where
  pub path : ℕ
  pub counts : List ℕ
  pub areas : List Float
  pub parameters : List Vec2
  pub positions : List Vec3

-- "byte 0 version (1), byte 1 path, byte 2 holes, byte 3 zero; then a two-byte corner count for the outer loop and each hole.
-- One area for each loop follows, then two parallel arrays over all corners: parameters (u, v), then positions (x, y, z)."
unfoldable pub encode : Result → List ℕ
encode r =
    (1 ∷ r.path ∷ (length r.counts - 1) ∷ 0 ∷ [])
    ++ (row u16 r.counts ++ (row real r.areas ++ (row uv r.parameters ++ row xyz r.positions)))

-- the length of the record of a face with some holes and corners
abbrev pub result_length : ℕ → ℕ → ℕ
result_length holes corners = 4 + 10 * (holes + 1) + 40 * corners

-- ---- what a record can hold

abbrev pub Short : ℕ → Type 0
Short n = n < 65536

-- x is a double
abbrev pub Fits : Float → Type 0
Fits x = T (fits binary64 x)

pub record FitsUv (p : Vec2) : Type 0 where
  pub u : Fits p.u
  pub v : Fits p.v

pub record FitsXyz (p : Vec3) : Type 0 where
  pub x : Fits p.x
  pub y : Fits p.y
  pub z : Fits p.z

-- An outer loop and at most 255 holes, each count in two bytes; an area for each loop, a parameter pair and a position for each corner, all of doubles.
pub record Writable (r : Result) : Type 0 where
  pub outer : 1 ≤ length r.counts
  pub few : length r.counts ≤ 256
  pub short : All Short r.counts
  pub an_area_each : length r.areas ≡ length r.counts
  pub a_pair_each : length r.parameters ≡ sum r.counts
  pub a_position_each : length r.positions ≡ sum r.counts
  pub areas_fit : All Fits r.areas
  pub parameters_fit : All FitsUv r.parameters
  pub positions_fit : All FitsXyz r.positions

-- ---- the reader, by places alone

abbrev pub holes_in : List ℕ → ℕ
holes_in b = byte_at b 2

abbrev pub loops_in : List ℕ → ℕ
loops_in b = holes_in b + 1

unfoldable pub counts_in : List ℕ → List ℕ
counts_in b = row_at u16_at 2 b 4 (loops_in b)

unfoldable pub corners_in : List ℕ → ℕ
corners_in b = sum (counts_in b)

unfoldable pub decode : List ℕ → Result
decode b = record {
  path = byte_at b 1;
  counts = counts_in b;
  areas = row_at real_at 8 b (4 + 2 * loops_in b) (loops_in b);
  parameters = row_at uv_at 16 b (4 + 10 * loops_in b) (corners_in b);
  positions = row_at xyz_at 24 b (4 + 10 * loops_in b + 16 * corners_in b) (corners_in b);
}

-- ---- loop by loop, the outer loop first

unfoldable pub loop_positions_of : Result → List (List Vec3)
loop_positions_of r = pieces r.counts r.positions

-- a loop of corners of any type, and the result that a list of loops makes
pub record Loop (C : Type 0) : Type 0 where
  pub area : Float
  pub corners : List C

unfoldable pub corners_of : {C : Type 0} → List (Loop C) → List C
corners_of [] = []
corners_of (l ∷ ls) = l.corners ++ corners_of ls

abbrev pub count_of : {C : Type 0} → Loop C → ℕ
count_of l = length l.corners

abbrev pub area_of : {C : Type 0} → Loop C → Float
area_of l = l.area

unfoldable pub result_of : {C : Type 0} → (C → Vec2) → (C → Vec3) → ℕ → List (Loop C) → Result
result_of to_uv to_xyz path ls = record {
  path = path;
  counts = map count_of ls;
  areas = map area_of ls;
  parameters = map to_uv (corners_of ls);
  positions = map to_xyz (corners_of ls);
}

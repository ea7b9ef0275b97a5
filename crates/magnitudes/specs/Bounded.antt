-- How large the reals of a result can be: what is claimed of the lent bytes after a call that closed its face, read back by the reader of result records.
-- `Within B x` says that x is finite and at most B in size, so it rules out a NaN, an infinity and a number over B at once.
use Rattle.std.specs.Prelude.{ℕ, ◌^◌, ◌≡◌, cond, List, leb, Float}
use Rattle.numbers.specs.Within.{Within, EachXyz}
use Rattle.numbers.specs.declared.math.Vec2.{Vec2}
use Rattle.records.specs.Bytes.{◌=?◌}
use Rattle.records.specs.Face.{kind}
use Rattle.records.specs.Limits.{plane, cone}
use Rattle.records.specs.Result.{Result, decode}
use Rattle.lists.specs.Elements.{All}

-- what holds of every area, of every u, of every v and of every coordinate of a result
pub record EachReal (area u v coordinate : Float → Type 0) (r : Result) : Type 0 where
  pub areas : All area r.areas
  pub us : All (λ (p : Vec2). u p.u) r.parameters
  pub vs : All (λ (p : Vec2). v p.v) r.parameters
  pub positions : All (EachXyz coordinate) r.positions

-- no real is over 10^24 in size: what 02, N9, asks of the results that are handed in
abbrev pub Bounded : List ℕ → Type 0
Bounded b = EachReal (Within (10 ^ 24)) (Within (10 ^ 24)) (Within (10 ^ 24)) (Within (10 ^ 24)) (decode b)

-- the same, nearer to what the limits of a face record give: areas at most 1,125,899,906,842,624, coordinates at most 4,294,967,296, heights at most 4,194,304
abbrev pub most_area : ℕ
most_area = 2 ^ 50

abbrev pub most_coordinate : ℕ
most_coordinate = 2 ^ 32

-- A parameter that is an angle: u of all kinds but the plane, v of sphere and torus. The record gives it up to 64, and each shift by whole periods is longer than the distance that it takes up by at most one period and 2 ^ -40 (`LeavesHalf` and `LeavesTurn` of loops); docs/MAGNITUDES.md adds them up.
abbrev pub most_angle : ℕ
most_angle = 1000

-- u of a plane: as large as the record may give it
abbrev pub most_plane_u : ℕ
most_plane_u = 1000000

-- v of plane, cylinder and cone
abbrev pub most_height : ℕ
most_height = 2 ^ 22

-- by the kind
abbrev pub most_u : ℕ → ℕ
most_u k = cond (k =? plane) most_plane_u most_angle

abbrev pub most_v : ℕ → ℕ
most_v k = cond (leb k cone) most_height most_angle

-- of the face record s, and of the result's bytes
abbrev pub Narrow : List ℕ → List ℕ → Type 0
Narrow s b = EachReal (Within most_area) (Within (most_u (kind s))) (Within (most_v (kind s))) (Within most_coordinate) (decode b)

-- of the lent bytes after a call that closed the face of the record s
pub record ResultBounded (s : List ℕ) (code : ℕ) (new : List ℕ) : Type 0 where
  pub bounded : code ≡ 0 → Bounded new
  pub narrow : code ≡ 0 → Narrow s new

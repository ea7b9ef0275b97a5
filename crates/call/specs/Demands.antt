-- The demands 1 and 3, and what 02, N2, adds of whole surfaces, as claims about one call: the face record s, the lent bytes before the call (old) and after
-- it (new), and the pair that it returns, code and value. 01: "The call returns 0 and the length", or the refusal and its place.
use Rattle.std.specs.Prelude.{ℕ, ◌^◌, ◌≤◌, ◌<◌, ◌≡◌, true, ◌↔◌, List, [], map, pos, length, get_or, drop}
use Rattle.numbers.specs.Position.{same}
use Rattle.numbers.specs.declared.math.Vec3.{Vec3}
use Rattle.surfaces.specs.Domains.{domain_of}
use Rattle.loops.specs.Steps.{net}
use Rattle.full_domain.specs.Boundary.{is_whole, us_of, vs_of, FourCorners}
use Rattle.tables.specs.Corners.{positions}
use Rattle.bands.specs.Demand.{Demand3}
use Rattle.records.specs.Bytes.{byte_at}
use Rattle.records.specs.Face.{loops, loop_positions}
use Rattle.records.specs.Limits.{version1}
use Rattle.records.specs.Refusals.{FirstToHold, NoneHolds}
use Rattle.records.specs.Result.{decode, result_length, holes_in, corners_in, loop_positions_of}
use Rattle.call.specs.Face.{surface_in, loops_in, wrapping, setting_in, given_in}
use Rattle.call.specs.Judge.{all_conditions}
use Rattle.call.specs.Paths.{result_in}

-- ---- demand 1

-- The front of the lent bytes is the complete result record of the face, n bytes long.
pub record Complete (s old : List ℕ) (n : ℕ) (new : List ℕ) : Type 0 where
  -- "byte 0 version (1) .. byte 3 zero"
  pub version_is : byte_at new 0 ≡ 1
  pub zero_is : byte_at new 3 ≡ 0
  -- all else, read back by the reader of result records, is what the three paths make of the face
  pub read_back : decode new ≡ result_in s
  -- "of a length known from its sizes": the holes and the counts that are read from the bytes
  pub length_is : n ≡ result_length (holes_in new) (corners_in new)
  -- the record lies within the lent bytes, and the 61,614 of refusal 1 are always enough
  pub inside : n ≤ length new
  pub fits : n ≤ version1.result
  -- "Bytes past that length keep their values."
  pub past_stays : drop n new ≡ drop n old

-- refusal n with place p is what is returned
pub record Refuses (code value n p : ℕ) : Type 0 where
  pub not_closed : 0 < n
  pub code_is : code ≡ n
  pub value_is : value ≡ p

-- A face record within the limits, with enough result bytes lent, gets a complete result record, of a length known from its sizes. Every other call gets
-- one numbered refusal with its place, under the published order of checks, and the lent bytes keep their old values.
pub record Demand1 (s old : List ℕ) (code value : ℕ) (new : List ℕ) : Type 0 where
  -- "A refusal is given on its condition and on no other": the first condition of the list that holds, with its place
  pub refused_exactly : (n p : ℕ) → Refuses code value n p ↔ FirstToHold (all_conditions (length old)) s n p
  -- the face is closed exactly where none of them holds
  pub closed_exactly : code ≡ 0 ↔ NoneHolds (all_conditions (length old)) s
  -- a refusal "writes nothing", and its place fits the four bytes in which the program `close` gives it
  pub refused_stays : 0 < code → new ≡ old
  pub refused_fits : 0 < code → value < 2 ^ 32
  pub closed_complete : code ≡ 0 → Complete s old value new
  pub as_many : length new ≡ length old

-- ---- demand 3

-- the positions that are read from the bytes of a result record: those of the outer loop, and those of the holes
abbrev pub outer_positions : List ℕ → List Vec3
outer_positions b = get_or (loop_positions_of (decode b)) 0 []

abbrev pub hole_positions : List ℕ → List (List Vec3)
hole_positions b = drop 1 (loop_positions_of (decode b))

-- The rings and holes of s are those of `given_in`; how they and the strip are compared and worked out is `setting_in`.
pub record BandDemand (s : List ℕ) (code : ℕ) (new : List ℕ) : Type 0 where
  -- "all positions that the face record gives": none is lost where corners are made of parameters and positions
  pub all_given : map positions (loops_in s) ≡ loop_positions s
  -- "Step counts take two positions as one when their coordinates are equal as numbers."
  pub same_is : (setting_in s).same ≡ same
  -- "byte 1 path (0 closed, 1 wrapped, 2 whole surface)": of a face that is closed it is 1 exactly where loops wrap, and those are two
  pub path_is : code ≡ 0 → (byte_at new 1 ≡ 1 ↔ 0 < wrapping s)
  pub two_wrap : code ≡ 0 → 0 < wrapping s → wrapping s ≡ 2
  -- "Demand 3 is a single claim about a returned band and its strip": of every face that is closed and of which two loops wrap, "wherever the holes lie" (02, N4)
  pub band : code ≡ 0 → wrapping s ≡ 2 → Demand3 (setting_in s) (given_in s) (outer_positions new) (hole_positions new)

-- ---- whole surfaces

-- Of every face that is closed and has no loop: "For a whole sphere or torus the step count of every pair of positions is then zero." (02, N2)
pub record WholeDemand (s : List ℕ) (code : ℕ) (new : List ℕ) : Type 0 where
  -- "byte 1 path (0 closed, 1 wrapped, 2 whole surface)": of a face that is closed it is 2 exactly where the record has no loop
  pub path_is : code ≡ 0 → (byte_at new 1 ≡ 2 ↔ loops s ≡ 0)
  -- "Sphere and torus only"
  pub kind_is : code ≡ 0 → loops s ≡ 0 → is_whole (surface_in s) ≡ true
  pub no_hole : code ≡ 0 → loops s ≡ 0 → hole_positions new ≡ []
  pub still : code ≡ 0 → loops s ≡ 0 → (p q : Vec3) → net same p q (outer_positions new) ≡ pos 0
  -- "`merge_even` now ends on its upper bound itself": the four corners of the domain are among the parameters that are read from the lent bytes. There are as
  -- many of these as of the positions; which belongs to which is `read_back` of demand 1.
  pub corners : code ≡ 0 → loops s ≡ 0 → FourCorners (domain_of (surface_in s)) (us_of (decode new).parameters) (vs_of (decode new).parameters)
  pub in_pairs : code ≡ 0 → loops s ≡ 0 → length (outer_positions new) ≡ length (decode new).parameters

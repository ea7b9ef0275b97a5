-- What the laws about lengths, counts and places ask of the limits of a version.
use Rattle.std.specs.Prelude.{ℕ, ◌+◌, ◌≤◌, ◌<◌}
use Rattle.std.proofs.Common.{arith}
use Rattle.records.specs.declared.limits.Limits.{Limits}
use Rattle.records.specs.Limits.{version1}
use Rattle.records.specs.Result.{result_length}

-- the corners that a result can have: those of a strip, and all given points in its holes
abbrev pub most_corners : Limits → ℕ
most_corners L = L.strip + L.points

pub record Encodable (L : Limits) : Type 0 where
  -- a hole for each loop is counted in one byte
  pub few_holes : L.loops ≤ 255
  -- a corner count takes two bytes
  pub short_loops : most_corners L < 65536
  -- the boundary of a whole surface has up to 1,024 corners
  pub whole_fits : 1024 ≤ most_corners L
  -- the bytes that are to be lent hold every result
  pub enough : result_length L.loops (most_corners L) ≤ L.result
  -- a place of refusal 1 takes four bytes, as those of the others do where few points are given
  pub place_fits : L.result < 4294967296

pub version1_encodable : Encodable version1
version1_encodable = record { few_holes = omega arith; short_loops = omega arith; whole_fits = omega arith; enough = omega arith; place_fits = omega arith }

-- 01, "The face record", as a description: what holds of a record that none of the refusals 2 to 7 turns away.
use Rattle.std.specs.Prelude.{◌≡◌, true, List, ℕ, ◌≤◌, ◌<◌, length}
use Rattle.records.specs.Face.{version, kind, loops, sense, segments, count, points, reals, needed, real_of}
use Rattle.records.specs.declared.limits.Limits.{Limits}
use Rattle.records.specs.Limits.{min_points, torus, holds, range}

pub record Accepted (L : Limits) (s : List ℕ) : Type 0 where
  pub version_is : version s ≡ 1
  pub kind_is : kind s ≤ torus
  pub loops_are : loops s ≤ L.loops
  pub sense_is : sense s ≤ 1
  pub some_segments : 1 ≤ segments s
  pub few_segments : segments s ≤ 64
  pub each_loop : (k : ℕ) → k < loops s → min_points ≤ count s k
  pub total : points s ≤ L.points
  pub whole : length s ≡ needed s
  pub in_range : (i : ℕ) → i < reals s → holds (range (kind s) (points s) i) (real_of s i) ≡ true

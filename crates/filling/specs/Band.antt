-- The band between two rings, closed into a table. The sentences are those of 01, "Bands", where no other place is named.
use Rattle.std.specs.Prelude.{ℕ, ◌≤◌, ◌≡◌, cond, List, leb, length, take, Result, Ok, Err}
use Rattle.numbers.specs.declared.math.Vec3.{Vec3}
use Rattle.surfaces.specs.declared.patch.Patch.{Patch}
use Rattle.tables.specs.Corners.{Corners}
use Rattle.tables.specs.Rows.{rows}
use Rattle.tables.specs.declared.corners.Corner.{Corner as Held}
use Rattle.bands.specs.Given.{Given}
use Rattle.bands.specs.Strip.{Setting}
use Rattle.bands.specs.Band.{strip_of, outer, holes}
use Rattle.strip.specs.Closing.{closed_as, no_room}
use Rattle.strip.specs.declared.closing.Closed.{Closed}
use Rattle.strip.specs.declared.closing.TooMany.{TooMany}
use Rattle.records.specs.Limits.{version1}
use Rattle.records.specs.Refusals.{at, first_where}
use Rattle.call.specs.Face.{frame_in, surface_in, options_in, wrapping, wraps_in}
use Rattle.call.specs.Later.{wraps_at}
use Rattle.measuring.specs.LastWhere.{last_where}

-- the surface of a face record, with its frame and its tolerances
abbrev pub patch_in : List ℕ → Patch
patch_in s = record { surface = surface_in s; frame = frame_in s; options = options_in s }

module _ (S : Setting Vec3) (given : Given Vec3) where
  -- how many corners the band has and its area; or how many points its strip has "before repeats are dropped", over 1,024 (01, refusal 12)
  unfoldable pub band_closing : Result Closed TooMany
  band_closing = cond (leb (length (strip_of S given)) version1.strip) (Ok (closed_as (outer S given))) (Err (no_room (length (strip_of S given))))

  -- where it closes, the band is the front of the table t; hs are the holes as the strip takes them
  pub record BandIs (r : Result Closed TooMany) (t : List Held) (hs : List (Corners Vec3)) : Type 0 where
    pub answer : r ≡ band_closing
    pub band : length (strip_of S given) ≤ version1.strip → take (length (outer S given)) (rows t) ≡ outer S given
    pub holes_are : hs ≡ holes S given

-- "Rings are taken last wrapping loop first": of the two loops of the face record s that wrap, that of number a before that of number b.
pub record RingsOf (s : List ℕ) (a b : ℕ) : Type 0 where
  pub two : wrapping s ≡ 2
  pub first_is : last_where (length (wraps_in s)) (wraps_at (wraps_in s)) ≡ at a
  pub later_is : first_where (length (wraps_in s)) (wraps_at (wraps_in s)) ≡ at b

-- `close_strip` of face.rs: two rings become one closed loop of corners.
use Rattle.std.specs.Prelude.{ℕ, ◌*◌, min, Bool, cond, List, leb, length, Result, Ok, Err}
use Rattle.numbers.specs.declared.math.Vec3.{Vec3}
use Rattle.lists.specs.Placed.{placed}
use Rattle.loops.specs.Area.{area_of}
use Rattle.loops.specs.Repeats.{drop_successive, drop_repeats, keep}
use Rattle.tables.specs.Corners.{Corner, Corners, us, vs}
use Rattle.tables.specs.declared.corners.Corner.{Corner as Held}
use Rattle.bands.specs.Strip.{Setting, strip}
use Rattle.strip.specs.Count.{capped}
use Rattle.strip.specs.declared.closing.Closed.{Closed}
use Rattle.strip.specs.declared.closing.TooMany.{TooMany}

-- how many corners the wall's table and the result's have room for: a strip has its wall twice
abbrev pub room_for : List Held → List Held → ℕ
room_for wall out = min (2 * length wall) (length out)

-- how many corners a loop has, and the area they enclose in u and v
abbrev pub closed_as : Corners Vec3 → Closed
closed_as band = record { count = length band; area = area_of (us band) (vs band) }

-- there is no room for a strip of n corners
abbrev pub no_room : ℕ → TooMany
no_room n = record { corners = capped n }

-- corners are compared by their positions
abbrev pub same_corner : Setting Vec3 → Corner Vec3 → Corner Vec3 → Bool
same_corner S a b = S.same a.at b.at

module _ (S : Setting Vec3) (lower upper : Corners Vec3) where
  -- 01, "Bands": "the band is the strip less the repeats of item 5"
  unfoldable pub band_between : Corners Vec3
  band_between = drop_repeats (same_corner S) (strip S lower upper)

  -- The answer: how many corners the band has, and its area. Where the strip has more corners than there is room for, how many those are "before
  -- repeats are dropped" (01, refusal 12).
  unfoldable pub closing_of : ℕ → Result Closed TooMany
  closing_of room = let corners = length (strip S lower upper) in cond (leb corners room) (Ok (closed_as band_between)) (Err (no_room corners))

  -- What the result's table then holds, where it held `old`: the strip less successive repeats, of which the band is the front; and `old` where the
  -- strip has no room.
  unfoldable pub closed_into : ℕ → Corners Vec3 → Corners Vec3
  closed_into room old = cond (leb (length (strip S lower upper)) room) (placed 0 (drop_successive (same_corner S) keep (strip S lower upper)) old) old

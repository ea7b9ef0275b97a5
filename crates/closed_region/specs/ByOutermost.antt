-- 02, N6: "it is to take the four outermost box ends in one pass and hold each box against those". These are the steps of that search; of
-- `by_outermost`, at the end, no more is claimed than that for ends of 64 bits it is `enclosing_one`, every box held against every other
-- (`by_outermost_lem` in proofs/outer/ByOutermost.antt).
use Rattle.std.specs.Prelude.{ℕ, zero, suc, ◌+◌, Bool, true, false, cond, ◌&&◌, List, eqb, length, Float, Option, Some, T}
use Rattle.std.specs.Float.{inf, binary64}
use Rattle.std.specs.Float.Ieee.{fits}
use Rattle.numbers.specs.Order.{min_of, max_of}
use Rattle.closed_region.specs.declared.boxes.Bounds.{Bounds}
use Rattle.closed_region.specs.declared.outer.Outermost.{Outermost}
use Rattle.closed_region.specs.Outer.{slack_of, encloses, box_at, passing, the_one}

-- its ends are values of 64 bits
pub record Fits (b : Bounds) : Type 0 where
  pub ulo : T (fits binary64 b.ulo)
  pub uhi : T (fits binary64 b.uhi)
  pub vlo : T (fits binary64 b.vlo)
  pub vhi : T (fits binary64 b.vhi)

-- the outermost ends of no boxes: within a slack that is not below 0, whatever encloses some box encloses them
abbrev pub empty_box : Bounds
empty_box = record { ulo = inf false; uhi = inf true; vlo = inf false; vhi = inf true }

-- the outermost ends of a and b
abbrev pub hull_of : Bounds → Bounds → Bounds
hull_of a b = record { ulo = min_of a.ulo b.ulo; uhi = max_of a.uhi b.uhi; vlo = min_of a.vlo b.vlo; vhi = max_of a.vhi b.vhi }

-- whether any box can enclose b: of ends of 64 bits, and within a slack that is not below 0, as `slack_of` never is, one does only where b encloses
-- itself
abbrev pub enclosable : Float → Bounds → Bool
enclosable slack b = encloses slack b b

-- how much b adds to the number of boxes that none can enclose
unfoldable pub one_if_unenclosable : Float → Bounds → ℕ
one_if_unenclosable slack b = cond (enclosable slack b) 0 1

module _ (slack : Float) (boxes : List Bounds) where
  -- "the four outermost box ends", of the enclosable ones among the first n boxes
  unfoldable pub ends_among : ℕ → Bounds
  ends_among zero = empty_box
  ends_among (suc n) = let b = box_at boxes n in cond (enclosable slack b) (hull_of (ends_among n) b) (ends_among n)

  -- how many of the first n are not enclosable
  unfoldable pub unenclosable_among : ℕ → ℕ
  unenclosable_among zero = 0
  unenclosable_among (suc n) = unenclosable_among n + one_if_unenclosable slack (box_at boxes n)

  unfoldable pub outermost_of : Outermost
  outermost_of = record { ends = ends_among (length boxes); unenclosable = unenclosable_among (length boxes) }

-- "hold each box against those": b, one of two or more boxes, encloses all others where it encloses their ends and none but b is unenclosable
unfoldable pub encloses_outermost : Float → Outermost → Bounds → Bool
encloses_outermost slack outermost b = encloses slack b outermost.ends && eqb outermost.unenclosable (one_if_unenclosable slack b)

-- whether box i does
unfoldable pub encloses_outermost_at : Float → Outermost → List Bounds → ℕ → Bool
encloses_outermost_at slack outermost boxes i = encloses_outermost slack outermost (box_at boxes i)

-- the one box that does, if there is one
abbrev pub the_one_against : Float → Outermost → List Bounds → Option ℕ
the_one_against slack outermost boxes = the_one (passing (encloses_outermost_at slack outermost boxes) (length boxes))

-- the search: a box alone has no other to enclose, and is found untested
unfoldable pub by_outermost : List Bounds → Option ℕ
by_outermost boxes =
    let slack = slack_of boxes in
    cond (eqb (length boxes) 1) (Some 0) (the_one_against slack (outermost_of slack boxes) boxes)

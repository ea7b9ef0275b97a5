-- What is read of a face record that the check lets pass: its counts, its 13 reals, and a table that holds its corners.
use Prim.Native.Nat.{ℕ, ◌+◌, ◌*◌, ◌≤◌}
use mathlib.Core.Path.{◌≡◌, ap, ◌∙◌}
use mathlib.Core.Bool.{Bool, true}
use mathlib.Core.List.{List}
use native.Mathlib.Omega.{arith}
use borrow.Author.Tests.{le-leb}
use lib.Ieee.{Float}
use lib.ListN.{length, take, drop}
use lib.Seq.{take_at}
use Rattle.tables.specs.Rows.{rows}
use Rattle.tables.specs.declared.corners.Corner.{Corner as Held}
use Rattle.tables.proofs.Rows.{rows_take}
use Rattle.std.specs.Prelude.{Option, Some}
use Rattle.records.specs.declared.limits.Limits.{Limits}
use Rattle.records.specs.Accepted.{Accepted}
use Rattle.records.specs.Face.{header_size, head_reals, loops, counts, head, points, real_place, needed, corners_in}
use Rattle.records.specs.Lent.{filled_if, counts_there, counts_fit, head_fits, points_fit, CountsRead, HeadRead, CornersRead}
use Rattle.records.proofs.Columns.{length-counts, length-head, length-corners}

front_of : {A : Type 0} (fits : Bool) (w d d' : List A) (n : ℕ) → fits ≡ true → length w ≡ n → d' ≡ filled_if fits w d → take n d' ≡ w
unfolding filled_if
front_of fits w d d' n t e f = ap (take n) (f ∙ rw t) ∙ take_at w (drop (length w) d) n e

module _ {L : Limits} (s : List ℕ) (a : Accepted L s) where
  counts_fit_lem : (room : ℕ) → loops s ≤ room → counts_fit s room ≡ true
  unfolding counts_fit counts_there
  counts_fit_lem room h = let w = a.whole in rw (le-leb (header_size + 2 * loops s) (length s) (omega arith), le-leb (loops s) room h)

  head-fits : (room : ℕ) → head_reals ≤ room → head_fits s room ≡ true
  unfolding head_fits
  head-fits room h = let w = a.whole in rw (le-leb (real_place s head_reals) (length s) (omega arith), le-leb head_reals room h)

  corners_fit : (room : ℕ) → points s ≤ room → points_fit s room ≡ true
  unfolding points_fit
  corners_fit room h = rw (le-leb (needed s) (length s) (let w = a.whole in omega arith), le-leb (points s) room h)

  pub head_read_back : (d d' : List Float) (r : Option ℕ) → HeadRead s d d' r → head_reals ≤ length d → take head_reals d' ≡ head s
  head_read_back d d' r h room = front_of _ (head s) d d' head_reals (head-fits (length d) room) (length-head s) h.is

  pub counts_read_back : (d d' : List ℕ) (r : Option ℕ) → CountsRead s d d' r → loops s ≤ length d → (take (loops s) d' ≡ counts s) × (r ≡ Some (loops s))
  counts_read_back d d' r h room = (
    front_of _ (counts s) d d' (loops s) (counts_fit_lem (length d) room) (length-counts s) h.is,
    h.answer ∙ rw (counts_fit_lem (length d) room, length-counts s),
  )

  pub corners_read_back : (t t' : List Held) (r : Option ℕ) → CornersRead s t t' r → points s ≤ length (rows t)
      → (rows (take (points s) t') ≡ corners_in s) × (r ≡ Some (points s))
  corners_read_back t t' r h room = (
    rows_take (points s) t' ∙ front_of _ (corners_in s) (rows t) (rows t') (points s) (corners_fit (length (rows t)) room) (length-corners s) h.is,
    h.answer ∙ rw (corners_fit (length (rows t)) room, length-corners s),
  )

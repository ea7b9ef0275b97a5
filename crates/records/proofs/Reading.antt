-- What the reading functions answer: where something is too short nothing is written, and else the slices are filled.
use mathlib.Core.Path.{◌≡◌, refl, sym, ◌∙◌}
use mathlib.Core.Bool.{Bool, true, false, ◌&&◌}
use mathlib.Core.List.{List}
use Prim.Native.Nat.{ℕ, ◌+◌, ◌*◌, ◌≤◌, ◌<◌}
use native.Mathlib.Omega.{arith}
use lib.ListN.{length}
use lib.Ieee.{Float}
use borrow.Author.Tests.{le-leb, lt-leb, leb-true, leb-false}
use Rattle.std.specs.Prelude.{Some, None}
use Rattle.records.specs.Bytes.{◌≤?◌}
use Rattle.records.specs.Face.{header_size, head_reals, loops, counts, head, points, real_place, needed, corners_in}
use Rattle.tables.specs.Rows.{rows}
use Rattle.tables.specs.declared.corners.Corner.{Corner as Held}
use Rattle.records.specs.Lent.{front, filled_if, counts_there, counts_fit, head_fits, points_fit, ReadInto, CornersRoom, CountsRead, HeadRead, CornersRead}
use Rattle.records.proofs.Columns.{length-counts, length-head, length-corners}

-- ---- one slice

module _ {A : Type 0} {fits : Bool} {w d : List A} where
  kept : fits ≡ false → ReadInto fits w d d None
  unfolding filled_if
  kept e = record { answer = rw e; is = rw e }

  filled : fits ≡ true → {d' : List A} {n : ℕ} → n ≡ length w → d' ≡ front w d → ReadInto fits w d d' (Some n)
  unfolding filled_if
  filled e l h = record { answer = rw (e, l); is = rw e h }

and_right : (a b : Bool) → b ≡ false → (a && b) ≡ false
and_right true b e = e
and_right false b e = refl

-- ---- whether the counts are there

pub there_long : (s : List ℕ) → counts_there s ≡ true → header_size + 2 * loops s ≤ length s
unfolding counts_there
there_long s e = leb-true (header_size + 2 * loops s) (length s) e

pub there_header : (s : List ℕ) → counts_there s ≡ true → header_size ≤ length s
there_header s e = let h = there_long s e in omega arith

pub gone_short : (s : List ℕ) → counts_there s ≡ false → length s < header_size + 2 * loops s
unfolding counts_there
gone_short s e = leb-false (header_size + 2 * loops s) (length s) e

-- ---- counts

module _ (s d : List ℕ) where
  pub counts_gone : counts_there s ≡ false → CountsRead s d d None
  unfolding counts_fit
  counts_gone e = kept (rw e)

  pub no_counts_room : {l : ℕ} → l ≡ loops s → length d < l → CountsRead s d d None
  unfolding counts_fit
  no_counts_room e h = kept (and_right (counts_there s) _ (lt-leb (loops s) (length d) (omega arith)))

  pub counts_read : counts_there s ≡ true → {l : ℕ} → l ≡ loops s → l ≤ length d → {d' : List ℕ} → d' ≡ front (counts s) d → CountsRead s d d' (Some l)
  unfolding counts_fit
  counts_read t e h is = filled (rw (t, le-leb (loops s) (length d) (omega arith))) (e ∙ sym (length-counts s)) is

-- ---- the 13 reals

module _ (s : List ℕ) (d : List Float) where
  head_short : length s < real_place s head_reals → HeadRead s d d None
  unfolding head_fits
  head_short h = kept (rw (lt-leb (real_place s head_reals) (length s) h))

  pub head_gone : counts_there s ≡ false → HeadRead s d d None
  head_gone e = let h = gone_short s e in head_short (omega arith)

  pub no_head : {p : ℕ} → p ≡ real_place s head_reals → length s < p → HeadRead s d d None
  no_head e h = head_short (omega arith)

  pub no_head_room : length d < head_reals → HeadRead s d d None
  unfolding head_fits
  no_head_room h = kept (and_right (real_place s head_reals ≤? length s) _ (lt-leb head_reals (length d) h))

  pub head_read : {p : ℕ} → p ≡ real_place s head_reals → p ≤ length s → head_reals ≤ length d → {d' : List Float} → d' ≡ front (head s) d
      → HeadRead s d d' (Some head_reals)
  unfolding head_fits
  head_read e h r is =
      filled (rw (le-leb (real_place s head_reals) (length s) (omega arith), le-leb head_reals (length d) r)) (sym (length-head s)) is

-- ---- corners

module _ (s : List ℕ) (t : List Held) where
  corners_short : length s < needed s → CornersRead s t t None
  unfolding points_fit
  corners_short h = kept (rw (lt-leb (needed s) (length s) h))

  pub corners_gone : counts_there s ≡ false → CornersRead s t t None
  corners_gone e = let h = gone_short s e in corners_short (omega arith)

  pub no_corners : {p : ℕ} → p ≡ needed s → length s < p → CornersRead s t t None
  no_corners e h = corners_short (omega arith)

  module _ {n m : ℕ} (e : n ≡ points s) (c : m ≡ length (rows t)) where
    pub no_corners_room : m < n → CornersRead s t t None
    unfolding points_fit
    no_corners_room h = kept (and_right (needed s ≤? length s) _ (lt-leb (points s) (length (rows t)) (omega arith)))

    pub corners_room : {p : ℕ} → p ≡ needed s → p ≤ length s → n ≤ m → CornersRoom s n t
    corners_room q h r = record { many = e; there = omega arith; room = omega arith }

  pub corners_read : {n : ℕ} (t' : List Held) → CornersRoom s n t → rows t' ≡ front (corners_in s) (rows t) → CornersRead s t t' (Some n)
  unfolding points_fit
  corners_read t' w is =
      let m = w.many in
      let r = w.room in
      filled (rw (le-leb (needed s) (length s) w.there, le-leb (points s) (length (rows t)) (omega arith))) (m ∙ sym (length-corners s)) is

-- The reals before the points, as the code reads them, and that those of a face record are its frame, its surface and its tolerances.
use Prim.Native.Nat.{ℕ, ◌<◌}
use mathlib.Core.Path.{◌≡◌, ap, ◌∙◌}
use mathlib.Core.List.{List}
use native.Mathlib.Omega.{arith}
use lib.Ieee.{nan}
use lib.ListN.{get_or}
use Rattle.numbers.specs.Frames.{frame_of}
use Rattle.records.specs.Bytes.{real_at}
use Rattle.records.specs.Face.{head_reals, kind, segments, head, real_place, real_of}
use Rattle.records.proofs.Rows.{get_or-row_at}
use Rattle.call.specs.Face.{surface_of, frame_in, surface_in, options_in}
use Rattle.measuring.specs.Head.{vector_at, frame_at, options_at}

-- ---- those of a record

module _ (s : List ℕ) where
  real_is : (i : ℕ) → i < head_reals → get_or (head s) i nan ≡ real_of s i
  unfolding head
  real_is i h = get_or-row_at real_at 8 s (real_place s 0) head_reals i nan h ∙ ap (real_at s) (omega arith)

  pub frame_read : frame_at (head s) ≡ frame_in s
  unfolding frame_at vector_at frame_in
  frame_read = λ j. frame_of
      (record { x = real_is 0 (omega arith) j; y = real_is 1 (omega arith) j; z = real_is 2 (omega arith) j })
      (record { x = real_is 3 (omega arith) j; y = real_is 4 (omega arith) j; z = real_is 5 (omega arith) j })
      (record { x = real_is 6 (omega arith) j; y = real_is 7 (omega arith) j; z = real_is 8 (omega arith) j })

  pub surface_read : surface_of (kind s) (get_or (head s) 9 nan) (get_or (head s) 10 nan) ≡ surface_in s
  unfolding surface_in
  surface_read = λ j. surface_of (kind s) (real_is 9 (omega arith) j) (real_is 10 (omega arith) j)

  pub options_read : options_at (head s) (segments s) ≡ options_in s
  unfolding options_at options_in
  options_read = λ j. record { sag = real_is 11 (omega arith) j; angle = real_is 12 (omega arith) j; min_edge_segments = segments s }

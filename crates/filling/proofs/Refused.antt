-- The refusals 8 to 11 as the code finds them are those of the record.
use Prim.Native.Nat.{ℕ}
use mathlib.Core.Path.{◌≡◌, ap, ◌∙◌}
use mathlib.Core.List.{List}
use lib.IntN.{ℤ}
use lib.ListN.{length}
use Rattle.numbers.specs.declared.math.Vec3.{Vec3}
use Rattle.lists.specs.Pieces.{pieces}
use Rattle.lists.proofs.Pieces.{length-pieces}
use Rattle.tables.specs.Corners.{Corners}
use Rattle.records.specs.Face as Face
use Rattle.records.specs.Refusals.{passes, refuse_at, verdict}
use Rattle.call.specs.Face.{loops_in, wraps_in}
use Rattle.call.proofs.Loops.{loops_many}
use Rattle.call.specs.Later.{open_among, one_among, many_among, open_kind, open_ring, one_ring, many_rings, open_surface, ring_conditions}
use Rattle.filling.specs.Stages.{rings_verdict}

-- ---- as the code finds them: of as many loops as there are counts

pub as_many_pieces : (kind : ℕ) (counts : List ℕ) (r : Corners Vec3) → open_kind kind (length (pieces counts r)) ≡ open_kind kind (length counts)
as_many_pieces kind counts r = ap (open_kind kind) (length-pieces counts r)

-- ---- those of the record

module _ (s : List ℕ) (ls : List (Corners Vec3)) (held : ls ≡ loops_in s) (ws : List ℤ) (w : ws ≡ wraps_in s) (kind : ℕ) (k : kind ≡ Face.kind s) where
  pub rings_judged : rings_verdict kind ls ws ≡ verdict ring_conditions s
  unfolding rings_verdict verdict open_ring one_ring many_rings open_surface
  rings_judged =
      let many : length ls ≡ Face.loops s = ap length held ∙ loops_many s in
      λ i. refuse_at (open_among (held i) (w i)) 8 (refuse_at (one_among (w i)) 9 (refuse_at (many_among (w i)) 10 (refuse_at (open_kind (k i) (many i)) 11 passes)))

-- The stages of filling a face: what a record is read as, and what is left to be judged after each stage.
use Rattle.std.specs.Prelude.{ℕ, ◌≡◌, List, ℤ, Float, length, map, replicate}
use Rattle.numbers.specs.declared.math.Vec3.{Vec3}
use Rattle.tables.specs.Corners.{Corners}
use Rattle.tables.specs.Rows.{rows}
use Rattle.tables.specs.declared.corners.Corner.{Corner as Held}
use Rattle.lists.specs.Pieces.{pieces}
use Rattle.lists.specs.Placed.{placed}
use Rattle.surfaces.specs.Domains.{u_period}
use Rattle.loop_records.specs.Record.{no_loop}
use Rattle.loop_records.specs.Loops.{records_from}
use Rattle.records.specs.Accepted.{Accepted}
use Rattle.records.specs.Limits.{version1}
use Rattle.records.specs.Face as Face
use Rattle.records.specs.Face.{corners_in}
use Rattle.records.specs.Refusals.{Verdict, passes, refuse_at}
use Rattle.call.specs.Face.{surface_in, wraps_in}
use Rattle.call.specs.Paths.{signed_area}
use Rattle.call.specs.Later.{open_among, one_among, many_among, open_kind}
use Rattle.filling.specs.declared.read_face.ReadFace.{ReadFace}

-- the face record s, as it is read
pub record ReadAs (s : List ℕ) (head : List Float) (counts : List ℕ) (t : List Held) : Type 0 where
  pub head_is : head ≡ Face.head s
  pub counts_are : counts ≡ Face.counts s
  pub corners_are : rows t ≡ corners_in s

-- It lies within the limits and has passed the refusals 2 to 7, so that it is read whole; its loops are measured, with the surface it tells.
pub record IsRead (face : ReadFace) (t : List Held) (areas : List Float) : Type 0 where
  pub accepted : Accepted version1 face.bytes.now
  pub read : ReadAs face.bytes.now face.head.now face.counts.now t
  pub loops_are : face.loops.now ≡ placed 0 (records_from (u_period face.surface) 0 (pieces face.counts.now (rows t))) (replicate 16 no_loop)
  pub wraps_are : face.wraps.now ≡ wraps_in face.bytes.now
  pub areas_are : areas ≡ map signed_area (pieces face.counts.now (rows t))
  pub surface_is : face.surface ≡ surface_in face.bytes.now

-- the refusals 8 to 11 of a face of this kind with these loops and their wraps, the first that holds
unfoldable pub rings_verdict : ℕ → List (Corners Vec3) → List ℤ → Verdict
rings_verdict kind ls ws =
    refuse_at (open_among ls ws) 8
    (refuse_at (one_among ws) 9
    (refuse_at (many_among ws) 10
    (refuse_at (open_kind kind (length ls)) 11 passes)))

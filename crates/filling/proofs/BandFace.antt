-- The face of a band, as the facts about its rings and its holes ask for it.
use Rattle.std.proofs.Common.{ℕ, ◌≡◌, Bool, List, length, replicate, sym, ap, ◌∙◌}
use Rattle.std.specs.Prelude.{Float}
use Rattle.surfaces.specs.declared.patch.Patch.{Patch}
use Rattle.surfaces.specs.Domains.{u_period}
use Rattle.lists.specs.Pieces.{pieces}
use Rattle.lists.specs.Placed.{placed}
use Rattle.loop_records.specs.declared.LoopRecord.{LoopRecord}
use Rattle.loop_records.specs.Record.{no_loop}
use Rattle.loop_records.specs.Loops.{records_from}
use Rattle.tables.specs.Rows.{rows}
use Rattle.tables.specs.declared.corners.Corner.{Corner as Held}
use Rattle.records.specs.Accepted.{Accepted}
use Rattle.records.specs.Face.{counts, corners_in}
use Rattle.records.specs.Limits.{version1}
use Rattle.records.specs.Refusals.{at, first_where}
use Rattle.call.specs.Face.{sense_in, wrapping, wraps_in}
use Rattle.call.specs.Later.{wraps_at}
use Rattle.measuring.specs.LastWhere.{last_where}
use Rattle.filling.specs.declared.read_face.ReadFace.{ReadFace}
use Rattle.filling.specs.Band.{patch_in, RingsOf}
use Rattle.filling.specs.Stages.{IsRead}

-- What is taken from the face record s, of which the loops of number a and b alone wrap.
pub record BandFace (s : List ℕ) (corners : List Held) (given : List ℕ) (loops : List LoopRecord) (patch : Patch) (sense : Bool) (a b : ℕ) : Type 0 where
  pub accepted : Accepted version1 s
  pub two : wrapping s ≡ 2
  pub given_is : given ≡ counts s
  pub corners_are : rows corners ≡ corners_in s
  pub loops_are : loops ≡ placed 0 (records_from (u_period patch.surface) 0 (pieces given (rows corners))) (replicate 16 no_loop)
  pub patch_is : patch ≡ patch_in s
  pub sense_is : sense ≡ sense_in s
  pub first_is : last_where (length (wraps_in s)) (wraps_at (wraps_in s)) ≡ at a
  pub later_is : first_where (length (wraps_in s)) (wraps_at (wraps_in s)) ≡ at b

pub band_face : (face : ReadFace) (corners : List Held) (areas : List Float) → IsRead face corners areas → (a b : ℕ) → RingsOf face.bytes.now a b
    → (patch : Patch) → patch ≡ patch_in face.bytes.now → (sense : Bool) → sense ≡ sense_in face.bytes.now
    → BandFace face.bytes.now corners face.counts.now face.loops.now patch sense a b
band_face face corners areas read a b rings patch patch_is sense sense_is =
    let surface : face.surface ≡ patch.surface = read.surface_is ∙ sym (ap (λ (p : Patch). p.surface) patch_is) in
    record {
      accepted = read.accepted;
      two = rings.two;
      given_is = read.read.counts_are;
      corners_are = read.read.corners_are;
      loops_are = read.loops_are ∙ ap (λ s. placed 0 (records_from (u_period s) 0 (pieces face.counts.now (rows corners))) (replicate 16 no_loop)) surface;
      patch_is = patch_is;
      sense_is = sense_is;
      first_is = rings.first_is;
      later_is = rings.later_is;
    }

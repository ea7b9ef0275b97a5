-- 01, "The result record": "The program `close` reads one face record from standard input and writes this record, or six bytes: 0, the refusal, its
-- place in four bytes." What lent bytes hold once these were put into their front, and what is read from them.
use Rattle.std.specs.Prelude.{ℕ, ◌≤◌, ◌≡◌, cond, List, length}
use Rattle.lists.specs.Placed.{placed}
use Rattle.records.specs.Bytes.{◌≤?◌, byte_at, number_at}
use Rattle.records.specs.Call.{Outcome, refused, output}

-- `old` with what is written of the outcome in its front, and the bytes past that as they were; all as they were where it does not fit
abbrev pub written : Outcome → List ℕ → List ℕ
written o old = placed 0 (output o) old

-- so many bytes of it are to be written
unfoldable pub written_length : Outcome → List ℕ → ℕ
written_length o old = cond (length (output o) ≤? length old) (length (output o)) 0

-- a reader finds this refusal in the bytes
pub record RefusalIn (b : List ℕ) (number place : ℕ) : Type 0 where
  pub marked : byte_at b 0 ≡ 0
  pub number_is : byte_at b 1 ≡ number
  pub place_is : number_at 4 b 2 ≡ place

-- a refusal that was put into the front of `old` is found there: its place is whole, not what four bytes leave of it
abbrev pub FoundIn : Outcome → List ℕ → List ℕ → Type 0
FoundIn o old new = (number place : ℕ) → o ≡ refused number place → 6 ≤ length old → RefusalIn new number place

-- 01, "The face record": the refusals 1 to 7 as one list of conditions, in the order in which they are tested, by any limits L. The numbers in the quotes
-- are those of version 1.
use Rattle.std.specs.Prelude.{◌≡◌, ℕ, zero, suc, ◌+◌, ◌*◌, ◌<◌, Bool, true, false, not, ◌||◌, cond, List, [], ◌∷◌, ◌++◌, length, get_or}
use Rattle.records.specs.Bytes.{◌<?◌, ◌=?◌}
use Rattle.records.specs.Face.{header_size, version, kind, loops, sense, segments, count, start, points, real_of, reals, needed}
use Rattle.records.specs.declared.limits.Limits.{Limits}
use Rattle.records.specs.Limits.{min_points, torus, holds, range}

-- ---- where a condition holds

pub data Place : Type 0 where
  nowhere : Place
  at : ℕ → Place

abbrev pub when : Bool → ℕ → Place
when true p = at p
when false p = nowhere

-- the first of k, k + 1, .., n of them, at which a test is true; and the first of 0, .., n - 1
unfoldable pub first_from : (ℕ → Bool) → ℕ → ℕ → Place
first_from test k zero = nowhere
first_from test k (suc n) = cond (test k) (at k) (first_from test (suc k) n)

abbrev pub first_where : ℕ → (ℕ → Bool) → Place
first_where n test = first_from test 0 n

-- ---- the conditions, each over the bytes of the record, with its place

-- "1, 61614: fewer than 61,614 result bytes lent"
unfoldable pub too_few_lent : Limits → ℕ → List ℕ → Place
too_few_lent L lent s = when (lent <? L.result) L.result

-- byte i of the header is wrong: of 0, 1, 3, 4 alone
unfoldable pub wrong_byte : List ℕ → ℕ → Bool
wrong_byte s i =
    cond (i =? 0) (not (version s =? 1))
    (cond (i =? 1) (torus <? kind s)
    (cond (i =? 3) (1 <? sense s)
    (cond (i =? 4) (segments s <? 1 || 64 <? segments s) false)))

-- "2, length or offset: under 5 bytes; else the first wrong byte of 0, 1, 3, 4"
unfoldable pub wrong_header : List ℕ → Place
wrong_header s = cond (length s <? header_size) (at (length s)) (first_where header_size (wrong_byte s))

-- "3, L: L over 16"
unfoldable pub too_many_loops : Limits → List ℕ → Place
too_many_loops L s = when (L.loops <? loops s) (loops s)

-- "6, needed length: record ends inside its counts (needed: 5 + 2L)"
unfoldable pub ends_in_counts : List ℕ → Place
ends_in_counts s = when (length s <? header_size + 2 * loops s) (header_size + 2 * loops s)

-- "4, loop: first loop with fewer than 3 points"
unfoldable pub too_few_points : List ℕ → Place
too_few_points s = first_where (loops s) (λ k. count s k <? min_points)

-- "5, loop: first loop whose running total passes 512"
unfoldable pub too_many_points : Limits → List ℕ → Place
too_many_points L s = first_where (loops s) (λ k. L.points <? start s (suc k))

-- "6, needed length: its length is not the one its counts give"
unfoldable pub wrong_length : List ℕ → Place
wrong_length s = when (not (length s =? needed s)) (needed s)

-- "7, index: first real, in file order from 0, not finite or out of range"
unfoldable pub bad_real : List ℕ → ℕ → Bool
bad_real s i = not (holds (range (kind s) (points s) i) (real_of s i))

unfoldable pub first_bad_real : List ℕ → Place
first_bad_real s = first_where (reals s) (bad_real s)

-- ---- the list

pub record Condition : Type 0 where
  pub number : ℕ
  pub place : List ℕ → Place

infix 70 ◌on◌
abbrev pub ◌on◌ : ℕ → (List ℕ → Place) → Condition
number on place = record { number = number; place = place }

-- that of the header, which no limit touches
abbrev pub header_conditions : List Condition
header_conditions = 2 on wrong_header ∷ []

-- "Checks run in that order, except that the two halves of 6 stand before 4 and after 5.": those of what follows it
abbrev pub body_conditions : Limits → List Condition
body_conditions L =
    3 on too_many_loops L
    ∷ 6 on ends_in_counts
    ∷ 4 on too_few_points
    ∷ 5 on too_many_points L
    ∷ 6 on wrong_length
    ∷ 7 on first_bad_real
    ∷ []

-- those of the record alone
abbrev pub record_conditions : Limits → List Condition
record_conditions L = header_conditions ++ body_conditions L

-- before them, the one of the bytes that are lent
abbrev pub conditions : Limits → ℕ → List Condition
conditions L lent = 1 on too_few_lent L lent ∷ record_conditions L

-- ---- what a list of conditions says of a record: the first that holds, with its place

pub data Verdict : Type 0 where
  passes : Verdict
  refuses : ℕ → ℕ → Verdict

abbrev pub refuse_at : Place → ℕ → Verdict → Verdict
refuse_at nowhere number rest = rest
refuse_at (at p) number rest = refuses number p

unfoldable pub verdict : List Condition → List ℕ → Verdict
verdict [] s = passes
verdict (c ∷ cs) s = refuse_at (c.place s) c.number (verdict cs s)

-- ---- which condition that is

abbrev pub never : Condition
never = 0 on (λ s. nowhere)

-- condition `row` of the list has number n and holds with place p, and no earlier one holds
pub record FirstToHold (cs : List Condition) (s : List ℕ) (n p : ℕ) : Type 0 where
  pub row : ℕ
  pub numbered : (get_or cs row never).number ≡ n
  pub holds : (get_or cs row never).place s ≡ at p
  pub before : (j : ℕ) → j < row → (get_or cs j never).place s ≡ nowhere

abbrev pub NoneHolds : List Condition → List ℕ → Type 0
NoneHolds cs s = (j : ℕ) → (get_or cs j never).place s ≡ nowhere

-- The records of a face's loops, put into a list one by one, and what is read out of it.
use Prim.Native.Nat.{ℕ, suc, ◌+◌, ◌≤◌, ◌<◌}
use mathlib.Core.Path.{◌≡◌, refl, sym, ap, ◌∙◌}
use mathlib.Core.List.{List, [], ◌∷◌, map, flatten}
use native.Mathlib.Omega.{arith}
use lib.IntN.{ℤ}
use lib.Ieee.{Float}
use lib.ListN.{length, length-set, set, take, replicate, length-append}
use mir.Syntax.{w32}
use mir.Val.{SFits, to_z, of_z}
use mir.Facts.{to_z-of_z}
use Rattle.std.specs.Int.{int_signum}
use Rattle.std.proofs.Common.{Option}
use Rattle.numbers.specs.declared.math.Vec3.{Vec3}
use Rattle.lists.specs.Pieces.{pieces}
use Rattle.lists.specs.Placed.{placed}
use Rattle.lists.proofs.Maps.{map-take}
use Rattle.lists.proofs.Pieces.{length-pieces, pieces_fit}
use Rattle.lists.proofs.Remaining.{Remaining, remaining, remaining_turn, remaining_end}
use Rattle.lists.proofs.Placed.{placed_short, front-placed}
use Rattle.loop_records.specs.declared.LoopRecord.{LoopRecord}
use Rattle.loop_records.specs.Record.{no_loop}
use Rattle.tables.specs.Corners.{Corners, us, vs}
use Rattle.loops.specs.Area.{area_of}
use Rattle.loops.specs.Wrap.{net_wrap}
use Rattle.loop_records.specs.Loops.{record_of, records_from}

-- ---- one record

pub record_is : (period : Option Float) (r : Corners Vec3) (start n : ℕ) (w t : ℤ) (a : Float) → n ≡ length r → SFits w32 w → SFits w32 t → w ≡ net_wrap period (us r)
    → t ≡ int_signum (to_z w32 (of_z w32 w)) → a ≡ area_of (us r) (vs r)
    → record { start = start; count = n; wrap = to_z w32 (of_z w32 w); travel = to_z w32 (of_z w32 t); area = a } ≡ record_of period start r
unfolding record_of
record_is period r start n w t a ne wf tf we te ae =
    let wrap = to_z-of_z wf ∙ we in
    let travel = to_z-of_z tf ∙ te ∙ ap int_signum wrap in
    λ i. record { start = start; count = ne i; wrap = wrap i; travel = travel i; area = ae i }

-- ---- one for each loop

module _ (period : Option Float) where
  pub length_records : (start : ℕ) (loops : List (Corners Vec3)) → length (records_from period start loops) ≡ length loops
  unfolding records_from
  length_records start [] = refl
  length_records start (r ∷ loops) = ap suc (length_records (start + length r) loops)

  pub wraps_recorded : (start : ℕ) (loops : List (Corners Vec3)) → map (λ (l : LoopRecord). l.wrap) (records_from period start loops) ≡ map (λ (r : Corners Vec3). net_wrap period (us r)) loops
  unfolding records_from record_of
  wraps_recorded start [] = refl
  wraps_recorded start (r ∷ loops) = ap (λ (ws : List ℤ). net_wrap period (us r) ∷ ws) (wraps_recorded (start + length r) loops)

  first-record : (start : ℕ) (r : Corners Vec3) (loops : List (Corners Vec3)) → records_from period start (r ∷ loops) ≡ record_of period start r ∷ records_from period (start + length r) loops
  unfolding records_from
  first-record start r loops = refl

  no-record : (start : ℕ) → records_from period start [] ≡ []
  unfolding records_from
  no-record start = refl

-- the records that are still to be stored, in a list of m: of the loops that are left, which begin at `start` of n rows
module _ (period : Option Float) (all : List LoopRecord) (n m : ℕ) where
  pub record Recording (d : List LoopRecord) (i start : ℕ) (left : List (Corners Vec3)) : Type 0 where
    pub stored : Remaining all d i (records_from period start left)
    pub within : start + length (flatten left) ≤ n
    pub as_long : length d ≡ m

  module _ (d : List LoopRecord) (i start : ℕ) (left : List (Corners Vec3)) (r : Corners Vec3) (rest : List (Corners Vec3))
      (k : Recording d i start left) (e : left ≡ r ∷ rest) where
    pub recording_room : (i < m) × (start + length r ≤ n)
    unfolding flatten
    recording_room =
        let many = ap length e in
        let long = ap (λ (ls : List (Corners Vec3)). length (flatten ls)) e ∙ length-append r (flatten rest) in
        (omega (arith, k.stored.room, k.as_long, length_records period start left, many), omega (arith, k.within, long))

    pub recording_turn : Recording (set d i (record_of period start r)) (i + 1) (start + length r) rest
    unfolding flatten
    recording_turn = record {
      stored = remaining_turn all d i (records_from period start left) (record_of period start r) (records_from period (start + length r) rest) k.stored
          (ap (records_from period start) e ∙ first-record period start r rest);
      within = let long = ap (λ (ls : List (Corners Vec3)). length (flatten ls)) e ∙ length-append r (flatten rest) in omega (arith, k.within, long);
      as_long = length-set d i (record_of period start r) ∙ k.as_long;
    }

  pub recording_end : (d : List LoopRecord) (i start : ℕ) (left : List (Corners Vec3)) → Recording d i start left → left ≡ [] → d ≡ all
  recording_end d i start left k e = remaining_end all d i (records_from period start left) k.stored (ap (records_from period start) e ∙ no-record period start)

module _ (period : Option Float) (ns : List ℕ) (xs : Corners Vec3) (d₀ : List LoopRecord) where
  abbrev wanted : List LoopRecord
  wanted = records_from period 0 (pieces ns xs)

  length_wanted : length wanted ≡ length ns
  length_wanted = length_records period 0 (pieces ns xs) ∙ length-pieces ns xs

  pub no_recording : length d₀ < length ns → d₀ ≡ placed 0 wanted d₀
  no_recording h = let l = length_wanted in sym (placed_short 0 wanted d₀ (omega arith))

  pub recording : length ns ≤ length d₀ → Recording period (placed 0 wanted d₀) (length xs) (length d₀) d₀ 0 0 (pieces ns xs)
  recording h = record { stored = remaining wanted d₀ (let l = length_wanted in omega arith); within = omega (arith, pieces_fit ns xs); as_long = refl }

-- the records of the loops stand in front
in_front : (period : Option Float) (ns : List ℕ) (xs : Corners Vec3) (d : List LoopRecord) → length ns ≤ 16 → d ≡ placed 0 (records_from period 0 (pieces ns xs)) (replicate 16 no_loop)
    → take (length ns) d ≡ records_from period 0 (pieces ns xs)
in_front period ns xs d few e =
    let w : List LoopRecord = records_from period 0 (pieces ns xs) in
    let l : length w ≡ length ns = length_records period 0 (pieces ns xs) ∙ length-pieces ns xs in
    ap (take (length ns)) e ∙ ap (λ (n : ℕ). take n (placed 0 w (replicate 16 no_loop))) (sym l) ∙ front-placed w (replicate 16 no_loop) (omega arith)

-- what is read out of the list, of each loop: f of its record
pub read_out : {B : Type 0} (f : LoopRecord → B) (period : Option Float) (ns : List ℕ) (xs : Corners Vec3) (d : List LoopRecord) (b₀ b : List B) → length ns ≤ 16
    → d ≡ placed 0 (records_from period 0 (pieces ns xs)) (replicate 16 no_loop) → b ≡ placed 0 (map f (take (length ns) d)) b₀
    → b ≡ placed 0 (map f (records_from period 0 (pieces ns xs))) b₀
read_out f period ns xs d b₀ b few e r = r ∙ ap (λ (y : List LoopRecord). placed 0 (map f y) b₀) (in_front period ns xs d few e)

-- what is read of each record: of those of the loops, in front
pub read_in_front : {B : Type 0} (f : LoopRecord → B) (period : Option Float) (ns : List ℕ) (xs : Corners Vec3) (d : List LoopRecord) (b : List B) → length ns ≤ 16
    → d ≡ placed 0 (records_from period 0 (pieces ns xs)) (replicate 16 no_loop) → b ≡ map f d → take (length ns) b ≡ map f (records_from period 0 (pieces ns xs))
read_in_front f period ns xs d b few e r = ap (take (length ns)) r ∙ sym (map-take f (length ns) d) ∙ ap (map f) (in_front period ns xs d few e)

-- Where the loop records say that a loop is, and which way it runs.
use Prim.Native.Nat.{ℕ, zero, suc, ◌+◌, ◌≤◌, ◌<◌}
use mathlib.Core.Path.{◌≡◌, refl, sym, ap, ◌∙◌}
use mathlib.Core.List.{List, [], ◌∷◌}
use native.Mathlib.Nat.{zero-add}
use native.Mathlib.Omega.{arith}
use lib.IntN.{ℤ, pos, negsuc}
use lib.ListN.{length, get_or, take, drop, replicate, length-replicate}
use lib.Seq.{get_or-take}
use Rattle.std.specs.Int.{int_signum}
use lib.Ieee.{Float}
use Rattle.std.proofs.Common.{Option}
use Rattle.numbers.specs.declared.math.Vec3.{Vec3}
use Rattle.lists.specs.Pieces.{pieces}
use Rattle.lists.specs.Placed.{placed}
use Rattle.lists.proofs.Pieces.{length-pieces}
use Rattle.lists.proofs.Placed.{front-placed}
use Rattle.tables.specs.Corners.{Corners, us}
use Rattle.loop_records.specs.declared.LoopRecord.{LoopRecord}
use Rattle.loop_records.specs.Record.{no_loop}
use Rattle.bands.specs.Given.{falls}
use Rattle.lists.specs.Elements.{sum}
use Rattle.call.proofs.Sizes.{total}
use Rattle.loop_records.specs.Loops.{record_of, records_from}
use Rattle.loops.specs.Wrap.{net_wrap}
use Rattle.loop_records.proofs.Recorded.{length_records}

falls_sign : (z : ℤ) → falls (int_signum z) ≡ falls z
falls_sign (pos zero) = refl
falls_sign (pos (suc n)) = refl
falls_sign (negsuc n) = refl

record-at : (p : Option Float) (ls : List (Corners Vec3)) (start k : ℕ) → k < length ls
    → get_or (records_from p start ls) k no_loop ≡ record_of p (start + total (take k ls)) (get_or ls k [])
unfolding records_from sum
record-at p [] start k h = absurd (omega arith)
record-at p (r ∷ ls) start zero h = let e : start ≡ start + 0 = omega arith in ap (λ (n : ℕ). record_of p n r) e
record-at p (r ∷ ls) start (suc k) h =
    let e : start + length r + total (take k ls) ≡ start + (length r + total (take k ls)) = omega arith in
    record-at p ls (start + length r) k (omega arith) ∙ ap (λ (n : ℕ). record_of p n (get_or ls k [])) e

module _ {A : Type 0} where
  front_length : (n : ℕ) (xs : List A) → take (length (take n xs)) xs ≡ take n xs
  front_length zero [] = refl
  front_length zero (x ∷ xs) = refl
  front_length (suc n) [] = refl
  front_length (suc n) (x ∷ xs) = ap (λ (l : List A). x ∷ l) (front_length n xs)

  drop-front : (n m : ℕ) (xs : List A) → drop (length (take n xs) + m) xs ≡ drop m (drop n xs)
  drop-front zero m [] = ap (λ (j : ℕ). drop j []) (zero-add m)
  drop-front zero m (x ∷ xs) = ap (λ (j : ℕ). drop j (x ∷ xs)) (zero-add m)
  drop-front (suc n) m [] = ap (λ (j : ℕ). drop j []) (zero-add m)
  drop-front (suc n) m (x ∷ xs) =
      let e : suc (length (take n xs)) + m ≡ suc (length (take n xs) + m) = omega arith in
      ap (λ (j : ℕ). drop j (x ∷ xs)) e ∙ drop-front n m xs

  piece_at : (ns : List ℕ) (xs : List A) (k : ℕ) → k < length ns
      → take (length (get_or (pieces ns xs) k [])) (drop (total (take k (pieces ns xs))) xs) ≡ get_or (pieces ns xs) k []
  unfolding pieces sum
  piece_at [] xs k h = absurd (omega arith)
  piece_at (n ∷ ns) xs zero h = front_length n xs
  piece_at (n ∷ ns) xs (suc k) h =
      ap (take (length (get_or (pieces ns (drop n xs)) k []))) (drop-front n (total (take k (pieces ns (drop n xs)))) xs) ∙ piece_at ns (drop n xs) k (omega arith)

module _ (p : Option Float) (ns : List ℕ) (xs : Corners Vec3) (loops : List LoopRecord)
    (loops_are : loops ≡ placed 0 (records_from p 0 (pieces ns xs)) (replicate 16 no_loop)) (few : length ns ≤ 16) (k : ℕ) (inside : k < length ns) where
  abbrev wanted : List LoopRecord
  wanted = records_from p 0 (pieces ns xs)

  record_there : get_or loops k no_loop ≡ record_of p (0 + total (take k (pieces ns xs))) (get_or (pieces ns xs) k [])
  record_there =
      let l = length-pieces ns xs in
      let w = length_records p 0 (pieces ns xs) in
      let r = length-replicate 16 no_loop in
      sym (get_or-take (length wanted) loops k no_loop (omega arith))
      ∙ ap (λ (l : List LoopRecord). get_or l k no_loop) (ap (take (length wanted)) loops_are ∙ front-placed wanted (replicate 16 no_loop) (omega arith))
      ∙ record-at p (pieces ns xs) 0 k (omega arith)

  pub corners_there : take (get_or loops k no_loop).count (drop (get_or loops k no_loop).start xs) ≡ get_or (pieces ns xs) k []
  unfolding record_of
  corners_there =
      ap (λ (q : LoopRecord). take q.count (drop q.start xs)) record_there
      ∙ ap (λ (j : ℕ). take (length (get_or (pieces ns xs) k [])) (drop j xs)) (zero-add (total (take k (pieces ns xs)))) ∙ piece_at ns xs k inside

  pub count_there : (get_or loops k no_loop).count ≡ length (get_or (pieces ns xs) k [])
  unfolding record_of
  count_there = ap (λ (q : LoopRecord). q.count) record_there

  pub falls_there : falls (get_or loops k no_loop).travel ≡ falls (net_wrap p (us (get_or (pieces ns xs) k [])))
  unfolding record_of
  falls_there = ap (λ (q : LoopRecord). falls q.travel) record_there ∙ falls_sign (net_wrap p (us (get_or (pieces ns xs) k [])))

-- A record that the check lets pass is read whole into arrays of the limits.
use Prim.Native.Nat.{ℕ, ◌≤◌}
use mathlib.Core.Path.{◌≡◌, refl, sym, ap, ◌∙◌}
use mathlib.Core.Bool.{Bool, true, false}
use mathlib.Core.List.{List}
use native.Mathlib.Omega.{arith}
use borrow.Author.Tests.{leb-true}
use lib.Ieee.{Float}
use lib.ListN.{length, take}
use lib.Seq.{take-length, length-take-le}
use Rattle.tables.specs.Rows.{rows}
use Rattle.tables.specs.declared.corners.Corner.{Corner as Held}
use Rattle.tables.proofs.Rows.{length-rows}
use Rattle.std.specs.Prelude.{Option}
use Rattle.std.specs.Bool.{then_some}
use Rattle.std.specs.Option.{unwrap_or}
use Rattle.records.specs.Accepted.{Accepted}
use Rattle.records.specs.Bytes.{◌≤?◌}
use Rattle.records.specs.Face.{loops, counts, points, needed, corners_in}
use Rattle.records.specs.Lent.{counts_there, counts_fit, points_fit, CountsRead, HeadRead, CornersRead}
use Rattle.records.proofs.Columns.{length-counts, length-corners}
use Rattle.records.specs.Limits.{version1}
use Rattle.results.proofs.Whole.{and_snd}
use Rattle.measuring.proofs.ReadLoops.{head_read_back, counts_read_back, corners_read_back}
use Rattle.filling.specs.Stages.{ReadAs}

-- ---- what was read fits

many_fit : (fits : Bool) (m room : ℕ) → (fits ≡ true → m ≤ room) → unwrap_or (then_some fits m) 0 ≤ room
many_fit true m room h = h refl
many_fit false m room h = omega arith

pub counts_told : (s c₀ c : List ℕ) (r : Option ℕ) → CountsRead s c₀ c r → (l : ℕ) → l ≡ unwrap_or r 0 → l ≤ length c₀
unfolding counts_fit
counts_told s c₀ c r h l l_is =
    let m = length-counts s in
    let b = many_fit (counts_fit s (length c₀)) (length (counts s)) (length c₀)
    (λ e. let k = leb-true (loops s) (length c₀) (and_snd (counts_there s) (loops s ≤? length c₀) e) in omega arith) in
    let e : l ≡ unwrap_or (then_some (counts_fit s (length c₀)) (length (counts s))) 0 = l_is ∙ ap (λ (o : Option ℕ). unwrap_or o 0) h.answer in
    omega arith

-- so are the counts that are read, of that many
pub counts_many : (s c₀ c : List ℕ) (r : Option ℕ) → CountsRead s c₀ c r → length c ≡ length c₀ → (l : ℕ) → l ≡ unwrap_or r 0 → l ≡ length (take l c)
counts_many s c₀ c r h kept l l_is = let b = counts_told s c₀ c r h l l_is in sym (length-take-le l c (omega arith))

pub corners_told : (s : List ℕ) (t t' : List Held) (r : Option ℕ) → CornersRead s t t' r → (n : ℕ) → n ≡ unwrap_or r 0 → n ≤ length (rows t)
unfolding points_fit
corners_told s t t' r h n n_is =
    let m = length-corners s in
    let b = many_fit (points_fit s (length (rows t))) (length (corners_in s)) (length (rows t))
    (λ e. let k = leb-true (points s) (length (rows t)) (and_snd (needed s ≤? length s) (points s ≤? length (rows t)) e) in omega arith) in
    let e : n ≡ unwrap_or (then_some (points_fit s (length (rows t))) (length (corners_in s))) 0 = n_is ∙ ap (λ (o : Option ℕ). unwrap_or o 0) h.answer in
    omega arith

-- of a table
pub rows_told : (s : List ℕ) (t t' : List Held) (r : Option ℕ) → CornersRead s t t' r → (n : ℕ) → n ≡ unwrap_or r 0 → n ≤ length t
rows_told s t t' r h n n_is = let b = corners_told s t t' r h n n_is in let l = length-rows t in omega arith

-- ---- a record that is accepted

module _ (s : List ℕ) (a : Accepted version1 s) where
  pub read_as : (h₀ h : List Float) (hr : Option ℕ) → HeadRead s h₀ h hr → length h₀ ≡ 13 → length h ≡ 13
      → (c₀ c : List ℕ) (r : Option ℕ) → CountsRead s c₀ c r → length c₀ ≡ 16 → (l : ℕ) → l ≡ unwrap_or r 0
      → (t t' : List Held) (q : Option ℕ) → CornersRead s t t' q → length t ≡ 512 → (n : ℕ) → n ≡ unwrap_or q 0
      → ReadAs s h (take l c) (take n t')
  read_as h₀ h hr hs h-room h-long c₀ c r cs c-room l l_is t t' q ts t-room n n_is =
      let few = a.loops_are in
      let total = a.total in
      let whole = length-rows t in
      let of-counts = counts_read_back s a c₀ c r cs (omega arith) in
      let of-corners = corners_read_back s a t t' q ts (omega arith) in
      let many : l ≡ loops s = l_is ∙ ap (λ (o : Option ℕ). unwrap_or o 0) of-counts.1 in
      let far : n ≡ points s = n_is ∙ ap (λ (o : Option ℕ). unwrap_or o 0) of-corners.1 in
      record {
        head_is = sym (ap (λ (k : ℕ). take k h) (sym h-long) ∙ take-length h) ∙ head_read_back s a h₀ h hr hs (omega arith);
        counts_are = ap (λ (k : ℕ). take k c) many ∙ of-counts.0;
        corners_are = ap (λ (k : ℕ). rows (take k t')) far ∙ of-corners.0;
      }

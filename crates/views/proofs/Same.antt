-- A store of the bytes that are there already leaves the memory as it is. Assumes nothing.
use mathlib.Core.Path.{◌≡◌, refl, sym, ap, subst, ◌∙◌}
use Prim.Native.Nat.{ℕ, ◌+◌}
use mathlib.Core.Bool.{Bool, true, false, ◌&&◌}
use mathlib.Core.Option.{Option, none, some, some-injective, none-ne-some}
use mathlib.Core.Logic.{inl, inr}
use mathlib.Core.List.{List, [], ◌∷◌, ◌++◌, append_assoc}
use lib.ListN.{length, set, take, drop, take-append-drop}
use lib.Seq.{drop-drop, set-get_or}
use lib.Dec.{T, leb}
use mir.Syntax.{Ty}
use mir.Val.{Val}
use mir.Mem.{Cell}
use prog.Memory.{Block, Memory, align, bind, enc, entry_at, slice, splice, aligned, pick, cells_in, store_cells, store_m}
use prog.Model.{Exactly}

bound : {A B : Type 0} (x : Option A) (k : A → Option B) (b : B) → bind x k ≡ some b
    → (a : A) × (x ≡ some a) × (k a ≡ some b)
bound none k b e = absurd (none-ne-some b e)
bound (some a) k b e = (a, refl, e)

picked : {A : Type 0} (t : Bool) (a b : A) → pick t a ≡ some b → T t × (a ≡ b)
picked true a b e = (tt, some-injective a b e)
picked false a b e = absurd (none-ne-some b e)

splice_same : (cs new ds : List Cell) (o : ℕ) → slice cs o (length new) ≡ some new → splice cs o new ≡ some ds
    → ds ≡ cs
splice_same cs new ds o there e =
    let n : ℕ = length new in
    let p = picked (leb (o + n) (length cs)) (take o cs ++ new ++ drop (o + n) cs) ds e in
    let q = picked (leb (o + n) (length cs)) (take n (drop o cs)) new there in
    let back : new ++ drop (o + n) cs ≡ drop o cs =
    ap (λ (l : List Cell). l ++ drop (o + n) cs) (sym q.1)
    ∙ ap (λ (l : List Cell). take n (drop o cs) ++ l) (sym (drop-drop n o cs)) ∙ take-append-drop n (drop o cs) in
    sym p.1 ∙ append_assoc (take o cs) new (drop (o + n) cs)
    ∙ ap (λ (l : List Cell). take o cs ++ l) back ∙ take-append-drop o cs

cells_same : (σ μ : Memory) (k b o : ℕ) (new : List Cell) (e : Block) → entry_at σ b ≡ some e
    → slice e.1 o (length new) ≡ some new → store_cells σ k b o new ≡ some μ → μ ≡ σ
cells_same σ μ k b o [] e found there h = sym (some-injective σ μ h)
cells_same σ μ k b o (c ∷ new) e found there h =
    let ns : List Cell = c ∷ new in
    let u = bound (entry_at σ b)
    (λ x. bind (cells_in k o x) (λ cs. bind (splice cs o ns) (λ cs'. some (set σ b (some (x.0, cs', x.2)))))) μ h in
    let x : Block = u.0 in
    let v = bound (cells_in k o x)
    (λ cs. bind (splice cs o ns) (λ cs'. some (set σ b (some (x.0, cs', x.2))))) μ u.2 in
    let w = bound (splice v.0 o ns) (λ cs'. some (set σ b (some (x.0, cs', x.2)))) μ v.2 in
    let p = picked (x.2 && aligned k x.0 o) x.1 v.0 v.1 in
    let one : e ≡ x = some-injective e x (sym found ∙ u.1) in
    let here : slice v.0 o (length ns) ≡ some ns =
    subst (λ (cs : List Cell). slice cs o (length ns) ≡ some ns) p.1
    (subst (λ (z : Block). slice z.1 o (length ns) ≡ some ns) one there) in
    let kept : w.0 ≡ x.1 = splice_same v.0 ns w.0 o here w.1 ∙ sym p.1 in
    sym (some-injective (set σ b (some (x.0, w.0, x.2))) μ w.2)
    ∙ ap (λ (cs : List Cell). set σ b (some (x.0, cs, x.2))) kept
    ∙ ap (λ (z : Option Block). set σ b z) (sym u.1)
    ∙ set-get_or σ b none

-- what lies there as a value of one type is stored as a value of another type that has the same cells
pub store_same : (σ μ : Memory) (τ τ' : Ty) (b o : ℕ) (v v' : Val) → Exactly σ τ b o v → enc τ' v' ≡ enc τ v
    → store_m σ τ' b o v' ≡ some μ → μ ≡ σ
store_same σ μ τ τ' b o v v' (inl e) cells h =
    sym (some-injective σ μ (subst (λ (cs : List Cell). store_cells σ (align τ') b o cs ≡ some μ) (cells ∙ e) h))
store_same σ μ τ τ' b o v v' (inr x) cells h =
    cells_same σ μ (align τ') b o (enc τ v) x.0 x.1 x.2
    (subst (λ (cs : List Cell). store_cells σ (align τ') b o cs ≡ some μ) cells h)

-- A part of a table: changed where it stands, put into another table, and the loops of a face that stand one behind the other.
use Rattle.std.proofs.Common.{◌≡◌, ℕ, ◌-◌, List, ◌++◌, take, drop, ap, ◌∙◌}
use Rattle.numbers.specs.declared.math.Vec3.{Vec3}
use Rattle.lists.specs.Parts.{on_part, part_of}
use Rattle.lists.specs.Placed.{placed}
use Rattle.lists.proofs.Maps.{map-placed}
use Rattle.tables.specs.Corners.{Corners}
use Rattle.tables.specs.Rows.{rows, corner_of}
use Rattle.tables.specs.declared.corners.Corner.{Corner as Held}
use Rattle.tables.proofs.Rows.{rows_take, rows_drop, rows_part, rows_append}

-- ---- changed where it stands

pub part_rows : (f : Corners Vec3 → Corners Vec3) (a e : ℕ) (t p : List Held) → rows p ≡ f (rows (take (e - a) (drop a t)))
    → rows (take a t ++ (p ++ drop (e - a) (drop a t))) ≡ on_part f a e (rows t)
unfolding on_part
part_rows f a e t p s =
    rows_append (take a t) (p ++ drop (e - a) (drop a t))
    ∙ (λ i. rows_take a t i ++ rows_append p (drop (e - a) (drop a t)) i)
    ∙ (λ i. take a (rows t) ++ ((s ∙ ap f (rows_part a e t)) i ++ (rows_drop (e - a) (drop a t) ∙ ap (drop (e - a)) (rows_drop a t)) i))

-- ---- put into another

pub rows-placed : (at : ℕ) (w d : List Held) → rows (placed at w d) ≡ placed at (rows w) (rows d)
unfolding rows
rows-placed at w d = map-placed corner_of at w d

-- a part of one table put into another: the rows of that part
pub copied_rows : (at from to : ℕ) (src dst dst' : List Held) → dst' ≡ placed at (take (to - from) (drop from src)) dst
    → rows dst' ≡ placed at (take (to - from) (drop from (rows src))) (rows dst)
copied_rows at from to src dst dst' e =
    ap rows e ∙ rows-placed at (take (to - from) (drop from src)) dst ∙ ap (λ (w : Corners Vec3). placed at w (rows dst)) (rows_part from to src)

-- ---- so many rows from a row on

pub rows_of_part : (from n : ℕ) (t : List Held) → rows (part_of from n t) ≡ take n (drop from (rows t))
unfolding part_of
rows_of_part from n t = rows_take n (drop from t) ∙ ap (take n) (rows_drop from t)

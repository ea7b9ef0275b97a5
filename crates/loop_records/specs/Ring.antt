-- A loop taken out of a face's corners: what a record's start and count tell of.
use Rattle.std.specs.Prelude.{ℕ, take, drop}
use Rattle.lists.specs.Placed.{placed}
use Rattle.numbers.specs.declared.math.Vec3.{Vec3}
use Rattle.tables.specs.Corners.{Corners}

-- the front of d with the `count` corners from `start` on in it; d itself where they do not fit
abbrev pub taken : ℕ → ℕ → Corners Vec3 → Corners Vec3 → Corners Vec3
taken start count corners d = placed 0 (take count (drop start corners)) d

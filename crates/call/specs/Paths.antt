-- The three paths of 01, "Where port and Rust part": "No loops: `full_domain_loop`. None wraps by `net_wrap`: `closed_region`, then `rephase_holes`. Two
-- wrap: `wrapped_region`." What each of them makes of a face: the outer loop and the holes, each with its area.
use Rattle.std.specs.Prelude.{ℕ, cond, List, [], ◌∷◌, map, get_or, Float}
use Rattle.numbers.specs.declared.math.Vec2.{Vec2}
use Rattle.numbers.specs.declared.math.Vec3.{Vec3}
use Rattle.loops.specs.Area.{area_of}
use Rattle.loops.specs.Span.{middle_of}
use Rattle.closed_region.specs.Table.{box_of}
use Rattle.closed_region.specs.Outer.{outer_of, holes_of}
use Rattle.closed_region.specs.Rephase.{rephased}
use Rattle.closed_region.specs.declared.boxes.Bounds.{Bounds}
use Rattle.closed_region.specs.declared.rephase.Branch.{Branch}
use Rattle.full_domain.specs.Boundary.{whole_corners, position_of, whole_area}
use Rattle.bands.specs.Band.{outer, holes}
use Rattle.tables.specs.Corners.{Corner, Corners, us, vs, positions, corners_from}
use Rattle.records.specs.Bytes.{◌=?◌}
use Rattle.records.specs.Face.{loops}
use Rattle.records.specs.Result.{Result, Loop, result_of}
use Rattle.call.specs.Face.{frame_in, surface_in, options_in, u_period_in, v_period_in, loops_in, wrapping, setting_in, given_in}

-- a loop of the result, with the corners' parameters and positions
abbrev pub ResultLoop : Type 0
ResultLoop = Loop (Corner Vec3)

abbrev pub loop_of : Float → Corners Vec3 → ResultLoop
loop_of area corners = record { area = area; corners = corners }

-- 01, "Closed faces": `signed_area` of a loop's parameters
abbrev pub signed_area : Corners Vec3 → Float
signed_area r = area_of (us r) (vs r)

-- a loop with the area of its own parameters
abbrev pub with_area : Corners Vec3 → ResultLoop
with_area r = loop_of (signed_area r) r

-- ---- 01, "Closed faces"

abbrev pub bounds_of : Corners Vec3 → Bounds
bounds_of r = box_of (us r) (vs r)

-- "Outer loop: the one box that encloses all others ..": its number
unfoldable pub outer_number : List (Corners Vec3) → ℕ
outer_number ls = outer_of (map bounds_of ls) (map signed_area ls)

unfoldable pub outer_loop : List (Corners Vec3) → Corners Vec3
outer_loop ls = get_or ls (outer_number ls) []

-- where the outer loop has its middle, with the periods
abbrev pub branch_of : Float → Float → Corners Vec3 → Branch
branch_of uperiod vperiod r = record { umid = middle_of (us r); vmid = middle_of (vs r); uperiod = uperiod; vperiod = vperiod }

-- holes "are then moved by whole periods, middle to middle; a moved hole's area is worked out anew"; their positions stay
unfoldable pub rephased_hole : Branch → Corners Vec3 → ResultLoop
rephased_hole b r =
    let hole = rephased b (record { us = us r; vs = vs r; area = signed_area r }) in
    loop_of hole.area (corners_from hole.us hole.vs (positions r))

-- "Holes keep their order"
unfoldable pub closed_loops : Float → Float → List (Corners Vec3) → List ResultLoop
closed_loops uperiod vperiod ls =
    let first = outer_loop ls in
    with_area first ∷ map (rephased_hole (branch_of uperiod vperiod first)) (holes_of (outer_number ls) ls)

-- ---- 01, "Bands"

-- loops of which the areas and the corners are given
unfoldable pub loops_from : List Float → List (Corners Vec3) → List ResultLoop
loops_from [] ls = []
loops_from (a ∷ areas) [] = []
loops_from (a ∷ areas) (l ∷ ls) = loop_of a l ∷ loops_from areas ls

-- "the band is the strip less the repeats of item 5"; "Hole areas stay as computed before `reseam` moved the hole."
unfoldable pub wrapped_loops : List ℕ → List ResultLoop
wrapped_loops s =
    with_area (outer (setting_in s) (given_in s))
    ∷ loops_from (map signed_area (given_in s).holes) (holes (setting_in s) (given_in s))

-- ---- 01, "Whole surfaces"

unfoldable pub whole_loop : List ℕ → ResultLoop
whole_loop s =
    loop_of (whole_area (surface_in s) (options_in s))
    (map (λ (c : Vec2). record { u = c.u; v = c.v; at = position_of (surface_in s) (frame_in s) c }) (whole_corners (surface_in s) (options_in s)))

-- ---- the choice

abbrev pub uv_of : Corner Vec3 → Vec2
uv_of c = record { u = c.u; v = c.v }

abbrev pub xyz_of : Corner Vec3 → Vec3
xyz_of c = c.at

-- 01, "The result record": "path (0 closed, 1 wrapped, 2 whole surface)"
unfoldable pub path_in : List ℕ → ℕ
path_in s = cond (loops s =? 0) 2 (cond (wrapping s =? 0) 0 1)

unfoldable pub result_loops : List ℕ → List ResultLoop
result_loops s =
    cond (loops s =? 0) (whole_loop s ∷ [])
    (cond (wrapping s =? 0) (closed_loops (u_period_in s) (v_period_in s) (loops_in s)) (wrapped_loops s))

unfoldable pub result_in : List ℕ → Result
result_in s = result_of uv_of xyz_of (path_in s) (result_loops s)

-- What the bytes of a face record mean: the surface, the tolerances and the loops. The sentences are those of 01, "The face record".
use Rattle.std.specs.Prelude.{ℕ, ◌+◌, Bool, cond, List, map, ℤ, length, Float}
use Rattle.numbers.specs.Frames.{frame_of}
use Rattle.numbers.specs.declared.math.Vec3.{Vec3}
use Rattle.numbers.specs.declared.math.Frame.{Frame}
use Rattle.surfaces.specs.declared.options.Resolved.{Resolved}
use Rattle.surfaces.specs.declared.surface.Surface.{Surface}
use Rattle.surfaces.specs.declared.surface.Surface.TheVariants.{Plane, Cylinder, Cone, Sphere, Torus}
use Rattle.surfaces.specs.Domains.{u_period, v_period, period_length}
use Rattle.lists.specs.Pieces.{pieces}
use Rattle.loops.specs.Wrap.{net_wrap}
use Rattle.tables.specs.Corners.{Corners, us}
use Rattle.bands.specs.Columns.{setting_of}
use Rattle.bands.specs.Given.{Measured, Given, wraps, given_of}
use Rattle.lists.specs.Elements.{only}
use Rattle.bands.specs.Strip.{Setting}
use Rattle.records.specs.Bytes.{◌=?◌}
use Rattle.records.specs.Face.{kind, sense, segments, counts, real_of, corners_in}
use Rattle.records.specs.Limits.{plane, cylinder, cone, sphere}

-- ---- the surface

-- the vector in the reals i, i + 1 and i + 2
abbrev pub vector_in : List ℕ → ℕ → Vec3
vector_in s i = record { x = real_of s i; y = real_of s (i + 1); z = real_of s (i + 2) }

-- "0 to 8: origin, axis, reference direction .. A frame is an origin and two directions, made by `Frame::new`, fallbacks included."
unfoldable pub frame_in : List ℕ → Frame
frame_in s = frame_of (vector_in s 0) (vector_in s 3) (vector_in s 6)

-- "kind (0 plane, 1 cylinder, 2 cone, 3 sphere, 4 torus)"; "A surface is one of five kinds, each with its own sizes": its size and its second one
unfoldable pub surface_of : ℕ → Float → Float → Surface
surface_of k a b =
    cond (k =? plane) Plane
    (cond (k =? cylinder) (Cylinder a)
    (cond (k =? cone) (Cone a b)
    (cond (k =? sphere) (Sphere a) (Torus a b))))

-- "9: radius or major radius .. 10: cone half angle .. or torus minor radius"
unfoldable pub surface_in : List ℕ → Surface
surface_in s = surface_of (kind s) (real_of s 9) (real_of s 10)

-- "4 minimum segments", "11: sag", "12: angle"
unfoldable pub options_in : List ℕ → Resolved
options_in s = record { sag = real_of s 11; angle = real_of s 12; min_edge_segments = segments s }

-- "3 same sense (0 or 1)"
unfoldable pub sense_in : List ℕ → Bool
sense_in s = sense s =? 1

abbrev pub u_period_in : List ℕ → Float
u_period_in s = period_length (u_period (surface_in s))

abbrev pub v_period_in : List ℕ → Float
v_period_in s = period_length (v_period (surface_in s))

-- ---- the loops

-- "Then L two-byte counts": the loops in file order
unfoldable pub loops_in : List ℕ → List (Corners Vec3)
loops_in s = pieces (counts s) (corners_in s)

-- each with its wrap, by `net_wrap`
unfoldable pub measured_in : List ℕ → List (Measured Vec3)
measured_in s = map (λ (loop : Corners Vec3). record { corners = loop; wrap = net_wrap (u_period (surface_in s)) (us loop) }) (loops_in s)

-- the wraps alone, one for each loop
abbrev pub wraps_in : List ℕ → List ℤ
wraps_in s = map (λ (m : Measured Vec3). m.wrap) (measured_in s)

abbrev pub is_wrapping : Measured Vec3 → Bool
is_wrapping m = wraps m.wrap

-- how many loops wrap
unfoldable pub wrapping : List ℕ → ℕ
wrapping s = length (only is_wrapping (measured_in s))

-- ---- a band

-- what a band takes from the surface and the face, and its two rings and holes
unfoldable pub setting_in : List ℕ → Setting Vec3
setting_in s = setting_of (frame_in s) (surface_in s) (options_in s) (u_period_in s) (sense_in s)

unfoldable pub given_in : List ℕ → Given Vec3
given_in s = given_of (measured_in s)

-- 02, N2, of the whole call: round a whole sphere or torus every step count is zero. The frame and the sizes are bounded, so the points at a pole are finite.
use Prim.Native.Nat.{ℕ, ◌<◌}
use mathlib.Core.Path.{◌≡◌, refl, sym, ap, ◌∙◌, subst}
use mathlib.Core.Bool.{Bool, true, false, cond, ◌&&◌}
use mathlib.Core.List.{List, [], ◌∷◌, ◌++◌, map, map-map, append-nil}
use mathlib.Core.Logic.{◌↔◌}
use native.Mathlib.Omega.{arith}
use borrow.Author.Tests.{eq-eqb, eqb-true, ne_eqb, leb-false}
use lib.Ieee.{Float}
use lib.ListN.{length, get_or, drop, length-map}
use Rattle.numbers.specs.Position.{same}
use Rattle.numbers.specs.declared.math.Vec2.{Vec2}
use Rattle.numbers.specs.declared.math.Vec3.{Vec3}
use Rattle.surfaces.specs.declared.surface.Surface.TheVariants.{Sphere, Torus}
use Rattle.surfaces.specs.Domains.{domain_of}
use Rattle.loops.specs.Steps.{net}
use Rattle.full_domain.specs.Boundary.{is_whole, whole_corners, position_of, whole_positions, us_of, vs_of, FourCorners}
use Rattle.full_domain.proofs.boundary.Corners.{four-corners}
use Rattle.full_domain.proofs.boundary.Counts.{whole_still}
use Rattle.tables.specs.Corners.{Corner, positions}
use Rattle.records.specs.Bytes.{byte_at, ◌≤?◌, ◌=?◌}
use Rattle.records.specs.Call.{Outcome, refused, closed, code, lent_after}
use Rattle.records.specs.Face.{loops, kind}
use Rattle.records.specs.Encodable.{version1_encodable}
use Rattle.records.specs.Limits.{version1, cone}
use Rattle.records.specs.Refusals.{nowhere}
use Rattle.records.specs.Result.{Result, encode, loop_positions_of, decode, corners_of, result_of}
use Rattle.records.proofs.Closing.{closed_accepted, closed_read}
use Rattle.records.proofs.Search.{when_fails}
use Rattle.call.specs.Demands.{WholeDemand}
use Rattle.call.specs.Face.{frame_in, surface_of, surface_in, options_in, wrapping}
use Rattle.call.specs.Judge.{judge}
use Rattle.call.specs.Later.{later_conditions, open_surface, open_kind}
use Rattle.call.specs.Paths.{ResultLoop, uv_of, whole_loop, path_in, result_loops, result_in}
use Rattle.call.proofs.Demands.{passed, can_be_written, read_loops, written, over_zero}
use Rattle.magnitudes.proofs.Record.{frame_framed, sizes_in}

-- ---- the path byte

path_whole : (s : List ℕ) → path_in s ≡ 2 ↔ loops s ≡ 0
unfolding path_in
path_whole s = (by_path (loops s =? 0) (wrapping s =? 0) refl, takes_two)
  where
    chosen : Bool → Bool → ℕ
    chosen p q = cond p 2 (cond q 0 1)

    by_path : (p q : Bool) → (loops s =? 0) ≡ p → chosen p q ≡ 2 → loops s ≡ 0
    by_path true q e h = eqb-true (loops s) 0 e
    by_path false true e h = absurd (omega arith)
    by_path false false e h = absurd (omega arith)

    takes_two : loops s ≡ 0 → chosen (loops s =? 0) (wrapping s =? 0) ≡ 2
    takes_two h = rw (eq-eqb (loops s) 0 h)

-- ---- refusal 11: a face without loops is a sphere or a torus

past-cone : (k : ℕ) (a b : Float) → cone < k → is_whole (surface_of k a b) ≡ true
unfolding surface_of
past-cone k a b h =
    rw (ne_eqb k 0 (λ e. omega arith), ne_eqb k 1 (λ e. omega arith), ne_eqb k 2 (λ e. omega arith)) (either (k =? 3))
  where
    either : (t : Bool) → is_whole (cond t (Sphere a) (Torus a b)) ≡ true
    either true = refl
    either false = refl

module _ (s : List ℕ) (none : loops s ≡ 0) where
  pub whole_kind : open_surface s ≡ nowhere → is_whole (surface_in s) ≡ true
  unfolding open_surface open_kind surface_in
  whole_kind not-11 =
      let over : (kind s ≤? cone) ≡ false = ap (λ (t : Bool). t && (kind s ≤? cone)) (sym (eq-eqb (loops s) 0 none)) ∙ (when_fails _ 0).0 not-11 in
      past-cone (kind s) _ _ (leb-false (kind s) cone over)

  -- ---- its one loop

  takes_whole : result_loops s ≡ whole_loop s ∷ []
  unfolding result_loops
  takes_whole = rw (eq-eqb (loops s) 0 none)

  whole_positions_lem : positions (whole_loop s).corners ≡ whole_positions (surface_in s) (frame_in s) (options_in s)
  unfolding whole_loop whole_positions
  whole_positions_lem =
      map-map (λ (c : Corner Vec3). c.at) (λ (c : Vec2). record { u = c.u; v = c.v; at = position_of (surface_in s) (frame_in s) c })
      (whole_corners (surface_in s) (options_in s))

  read_whole : (lent : ℕ) (b : List ℕ) → judge lent s ≡ closed b → (rest : List ℕ)
      → loop_positions_of (decode (b ++ rest)) ≡ whole_positions (surface_in s) (frame_in s) (options_in s) ∷ []
  read_whole lent b h rest =
      read_loops version1 version1_encodable lent s b h rest ∙ ap (map (λ (l : ResultLoop). positions l.corners)) takes_whole
      ∙ ap (λ (ps : List Vec3). ps ∷ []) whole_positions_lem

  -- its parameters, as they are read
  corner-back : (cs : List Vec2) → map uv_of (map (λ (c : Vec2). record { u = c.u; v = c.v; at = position_of (surface_in s) (frame_in s) c }) cs) ≡ cs
  corner-back [] = refl
  corner-back (c ∷ cs) = ap (λ (ds : List Vec2). c ∷ ds) (corner-back cs)

  whole_parameters : (result_in s).parameters ≡ whole_corners (surface_in s) (options_in s)
  unfolding result_in result_of corners_of whole_loop
  whole_parameters =
      ap (λ (ls : List ResultLoop). map uv_of (corners_of ls)) takes_whole ∙ ap (map uv_of) (append-nil (whole_loop s).corners) ∙ corner-back (whole_corners (surface_in s) (options_in s))

  read_parameters : (lent : ℕ) (b : List ℕ) → judge lent s ≡ closed b → (rest : List ℕ)
      → (decode (b ++ rest)).parameters ≡ whole_corners (surface_in s) (options_in s)
  read_parameters lent b h rest =
      ap (λ (r : Result). r.parameters) (closed_read version1 (later_conditions version1) result_in lent s b h (can_be_written version1 version1_encodable lent s b h) rest) ∙ whole_parameters

whole_many : (s : List ℕ) → length (whole_positions (surface_in s) (frame_in s) (options_in s)) ≡ length (whole_corners (surface_in s) (options_in s))
unfolding whole_positions
whole_many s = length-map (whole_corners (surface_in s) (options_in s)) (position_of (surface_in s) (frame_in s))

-- ---- the call

module _ (s old : List ℕ) where
  abbrev lent : ℕ
  lent = length old

  whole_of : (o : Outcome) → judge lent s ≡ o → WholeDemand s (code o) (lent_after o old)
  unfolding encode result_in result_of
  whole_of (refused n p) e =
      let over = over_zero s old n p e in
      record {
        path_is = λ z. absurd (omega arith);
        kind_is = λ z. absurd (omega arith);
        no_hole = λ z. absurd (omega arith);
        still = λ z. absurd (omega arith);
        corners = λ z. absurd (omega arith);
        in_pairs = λ z. absurd (omega arith);
      }
  whole_of (closed b) e =
      let rest = drop (length b) old in
      let accepted = closed_accepted version1 (later_conditions version1) result_in lent s b e in
      let not-11 : open_surface s ≡ nowhere = passed version1 version1_encodable lent s b e 11 in
      record {
        path_is = λ z. subst (λ (n : ℕ). n ≡ 2 ↔ loops s ≡ 0) (sym (ap (λ (r : List ℕ). byte_at (r ++ rest) 1) (written version1 version1_encodable lent s b e))) (path_whole s);
        kind_is = λ z none. whole_kind s none not-11;
        no_hole = λ z none. ap (drop 1) (read_whole s none lent b e rest);
        still = λ z none p q.
            ap (λ (ls : List (List Vec3)). net same p q (get_or ls 0 [])) (read_whole s none lent b e rest)
            ∙ whole_still (surface_in s) (frame_in s) (options_in s) (frame_framed s accepted) (sizes_in s accepted) p q;
        corners = λ z none.
            subst (λ (cs : List Vec2). FourCorners (domain_of (surface_in s)) (us_of cs) (vs_of cs)) (sym (read_parameters s none lent b e rest))
            (four-corners (surface_in s) (options_in s) (whole_kind s none not-11));
        in_pairs = λ z none.
            ap (λ (ls : List (List Vec3)). length (get_or ls 0 [])) (read_whole s none lent b e rest)
            ∙ whole_many s
            ∙ ap length (sym (read_parameters s none lent b e rest));
      }

  pub whole_demand : WholeDemand s (code (judge lent s)) (lent_after (judge lent s) old)
  whole_demand = whole_of (judge lent s) refl

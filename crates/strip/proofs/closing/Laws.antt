-- The band of two rings: the strip of tables is that of bands/specs/Strip.antt, and what the passes leave of it is the band.
use Prim.Native.Nat.{ℕ, ◌*◌, ◌^◌, ◌≤◌, ◌<◌}
use mathlib.Core.Path.{◌≡◌, refl, sym, ap, ◌∙◌}
use mathlib.Core.Bool.{Bool, true, false, cond}
use mathlib.Core.List.{List, [], ◌∷◌, ◌++◌, append_assoc, map, map-map, reverse}
use native.Mathlib.Decide.{dec_le}
use native.Mathlib.Omega.{arith}
use borrow.Author.Tests.{le-leb, lt-leb}
use lib.Dec.{leb}
use lib.Ieee.{Float}
use lib.ListN.{length, get_or, take, length-append, length-map, length-reverse}
use lib.Seq.{take-take, take_at}
use Rattle.numbers.specs.Rounded.{◌⊕◌}
use Rattle.numbers.specs.declared.math.Vec3.{Vec3}
use Rattle.surfaces.specs.declared.patch.Patch.{Patch}
use Rattle.lists.specs.Placed.{placed}
use Rattle.lists.proofs.Placed.{front-placed}
use Rattle.loops.specs.Area.{area_of}
use Rattle.loops.specs.Repeats.{drop_successive, drop_trailing, drop_merging, drop_repeats, keep}
use Rattle.loops.proofs.Trailing.{trailing_front}
use Rattle.tables.specs.Corners.{Corners, us, vs}
use Rattle.tables.specs.Rows.{rows, none}
use Rattle.tables.specs.declared.corners.Corner.{Corner as Held}
use Rattle.tables.proofs.Rows.{length-rows}
use Rattle.bands.specs.Columns.{heights_on, setting_on}
use Rattle.bands.specs.Strip.{Setting, strip, wall}
use Rattle.std.specs.Prelude.{Result, Ok, Err}
use Rattle.strip.specs.Closing.{room_for, closed_as, no_room, same_corner, band_between, closing_of, closed_into}
use Rattle.strip.specs.Corners.{same_at, at_u, far_side, row_on, heights_by, heights_between, wall_between, strip_with}
use Rattle.strip.specs.Count.{capped, strip_count}
use Rattle.strip.specs.declared.closing.Closed.{Closed}
use Rattle.strip.specs.declared.closing.TooMany.{TooMany}
use Rattle.strip.proofs.corners.Laws.{length-strip}
use Rattle.strip.proofs.repeats.Laws.{successive_fewer}

-- ---- the front of what the first pass leaves

module _ {A : Type 0} (same : A → A → Bool) (strip : List A) where
  abbrev swept : List A
  swept = drop_successive same keep strip

  front_is : (old now : List A) (m : ℕ) → m ≡ length swept → length strip ≤ length old → now ≡ placed 0 swept old → take m now ≡ swept
  front_is old now m e room is =
      let few = successive_fewer same keep strip in
      (λ i. take (e i) (is i)) ∙ front-placed swept old (omega arith)

  band_in_front : (old now : List A) → length strip ≤ length old → now ≡ placed 0 swept old → take (length (drop_repeats same strip)) now ≡ drop_repeats same strip
  unfolding drop_merging
  band_in_front old now room is =
      let band = drop_trailing same keep swept in
      let cut = trailing_front same swept in
      let n = sym (length-append band cut.0) ∙ ap length cut.1 in
      sym (take-take (length band) (length swept) now (omega arith)) ∙ ap (take (length band)) (front_is old now (length swept) refl room is ∙ sym cut.1)
      ∙ take_at band cut.0 (length band) refl

-- ---- `close_rows`

module _ (strip : Corners Vec3) (old now front band : Corners Vec3) (n m k : ℕ) (area : Float) where
  pub closed_as_lem : n ≡ length strip → n ≤ length old → m ≡ length (drop_successive same_at keep strip) → now ≡ placed 0 (drop_successive same_at keep strip) old
      → front ≡ take m now → k ≡ length (drop_trailing same_at keep front) → band ≡ take k now → area ≡ area_of (us band) (vs band)
      → record { count = k; area = area } ≡ closed_as (drop_repeats same_at strip)
  unfolding drop_merging
  closed_as_lem all room count is Front-at kept band-at area_is =
      let few : length strip ≤ length old = omega arith in
      let k_is : k ≡ length (drop_repeats same_at strip) = kept ∙ ap (λ (l : Corners Vec3). length (drop_trailing same_at keep l)) (Front-at ∙ front_is same_at strip old now m count few is) in
      let band-is : band ≡ drop_repeats same_at strip = band-at ∙ ap (λ (j : ℕ). take j now) k_is ∙ band_in_front same_at strip old now few is in
      λ i. record { count = k_is i; area = (area_is ∙ ap (λ (l : Corners Vec3). area_of (us l) (vs l)) band-is) i }

-- ---- `close_strip`

module _ (S : Setting Vec3) (lower upper : Corners Vec3) (room : ℕ) where
  -- what callers read: the band in front
  pub band_closed : (old now : Corners Vec3) → now ≡ closed_into S lower upper room old → length (strip S lower upper) ≤ room → room ≤ length old
      → take (length (band_between S lower upper)) now ≡ band_between S lower upper
  unfolding closed_into band_between
  band_closed old now is fits within =
      band_in_front (same_corner S) (strip S lower upper) old now (omega arith)
      (is ∙ ap (λ (t : Bool). cond t (placed 0 (drop_successive (same_corner S) keep (strip S lower upper)) old) old) (le-leb (length (strip S lower upper)) room fits))

  -- and that it is there, where the answer is no refusal
  pub closed-fits : (c : Closed) → Ok c ≡ closing_of S lower upper room → (length (strip S lower upper) ≤ room) × (c ≡ closed_as (band_between S lower upper))
  unfolding closing_of
  closed-fits c e = by_room (dec_le (length (strip S lower upper)) room)
    where
      by_room : Dec (length (strip S lower upper) ≤ room) → (length (strip S lower upper) ≤ room) × (c ≡ closed_as (band_between S lower upper))
      by_room (yes h) =
          let is : ◌≡◌ {A = Result Closed TooMany} (Ok c) (Ok (closed_as (band_between S lower upper))) = e ∙ rw (le-leb (length (strip S lower upper)) room h) in
          (h, cc)
      by_room (no h) =
          let is : Ok c ≡ Err (no_room (length (strip S lower upper))) = e ∙ rw (lt-leb (length (strip S lower upper)) room (omega arith)) in
          let z : ◌≡◌ {A = ℕ} 0 1 = cc in
          absurd (omega arith)

  pub too_many : (n : ℕ) (old : Corners Vec3) → n ≡ capped (length (strip S lower upper)) → room < n
      → (Err (record { corners = n }) ≡ closing_of S lower upper room) × (old ≡ closed_into S lower upper room old)
  unfolding closing_of closed_into
  too_many n old e h =
      let more : leb (length (strip S lower upper)) room ≡ false = lt-leb (length (strip S lower upper)) room (omega arith) in
      (sym (rw more (ap (λ (k : ℕ). Err (record { corners = k })) (sym e))), sym (rw more))

  pub fits : (old now : Corners Vec3) (r : Closed) → length (strip S lower upper) ≤ room → r ≡ closed_as (drop_repeats (same_corner S) (strip S lower upper))
      → now ≡ placed 0 (drop_successive (same_corner S) keep (strip S lower upper)) old → (Ok r ≡ closing_of S lower upper room) × (now ≡ closed_into S lower upper room old)
  unfolding closing_of closed_into band_between
  fits old now r h a b =
      let enough : leb (length (strip S lower upper)) room ≡ true = le-leb (length (strip S lower upper)) room h in
      (ap Ok a ∙ sym (rw enough), b ∙ sym (rw enough))

round : {A : Type 0} (p q r s : List A) (c₁ c₂ : A) → p ++ (c₁ ∷ q) ++ (c₂ ∷ r) ++ s ≡ p ++ (c₁ ∷ (q ++ (c₂ ∷ (r ++ s))))
round p q r s c₁ c₂ = simp append_assoc

module _ (patch : Patch) (period : Float) where
  strip_is : (sense : Bool) (lower upper : Corners Vec3)
      → strip (setting_on patch period sense) lower upper ≡ strip_with period lower upper (wall_between patch lower upper)
  unfolding strip strip_with heights_by
  strip_is sense [] upper = refl
  strip_is sense (l ∷ lower) [] = refl
  strip_is sense (l ∷ lower) (u ∷ upper) =
      let begin = l.u in
      let end = l.u ⊕ period in
      let vs = heights_on patch.surface patch.options l.v u.v in
      round (l ∷ lower) (wall (setting_on patch period sense) begin end vs) (reverse (u ∷ upper)) (reverse (map (row_on patch begin) vs)) (at_u end l) (at_u end u)
      ∙ ap (λ (up : Corners Vec3). (l ∷ lower) ++ (at_u end l ∷ (up ++ (at_u end u ∷ (reverse (u ∷ upper) ++ reverse (map (row_on patch begin) vs))))))
      (sym (map-map (at_u end) (row_on patch begin) vs))

  wall-few : (lower upper : Corners Vec3)
      → 2 * length (wall_between patch lower upper) ≤ length (strip_with period lower upper (wall_between patch lower upper))
  unfolding strip_with heights_by
  wall-few [] upper = omega arith
  wall-few (l ∷ lower) [] = omega arith
  wall-few (l ∷ lower) (u ∷ upper) =
      let w = map (row_on patch l.u) (heights_on patch.surface patch.options l.v u.v) in
      let end = l.u ⊕ period in
      let a = length-append (l ∷ lower) (at_u end l ∷ far_side end (u ∷ upper) w) in
      let b = length-append (map (at_u end) w) (at_u end u ∷ (reverse (u ∷ upper) ++ reverse w)) in
      let c = length-map w (at_u end) in
      let d = length-append (reverse (u ∷ upper)) (reverse w) in
      let e = length-reverse w in
      omega arith

  module _ (lower upper : Corners Vec3) where
    abbrev W : Corners Vec3
    W = wall_between patch lower upper

    abbrev laid : Corners Vec3
    laid = strip_with period lower upper W

    -- what the code has counted before it tests the room
    pub record Measured (inner n : ℕ) : Type 0 where
      pub inner_is : inner ≡ length (heights_between patch.surface patch.options lower upper)
      pub count_is : n ≡ capped (strip_count (length lower) (length upper) inner)

    module _ (inner n : ℕ) (c : Measured inner n) where
      wall-count : length W ≡ inner
      wall-count = length-map (heights_between patch.surface patch.options lower upper) (row_on patch (get_or lower 0 none).u) ∙ sym c.inner_is

      laid-count : n ≡ capped (length laid)
      laid-count = c.count_is ∙ ap (λ (k : ℕ). capped (strip_count (length lower) (length upper) k)) (sym wall-count) ∙ ap capped (sym (length-strip period lower upper W))

      module _ (wall₀ old : List Held) (room : ℕ) (room_is : room ≡ room_for wall₀ old) where
        abbrev lent : ℕ
        lent = room_for wall₀ old

        same-room : room ≡ lent
        same-room = omega arith

        pub strip_too_many : room < n → ((sense : Bool) → Err (record { corners = n }) ≡ closing_of (setting_on patch period sense) lower upper lent)
            × ((sense : Bool) → rows old ≡ closed_into (setting_on patch period sense) lower upper lent (rows old))
        strip_too_many h = (λ sense. (both sense).0, λ sense. (both sense).1)
          where
            both : (sense : Bool) → (Err (record { corners = n }) ≡ closing_of (setting_on patch period sense) lower upper lent)
                × (rows old ≡ closed_into (setting_on patch period sense) lower upper lent (rows old))
            both sense =
                too_many (setting_on patch period sense) lower upper lent n (rows old) (laid-count ∙ ap (λ (l : Corners Vec3). capped (length l)) (sym (strip_is sense lower upper)))
                (let e = same-room in omega arith)

        module _ (fits_in : n ≤ room) (few : 5 * length old < 2 ^ 64) (wall w : Corners Vec3)
            (wall_is : wall ≡ placed 0 W (rows wall₀)) (w_is : w ≡ take inner wall) where
          count : n ≡ length laid
          count = let e = laid-count in omega arith

          enough : length W ≤ length wall₀
          enough =
              let few = wall-few lower upper in
              let e = count in
              omega arith

          rows_are : w ≡ W
          rows_are =
              let f = wall-count in
              let l = length-rows wall₀ in
              let room = enough in
              w_is ∙ (λ i. take (sym f i) (wall_is i)) ∙ front-placed W (rows wall₀) (omega arith)

          pub rows_require : (n ≡ length (strip_with period lower upper w)) × (n ≤ length old)
          rows_require =
              (count ∙ ap (λ (l : Corners Vec3). length (strip_with period lower upper l)) (sym rows_are), omega arith)

          module _ (now : Corners Vec3) (r : Closed) (r_is : r ≡ closed_as (drop_repeats same_at (strip_with period lower upper w)))
              (now_is : now ≡ placed 0 (drop_successive same_at keep (strip_with period lower upper w)) (rows old)) where
            pub strip-fits : ((sense : Bool) → Ok r ≡ closing_of (setting_on patch period sense) lower upper lent)
                × ((sense : Bool) → now ≡ closed_into (setting_on patch period sense) lower upper lent (rows old))
            strip-fits = (λ sense. (both sense).0, λ sense. (both sense).1)
              where
                same-strip : (sense : Bool) → strip_with period lower upper w ≡ strip (setting_on patch period sense) lower upper
                same-strip sense = ap (strip_with period lower upper) rows_are ∙ sym (strip_is sense lower upper)

                both : (sense : Bool) → (Ok r ≡ closing_of (setting_on patch period sense) lower upper lent)
                    × (now ≡ closed_into (setting_on patch period sense) lower upper lent (rows old))
                both sense =
                    let e = same-strip sense in
                    let n_is : n ≡ length (strip (setting_on patch period sense) lower upper) = count ∙ ap length (sym (strip_is sense lower upper)) in
                    fits (setting_on patch period sense) lower upper lent (rows old) now r (let q = same-room in omega arith)
                    (r_is ∙ ap (λ (l : Corners Vec3). closed_as (drop_repeats same_at l)) e)
                    (now_is ∙ ap (λ (l : Corners Vec3). placed 0 (drop_successive same_at keep l) (rows old)) e)

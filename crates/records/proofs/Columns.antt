-- Filling lent slices from a record: loops over counts, over the reals before the points, and over corners.
use mathlib.Core.Path.{◌≡◌, refl, sym, ap, ◌∙◌}
use mathlib.Core.List.{List, map}
use Prim.Native.Nat.{ℕ, ◌+◌, ◌*◌, ◌≤◌, ◌<◌}
use native.Mathlib.Omega.{arith}
use lib.ListN.{length, get_or, set, length-map, length-set, get_or-map}
use lib.Seq.{take_all}
use lib.Ieee.{Float, nan}
use Rattle.lists.proofs.Filling as lists
use Rattle.records.specs.Bytes.{u16_at, real_at, uv_at, xyz_at}
use Rattle.numbers.specs.declared.math.Vec2.{Vec2}
use Rattle.numbers.specs.declared.math.Vec3.{Vec3}
use Rattle.tables.specs.Corners.{Corner}
use Rattle.tables.specs.Rows.{rows, none}
use Rattle.tables.specs.declared.corners.Corner.{Corner as Held}
use Rattle.tables.proofs.CornersFrom.{length_from, corner-from}
use Rattle.tables.proofs.Rows.{length-rows}
use Rattle.records.specs.Face.{header_size, head_reals, loops, count, counts, head, points, real_place, parameters, positions, u_of, v_of, corners_in, corner_at}
use Rattle.records.specs.Lent.{front, CornersRoom}
use Rattle.records.proofs.Rows.{length-row_at, get_or-row_at}

-- ---- a loop that fills a slice from its front

abbrev pub Filling : {A : Type 0} → (w d₀ d : List A) → ℕ → Type 0
Filling = lists.Filling 0

module _ {A : Type 0} {w d₀ : List A} where
  filling_start : length w ≤ length d₀ → Filling w d₀ d₀ 0
  filling_start h = lists.front w d₀ h

  module _ {d : List A} {i : ℕ} (f : Filling w d₀ d i) where
    filling_turn : (z : A) {x : A} → i < length w → x ≡ get_or w i z → Filling w d₀ (set d i x) (i + 1)
    filling_turn z {x} h e = lists.front_turn w d₀ d i x z f h e

    filling_end : length w ≤ i → d ≡ front w d₀
    filling_end h = let e : 0 + i ≡ length w = let z = f.far in omega arith in f.is ∙ rw (take_all i w h, e)

-- ---- counts

module _ (s : List ℕ) where
  pub length-counts : length (counts s) ≡ loops s
  unfolding counts
  length-counts = length-row_at u16_at 2 s header_size (loops s)

  module _ {l : ℕ} (e : l ≡ loops s) {d₀ : List ℕ} where
    pub counts_start : l ≤ length d₀ → Filling (counts s) d₀ d₀ 0
    counts_start h = let z = length-counts in filling_start (omega arith)

    module _ {d : List ℕ} {k : ℕ} (f : Filling (counts s) d₀ d k) where
      pub counts_turn : {n : ℕ} → k < l → n ≡ count s k → Filling (counts s) d₀ (set d k n) (k + 1)
      unfolding counts
      counts_turn h q =
          let z = length-counts in
          filling_turn f 0 (omega arith) (q ∙ sym (get_or-row_at u16_at 2 s header_size (loops s) k 0 (omega arith)))

      pub counts_end : l ≤ k → d ≡ front (counts s) d₀
      counts_end h = let z = length-counts in filling_end f (omega arith)

-- ---- the reals before the points, from p on

module _ (s : List ℕ) where
  pub length-head : length (head s) ≡ head_reals
  unfolding head
  length-head = length-row_at real_at 8 s (real_place s 0) head_reals

  module _ {d₀ : List Float} where
    pub head_start : head_reals ≤ length d₀ → Filling (head s) d₀ d₀ 0
    head_start h = let l = length-head in filling_start (omega arith)

    module _ {d : List Float} {i : ℕ} (f : Filling (head s) d₀ d i) where
      pub head_turn : {p : ℕ} {x : Float} → p ≡ real_place s 0 → i < head_reals → x ≡ real_at s (p + 8 * i) → Filling (head s) d₀ (set d i x) (i + 1)
      unfolding head
      head_turn e h q =
          let l = length-head in
          filling_turn f nan (omega arith) (q ∙ rw e (sym (get_or-row_at real_at 8 s (real_place s 0) head_reals i nan h)))

      pub head_end : head_reals ≤ i → d ≡ front (head s) d₀
      head_end h = let l = length-head in filling_end f (omega arith)

-- ---- the corners

module _ (s : List ℕ) where
  length-parameters : length (parameters s) ≡ points s
  unfolding parameters
  length-parameters = length-row_at uv_at 16 s (real_place s head_reals) (points s)

  length-positions : length (positions s) ≡ points s
  unfolding positions
  length-positions = length-row_at xyz_at 24 s (real_place s (head_reals + 2 * points s)) (points s)

  us_long : length (map u_of (parameters s)) ≡ length (positions s)
  us_long = length-map (parameters s) u_of ∙ length-parameters ∙ sym length-positions

  vs_long : length (map v_of (parameters s)) ≡ length (positions s)
  vs_long = length-map (parameters s) v_of ∙ length-parameters ∙ sym length-positions

  pub length-corners : length (corners_in s) ≡ points s
  unfolding corners_in
  length-corners = length_from (map u_of (parameters s)) (map v_of (parameters s)) (positions s) us_long vs_long ∙ length-positions

  parameter_at : (i : ℕ) → i < points s → get_or (parameters s) i (record { u = nan; v = nan }) ≡ uv_at s (real_place s head_reals + 16 * i)
  unfolding parameters
  parameter_at i h = get_or-row_at uv_at 16 s (real_place s head_reals) (points s) i (record { u = nan; v = nan }) h

  position_at : (i : ℕ) → i < points s → get_or (positions s) i none.at ≡ xyz_at s (real_place s (head_reals + 2 * points s) + 24 * i)
  unfolding positions
  position_at i h = get_or-row_at xyz_at 24 s (real_place s (head_reals + 2 * points s)) (points s) i none.at h

  corner_is : (i : ℕ) → i < points s → get_or (corners_in s) i none ≡ corner_at s (real_place s head_reals + 16 * i) (real_place s (head_reals + 2 * points s) + 24 * i)
  unfolding corners_in corner_at
  corner_is i h =
      let away : Vec2 = record { u = nan; v = nan } in
      let n = length-positions in
      let u_is : get_or (map u_of (parameters s)) i nan ≡ (uv_at s (real_place s head_reals + 16 * i)).u = get_or-map u_of (parameters s) i away ∙ ap u_of (parameter_at i h) in
      let v_is : get_or (map v_of (parameters s)) i nan ≡ (uv_at s (real_place s head_reals + 16 * i)).v = get_or-map v_of (parameters s) i away ∙ ap v_of (parameter_at i h) in
      corner-from (map u_of (parameters s)) (map v_of (parameters s)) (positions s) i none us_long vs_long (omega arith)
      ∙ (λ j. record { u = u_is j; v = v_is j; at = position_at i h j })

pub corner_read : (s : List ℕ) (p q : ℕ) (u v x y z : Float) → u ≡ real_at s p → v ≡ real_at s (p + 8) → x ≡ real_at s q → y ≡ real_at s (q + 8) → z ≡ real_at s (q + 16)
    → record { u = u; v = v; at = record { x = x; y = y; z = z } } ≡ corner_at s p q
unfolding corner_at uv_at xyz_at
corner_read s p q u v x y z eu ev ex ey ez = λ i. record { u = eu i; v = ev i; at = record { x = ex i; y = ey i; z = ez i } }

-- i corners are read: p is where the parameters begin, and q where the positions do
pub record Reading (s : List ℕ) (n p q : ℕ) (t₀ t : List Held) (i : ℕ) : Type 0 where
  pub room : CornersRoom s n t₀
  pub p_is : p ≡ real_place s head_reals
  pub q_is : q ≡ p + 16 * n
  pub long : length t ≡ length t₀
  pub filling : Filling (corners_in s) (rows t₀) (rows t) i

module _ {s : List ℕ} {n p q : ℕ} {t₀ : List Held} where
  pub reading_start : CornersRoom s n t₀ → p ≡ real_place s head_reals → q ≡ p + 16 * n → Reading s n p q t₀ t₀ 0
  reading_start w e f =
      let l = length-corners s in
      let m = w.many in
      let r = w.room in
      record { room = w; p_is = e; q_is = f; long = refl; filling = filling_start (omega arith) }

  module _ {t : List Held} {i : ℕ} (r : Reading s n p q t₀ t i) where
    -- of any table whose rows are those of t with c stored at i
    pub reading_turn : {t' : List Held} {c : Corner Vec3} → i < n → c ≡ corner_at s (p + 16 * i) (q + 24 * i) → rows t' ≡ set (rows t) i c → Reading s n p q t₀ t' (i + 1)
    reading_turn {t'} {c} h e u =
        let m = r.room.many in
        let k = length-corners s in
        let at : q ≡ real_place s (head_reals + 2 * points s) = let a = r.p_is in let b = r.q_is in omega arith in
        let is : c ≡ get_or (corners_in s) i none = e ∙ (λ j. corner_at s (r.p_is j + 16 * i) (at j + 24 * i)) ∙ sym (corner_is s i (omega arith)) in
        record {
          room = r.room;
          p_is = r.p_is;
          q_is = r.q_is;
          long = sym (length-rows t') ∙ ap length u ∙ length-set (rows t) i c ∙ length-rows t ∙ r.long;
          filling = rw u (filling_turn r.filling none (omega arith) is);
        }

    pub reading_end : n ≤ i → rows t ≡ front (corners_in s) (rows t₀)
    reading_end h = let m = r.room.many in let k = length-corners s in filling_end r.filling (omega arith)

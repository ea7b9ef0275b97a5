-- The conditions 8 to 12 in plain facts, as `records` has those before them.
use Prim.Native.Nat.{ℕ, ◌≤◌, ◌<◌}
use mathlib.Core.Path.{◌≡◌, refl, sym}
use mathlib.Core.Logic.{◌↔◌, ◌⊎◌, inl, inr}
use mathlib.Core.Bool.{Bool, true, false, cond, ◌&&◌, true≢false}
use mathlib.Core.List.{List}
use borrow.Author.Tests.{eqb-true, eqb-false, eq-eqb, ne_eqb, leb-true, leb-false, le-leb, lt-leb}
use Rattle.numbers.specs.Position.{same}
use Rattle.loops.specs.Rings.{ends_meet}
use Rattle.tables.specs.Corners.{positions}
use Rattle.records.specs.Bytes.{◌<?◌, ◌≤?◌, ◌=?◌}
use Rattle.records.specs.Face.{kind, loops}
use Rattle.records.specs.declared.limits.Limits.{Limits}
use Rattle.records.specs.Limits.{cone}
use Rattle.records.specs.Refusals.{nowhere, at, first_where}
use Rattle.records.proofs.Refused.{Says, below, refuted, when-exactly, first-exactly}
use Rattle.records.proofs.Search.{nowhere≢at}
use Rattle.call.specs.Face.{is_wrapping, wrapping}
use Rattle.call.specs.Later.{open_ring, one_ring, many_rings, open_surface, open_kind, strip_points, long_strip}
use Rattle.call.proofs.Judged.{loop_in, is_open, open_ring_is, one-ring_is, many_rings_is}

-- ---- tests

equal : (m n : ℕ) → Says (m =? n) (m ≡ n) (m ≡ n → ⊥)
equal m n = record { true→ = eqb-true m n; →true = eq-eqb m n; false→ = eqb-false m n; →false = ne_eqb m n }

at_most : (m n : ℕ) → Says (m ≤? n) (m ≤ n) (n < m)
at_most m n = record { true→ = leb-true m n; →true = le-leb m n; false→ = leb-false m n; →false = lt-leb m n }

itself : (b : Bool) → Says b (b ≡ true) (b ≡ false)
itself b = record { true→ = λ e. e; →true = λ e. e; false→ = λ e. e; →false = λ e. e }

both : (a b : Bool) {P Q R S : Type 0} → Says a P Q → Says b R S → Says (a && b) (P × R) (Q ⊎ S)
both true true {P} {Q} {R} {S} v w = record { true→ = λ e. (v.true→ refl, w.true→ refl); →true = λ r. refl; false→ = λ e. absurd (true≢false e); →false = one_fails }
  where
    one_fails : Q ⊎ S → true ≡ false
    one_fails (inl q) = v.→false q
    one_fails (inr r) = w.→false r
both true false v w = record { true→ = λ e. absurd (true≢false (sym e)); →true = λ r. w.→true r.1; false→ = λ e. inr (w.false→ refl); →false = λ r. refl }
both false b v w = record { true→ = λ e. absurd (true≢false (sym e)); →true = λ r. v.→true r.0; false→ = λ e. inl (v.false→ refl); →false = λ r. refl }

module _ (s : List ℕ) where
  -- loop k wraps, and its last position is not its first, compared as numbers
  abbrev pub Wraps : ℕ → Type 0
  Wraps k = is_wrapping (loop_in s k) ≡ true

  abbrev pub Stays : ℕ → Type 0
  Stays k = is_wrapping (loop_in s k) ≡ false

  abbrev pub Open : ℕ → Type 0
  Open k = ends_meet same (positions (loop_in s k).corners) ≡ false

  abbrev pub Meets : ℕ → Type 0
  Meets k = ends_meet same (positions (loop_in s k).corners) ≡ true

  module _ (p : ℕ) where
    pub refusal_8 : open_ring s ≡ at p ↔ (p < loops s) × (Wraps p × Open p) × ((j : ℕ) → j < p → Stays j ⊎ Meets j)
    refusal_8 =
        rw (open_ring_is s)
        (first-exactly (λ k. is_wrapping (loop_in s k) && is_open (loop_in s k))
        (λ k. both (is_wrapping (loop_in s k)) (is_open (loop_in s k)) (itself (is_wrapping (loop_in s k))) (refuted (ends_meet same (positions (loop_in s k).corners))))
        (loops s) p)

    -- the loop is the first that wraps, and so the one
    pub refusal_9 : one_ring s ≡ at p ↔ (wrapping s ≡ 1) × ((p < loops s) × Wraps p × ((j : ℕ) → j < p → Stays j))
    refusal_9 = rw (one-ring_is s) (go→ (wrapping s =? 1) refl, λ r. rw (eq-eqb (wrapping s) 1 r.0) (found.1 r.1))
      where
        found : first_where (loops s) (λ k. is_wrapping (loop_in s k)) ≡ at p ↔ (p < loops s) × Wraps p × ((j : ℕ) → j < p → Stays j)
        found = first-exactly (λ k. is_wrapping (loop_in s k)) (λ k. itself (is_wrapping (loop_in s k))) (loops s) p

        go→ : (b : Bool) → (wrapping s =? 1) ≡ b → cond b (first_where (loops s) (λ k. is_wrapping (loop_in s k))) nowhere ≡ at p
            → (wrapping s ≡ 1) × ((p < loops s) × Wraps p × ((j : ℕ) → j < p → Stays j))
        go→ true e h = (eqb-true (wrapping s) 1 e, found.0 h)
        go→ false e h = absurd (nowhere≢at h)

    pub refusal_10 : many_rings s ≡ at p ↔ (2 < wrapping s) × (p ≡ wrapping s)
    refusal_10 = rw (many_rings_is s) (when-exactly _ (below 2 (wrapping s)) (wrapping s) p)

    pub refusal_11 : open_surface s ≡ at p ↔ ((loops s ≡ 0) × (kind s ≤ cone)) × (p ≡ 0)
    unfolding open_surface open_kind
    refusal_11 = when-exactly _ (both (loops s =? 0) (kind s ≤? cone) (equal (loops s) 0) (at_most (kind s) cone)) 0 p

    pub refusal_12 : (L : Limits) → long_strip L s ≡ at p ↔ ((wrapping s ≡ 2) × (L.strip < strip_points s)) × (p ≡ strip_points s)
    unfolding long_strip
    refusal_12 L =
        when-exactly _ (both (wrapping s =? 2) (L.strip <? strip_points s) (equal (wrapping s) 2) (below L.strip (strip_points s))) (strip_points s) p

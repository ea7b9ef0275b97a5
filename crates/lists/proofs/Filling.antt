-- A loop that puts a list w into a list d₀ element by element, from `at` on: after i turns the first i elements of w stand in d.
use Prim.Native.Nat.{ℕ, ◌+◌, ◌-◌, ◌≤◌, ◌<◌}
use mathlib.Core.Path.{◌≡◌, refl, ap, ◌∙◌}
use mathlib.Core.List.{List, ◌++◌}
use native.Mathlib.Nat.{zero-add}
use native.Mathlib.Numerals.{add-one}
use native.Mathlib.Omega.{arith}
use borrow.Author.Tests.{le-leb}
use lib.ListN.{length, take, drop, get_or, set, length-set}
use lib.Seq.{paste, paste-zero, paste-suc, length_paste_head, take_all, get_or-append-add, get_or-drop}
use Rattle.lists.specs.Placed.{placed}

module _ {A : Type 0} where
  pub record Filling (at : ℕ) (w d₀ d : List A) (i : ℕ) : Type 0 where
    pub room : at + length w ≤ length d₀
    pub far : i ≤ length w
    pub long : length d ≡ length d₀
    pub is : d ≡ paste d₀ at w i

  module _ (at : ℕ) (w d₀ : List A) where
    pub filling : at + length w ≤ length d₀ → Filling at w d₀ d₀ 0
    filling h = record { room = h; far = omega arith; long = refl; is = paste-zero d₀ at w }

    pub filling_turn : (d : List A) (i : ℕ) (x z : A) → Filling at w d₀ d i → i < length w → x ≡ get_or w i z → Filling at w d₀ (set d (at + i) x) (i + 1)
    filling_turn d i x z f h e =
        let room : at + i < length d₀ = omega arith in
        record {
          room = f.room;
          far = omega arith;
          long = simp length-set f.long;
          is = rw (add-one, e, f.is) (paste-suc d₀ at w i z room h);
        }

    pub filling_end : (d : List A) (i : ℕ) → Filling at w d₀ d i → length w ≤ i → d ≡ placed at w d₀
    unfolding placed
    filling_end d i f h =
        let whole : i ≡ length w = omega arith in
        f.is ∙ rw (le-leb (at + length w) (length d₀) f.room, take_all i w h, whole)

    -- what is not yet overwritten is read as it was
    pub filling_read : (d : List A) (i j : ℕ) (z : A) → Filling at w d₀ d i → at + i ≤ j → get_or d j z ≡ get_or d₀ j z
    filling_read d i j z f h =
        let head : List A = take at d₀ ++ take i w in
        let long : length head ≡ at + i = length_paste_head d₀ at w i (omega arith) f.far in
        let place : j ≡ length head + (j - (at + i)) = omega arith in
        let back : at + i + (j - (at + i)) ≡ j = omega arith in
        ap (λ (l : List A). get_or l j z) f.is ∙ ap (λ (k : ℕ). get_or (paste d₀ at w i) k z) place
        ∙ get_or-append-add head (drop (at + i) d₀) (j - (at + i)) z ∙ get_or-drop (at + i) d₀ (j - (at + i)) z ∙ ap (λ (k : ℕ). get_or d₀ k z) back

  -- into the front
  module _ (w d₀ : List A) where
    pub front : length w ≤ length d₀ → Filling 0 w d₀ d₀ 0
    front h = filling 0 w d₀ (omega arith)

    pub front_turn : (d : List A) (i : ℕ) (x z : A) → Filling 0 w d₀ d i → i < length w → x ≡ get_or w i z → Filling 0 w d₀ (set d i x) (i + 1)
    front_turn d i x z f h e = rw (zero-add i) at (filling_turn 0 w d₀ d i x z f h e)

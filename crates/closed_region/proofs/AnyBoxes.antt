-- The boxes of a table of boxes, whatever a row is made of: how many they are, and what is read there.
use Rattle.std.proofs.Common.{◌≡◌, ℕ, ◌<◌, List, length, get_or, map, sym, ap, ◌∙◌}
use Rattle.std.proofs.lemmas.List.{length-map}
use Rattle.lists.proofs.Elements.{get_d_map}
use Rattle.closed_region.specs.Outer.{box_at, nowhere}
use Rattle.closed_region.specs.declared.boxes.Bounds.{Bounds}

module _ {A : Type 0} (box_of : A → Bounds) (boxes_of : List A → List Bounds) (are : (t : List A) → boxes_of t ≡ map box_of t) (t : List A) where
  pub boxes_counted : length (boxes_of t) ≡ length t
  boxes_counted = ap length (are t) ∙ length-map t box_of

  -- row i, which is read as b
  pub box_there : (i : ℕ) (x : A) (b : Bounds) → i < length t → x ≡ get_or t i x → b ≡ box_of x → box_at (boxes_of t) i ≡ b
  box_there i x b h e d = ap (λ bs. box_at bs i) (are t) ∙ get_d_map box_of t i nowhere x h ∙ ap box_of (sym e) ∙ sym d

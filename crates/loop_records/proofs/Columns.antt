-- What is read of each record, one behind the other.
use Rattle.std.proofs.Common.{◌≡◌, ◌<◌, ℕ, min, List, length, get_or, map, take, arith, sym, ap, ◌∙◌}
use lib.ListN.{length-map, length-take}
use Rattle.std.proofs.lemmas.List.{same_lists, get_or-map}
use Rattle.lists.specs.Parts.{part_of}
use Rattle.lists.specs.Placed.{placed}
use Rattle.lists.proofs.Maps.{map-take}
use Rattle.loop_records.specs.declared.LoopRecord.{LoopRecord}
use Rattle.loop_records.specs.Record.{no_loop}

pub column : {B : Type 0} (f : LoopRecord → B) (loops : List LoopRecord) (ys : List B) → length ys ≡ 16 → length loops ≡ 16
    → ((i : ℕ) (e : B) → i < 16 → get_or ys i e ≡ f (get_or loops i no_loop)) → ys ≡ map f loops
column f loops ys long many each =
    let l = length-map loops f in
    same_lists ys (map f loops) (omega arith) (λ i e h. each i e (omega arith) ∙ sym (get_or-map f loops i no_loop e (omega arith)))

-- as many as n, and 16 at most
length_wanted : {B : Type 0} (f : LoopRecord → B) (loops : List LoopRecord) (n : ℕ) → length loops ≡ 16 → length (map f (take n loops)) ≡ min n 16
length_wanted f loops n l = let t = length-take n loops in length-map (take n loops) f ∙ omega arith

-- of the first n, put into the front of a list
pub column_put : {B : Type 0} (f : LoopRecord → B) (loops : List LoopRecord) (n : ℕ) (ys piece old new : List B) → ys ≡ map f loops → piece ≡ part_of 0 n ys
    → new ≡ placed 0 piece old → new ≡ placed 0 (map f (take n loops)) old
unfolding part_of
column_put f loops n ys piece old new all cut put = put ∙ ap (λ (l : List _). placed 0 l old) (cut ∙ ap (take n) all ∙ sym (map-take f n loops))

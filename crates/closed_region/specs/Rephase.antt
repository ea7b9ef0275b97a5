-- 01, "Closed faces": holes "are then moved by whole periods, middle to middle; a moved hole's area is worked out anew".
use Rattle.std.specs.Prelude.{cond, ◌&&◌, List, map, Float}
use Rattle.std.specs.Float.Ieee.{lt, eq}
use Rattle.numbers.specs.Constants.{plus_zero}
use Rattle.numbers.specs.Round.{round_away}
use Rattle.numbers.specs.Rounded.{◌⊖◌, ◌⊗◌, ◌⊘◌}
use Rattle.tables.specs.Moves.{moved_by}
use Rattle.tables.specs.declared.moves.Move.TheVariants.{Up}
use Rattle.loops.specs.Area.{area_of}
use Rattle.loops.specs.Span.{middle_of}
use Rattle.closed_region.specs.declared.rephase.Branch.{Branch}

-- "whole periods, middle to middle": what is added to a hole's parameters to bring their middle nearest to that of the outer loop. A direction whose
-- period is not above zero is open, and nothing is added there.
unfoldable pub shift_of : Float → Float → List Float → Float
shift_of middle period xs = cond (lt plus_zero period) (round_away ((middle ⊖ middle_of xs) ⊘ period) ⊗ period) plus_zero

pub record Loop : Type 0 where
  pub us : List Float
  pub vs : List Float
  pub area : Float

-- moved by su and sv
unfoldable pub moved : Float → Float → Loop → Loop
moved su sv l =
    let us = map (moved_by (Up su)) l.us in
    let vs = map (moved_by (Up sv)) l.vs in
    record { us = us; vs = vs; area = area_of us vs }

-- both shifts are added wherever one of them is not zero
unfoldable pub rephased : Branch → Loop → Loop
rephased b l =
    let su = shift_of b.umid b.uperiod l.us in
    let sv = shift_of b.vmid b.vperiod l.vs in
    cond (eq su plus_zero && eq sv plus_zero) l (moved su sv l)

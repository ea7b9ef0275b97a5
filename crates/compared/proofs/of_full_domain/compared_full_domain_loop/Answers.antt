-- The table ends as the corners that the layer below leaves and the reals that stood behind them.
use Rattle.std.proofs.Common.{◌≡◌, length, ◌++◌, List, sym, ap, ◌∙◌, subst, subst₂}
use Rattle.std.specs.Prelude.{Float}
use Rattle.surfaces.specs.declared.surface.Surface.{Surface}
use Rattle.tables.specs.declared.corners.Corner.{Corner}
use Rattle.tables.specs.Rows.{rows}
use Rattle.full_domain.specs.Table.{RowsReach}
use Rattle.views.specs.Tables.{corners_of, reals_of}
use Rattle.views.proofs.CornerRows.{items_after}
use Rattle.compared.specs.Surfaces.{resolved_of}
use Rattle.compared.proofs.of_full_domain.compared_full_domain_loop.Goals as goal

pub returns-clause-rows_reach : goal.returns-clause-rows_reach
returns-clause-rows_reach c =
    let parts = c.split_corners_mut-corners.ensures.value in
    let options = resolved_of c.args.sag c.args.angle c.args.segments in
    let ended : List Corner = c.full_domain_loop.new.t in
    let behind : List Float = c.split_corners_mut-corners.result.1.now in
    let after : corners_of (reals_of ended ++ behind) ≡ ended =
    ap (λ (r : List Float). corners_of (reals_of ended ++ r)) parts.1 ∙ items_after ended c.args.t.now in
    let reaches : Surface → List Corner → List Corner → Type 0 =
    λ (s : Surface) (before : List Corner) (then : List Corner). RowsReach s options (length (rows before)) (rows then) in
    subst (λ (s : Surface). reaches s (corners_of c.args.t.now) (corners_of (reals_of ended ++ behind))) c.surface_of.ensures
    (subst₂ (reaches c.surface_of.result) parts.0 (sym after) c.full_domain_loop.ensures.rows_reach)

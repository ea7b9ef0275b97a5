-- Each of them, as its crate proves it.
use Rattle.numbers.proofs.rounding.Meaning.{round-nearest, floor_means, ceil_means}
use Rattle.numbers.proofs.root.Nearest.{sqrt-nearest}
use Rattle.numbers.proofs.trig.Exact.{exact_multiples}
use Rattle.numbers.proofs.Units.{units_exact, units_order, units_sum}
use Rattle.numbers.proofs.Errors.{round_error, add_error}
use Rattle.surfaces.proofs.knots.Rising.{stretch_of, sort_changes_nothing}
use Rattle.full_domain.proofs.boundary.Rising.{whole_rise}
use Rattle.rings.proofs.ByU.{later_bare}
use Rattle.bands.proofs.Clear.{clear_rings}
use Rattle.bands.proofs.Walls.{band-kept}
use Rattle.values.specs.Meanings.{Meanings}

pub meanings : Meanings
meanings = record {
  round = round-nearest;
  floor = floor_means;
  ceil = ceil_means;
  sqrt = sqrt-nearest;
  sin_cos = exact_multiples;
  units = units_exact;
  units_order = units_order;
  units_sum = units_sum;
  rounding_error = round_error;
  sum_error = add_error;
  merge_even = λ lo hi n v w h few. sort_changes_nothing lo hi n (stretch_of lo hi v w h) few;
  whole_rungs = whole_rise;
  bands = band-kept;
  later_bare = later_bare;
  clear_bands = clear_rings;
}

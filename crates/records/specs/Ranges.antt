-- A range that the code has in hand.
use Rattle.records.specs.declared.real_ranges.Range.{Range as Held}
use Rattle.records.specs.Limits.{Range, ◌to◌}

abbrev pub range_of : Held → Range
range_of r = r.low to r.high

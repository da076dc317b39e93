use Rattle.std.proofs.Common.{◌-◌, ◌<◌, ◌≤◌}
use Rattle.std.specs.List.{AllWithin}
use Rattle.broker_index.specs.Places.{IsBefore}
use Rattle.broker_index.proofs.numbers.bounds.Given as goal

abbrev pub invariant-loop-high : goal.invariant-loop-high
invariant-loop-high l = record {
  positive : 0 < l.high;
  order : l.low ≤ l.high;
  bound : l.low ≤ l.highest;
  before : AllWithin (IsBefore l.number) l.places.items 0 l.low;
}

abbrev pub decreases-loop-high : goal.decreases-loop-high
decreases-loop-high l = l.highest - l.high

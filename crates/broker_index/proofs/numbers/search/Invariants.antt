use Rattle.std.proofs.Common.{◌-◌, ◌≤◌, length}
use Rattle.std.specs.List.{AllWithin}
use Rattle.broker_index.specs.Places.{IsBefore, IsFrom}
use Rattle.broker_index.proofs.numbers.search.Given as goal

abbrev pub invariant-loop-low : goal.invariant-loop-low
invariant-loop-low l = record {
  order : l.low ≤ l.high;
  bound : l.high ≤ length l.places.items;
  before : AllWithin (IsBefore l.number) l.places.items 0 l.low;
  behind : AllWithin (IsFrom l.number) l.places.items l.high (length l.places.items);
}

abbrev pub decreases-loop-low : goal.decreases-loop-low
decreases-loop-low l = l.high - l.low

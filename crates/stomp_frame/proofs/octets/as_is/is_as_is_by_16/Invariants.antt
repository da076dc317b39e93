use Rattle.std.proofs.Common.{◌≡◌, ◌≤◌, ◌-◌, true, length, take}
use Rattle.stomp_frame.specs.Inner.Writing.{is_as_is}
use Rattle.stomp_frame.proofs.octets.as_is.is_as_is_by_16.Given as goal

abbrev pub invariant-loop-at : goal.invariant-loop-at
invariant-loop-at l = record {
  before : is_as_is (take l.at l.text) ≡ true;
  within : l.at ≤ length l.text;
}

abbrev pub decreases-loop-at : goal.decreases-loop-at
decreases-loop-at l = length l.text - l.at

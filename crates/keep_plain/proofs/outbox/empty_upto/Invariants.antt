use Rattle.std.proofs.Common.{◌≡◌, ◌≤◌}
use Rattle.keep.specs.Places.{place_cmp}
use Rattle.keep_plain.specs.Index.{messages_in}
use Rattle.keep_plain.specs.Slots.{KeepsSlots}
use Rattle.keep_plain.specs.Upto.{EmptiesFrom}
use Rattle.keep_plain.proofs.outbox.empty_upto.Given as goal

abbrev pub invariant-loop-number : goal.invariant-loop-number
invariant-loop-number l = record {
  empties : EmptiesFrom l.fn.place.pair l.place.number l.fn.place.number (messages_in l.fn.outbox)
      (messages_in l.outbox);
  keeps : KeepsSlots place_cmp l.fn.outbox l.outbox;
  pair : l.place.pair ≡ l.fn.place.pair;
  fits : l.place.number ≤ l.fn.place.number;
}

abbrev pub decreases-loop-number : goal.decreases-loop-number
decreases-loop-number l = l.place.number

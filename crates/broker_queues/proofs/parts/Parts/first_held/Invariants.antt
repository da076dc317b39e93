use Rattle.std.proofs.Common.{◌≡◌, drop}
use Rattle.std.specs.Prelude.{find}
use Rattle.broker_queues.specs.Parts.Fates.{is_held_at}
use Rattle.broker_queues.proofs.parts.Parts.first_held.Given as goal

abbrev pub invariant-loop-place : goal.invariant-loop-place
invariant-loop-place l =
    find (is_held_at l.self.messages l.self.subscribers l.ack) l.places
    ≡ find (is_held_at l.self.messages l.self.subscribers l.ack) (drop l.place-index l.places)

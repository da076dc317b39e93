use Rattle.std.proofs.Common.{◌≡◌, drop}
use Rattle.std.specs.Prelude.{find}
use Rattle.broker_queues.specs.Parts.Storing.{is_named_at}
use Rattle.broker_queues.proofs.parts.Parts.first_named.Given as goal

abbrev pub invariant-loop-place : goal.invariant-loop-place
invariant-loop-place l =
    find (is_named_at l.self.subscribers l.session l.id) l.places
    ≡ find (is_named_at l.self.subscribers l.session l.id) (drop l.place-index l.places)

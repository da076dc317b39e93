use Rattle.std.proofs.Common.{◌≡◌, drop}
use Rattle.std.specs.Prelude.{find}
use Rattle.broker_queues.specs.Parts.Storing.{is_stale}
use Rattle.broker_queues.proofs.parts.Parts.first_stale_in.Given as goal

abbrev pub invariant-loop-entry : goal.invariant-loop-entry
invariant-loop-entry l =
    find (is_stale l.self.messages) l.entries ≡ find (is_stale l.self.messages) (drop l.entry-index l.entries)

use Rattle.std.proofs.Common.{◌≡◌, drop}
use Rattle.std.specs.Prelude.{find}
use Rattle.broker_queues.specs.Parts.Fates.{is_covered}
use Rattle.broker_queues.proofs.parts.Parts.first_covered_in.Given as goal

abbrev pub invariant-loop-entry : goal.invariant-loop-entry
invariant-loop-entry l =
    find (is_covered l.self.messages l.subscription l.answered) l.entries
    ≡ find (is_covered l.self.messages l.subscription l.answered) (drop l.entry-index l.entries)

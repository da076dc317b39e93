use Rattle.std.proofs.Common.{◌≡◌, drop}
use Rattle.relay.specs.Filling.{send_state}
use Rattle.relay.specs.Parts.Pages.{IsFilling}
use Rattle.relay.proofs.relay.Relay.fill_letters.Given as goal

abbrev pub invariant-loop-letter : goal.invariant-loop-letter
invariant-loop-letter l =
    IsFilling l.fn.limit l.letters (send_state l.fn.self l.fn.client) (send_state l.self l.client) l.count
    (drop l.letter-index l.letters) × (l.self.behind ≡ l.fn.self.behind) × (l.self.rows ≡ l.fn.self.rows)

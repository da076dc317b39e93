use Rattle.std.proofs.Common.{◌≡◌, Some}
use Rattle.shared_endpoint.specs.Keys.{told_hand, shown_hand}
use Rattle.shared_endpoint.specs.Token.{number_of, the_hand}
use Rattle.service_program.proofs.Lives.{new_has_seen}
use Rattle.service_program.proofs.running.live.Goals as goal

pub new-past-requires-clause-found : goal.new-past-requires-clause-found
new-past-requires-clause-found g c = new_has_seen (λ e. g.N.Naming.found ≡ Some e) (number_of the_hand) c.args.found.value
    (told_hand c.args.tokens.hand) (shown_hand c.args.tokens.hand) c.requires.hand.1.0 c.requires.found

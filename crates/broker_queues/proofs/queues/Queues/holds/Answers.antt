use Rattle.std.proofs.Common.{◌∙◌, ap}
use Rattle.std.specs.Prelude.{is_some}
use Rattle.broker_book.specs.Books.{Book}
use Rattle.broker_book.specs.Steps.{holder}
use Rattle.broker_queues.specs.Parts.Held.{holding_of}
use Rattle.broker_queues.proofs.Asking.{asks_holder}
use Rattle.broker_queues.proofs.queues.Queues.holds.Goals as goal

pub returns : goal.returns
returns g c =
    c.is_some.ensures ∙ ap is_some c.holder.ensures
    ∙ asks_holder (holding_of c.self.inside.parts) c.self.inside.accepted.items c.args.session c.args.number
    c.self.invariant.sound
    ∙ ap (λ (b : Book). is_some (holder b c.args.session c.args.number)) c.self.view_is

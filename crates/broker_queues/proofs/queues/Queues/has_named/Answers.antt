use Rattle.std.proofs.Common.{◌∙◌, ap}
use Rattle.std.specs.Prelude.{is_some}
use Rattle.std.specs.List.{list_any}
use Rattle.broker_book.specs.Books.{Book, is_named}
use Rattle.broker_queues.specs.Parts.Held.{holding_of}
use Rattle.broker_queues.proofs.Asking.{asks_name}
use Rattle.broker_queues.proofs.queues.Queues.has_named.Goals as goal

pub returns : goal.returns
returns g c =
    c.is_some.ensures ∙ ap is_some c.named.ensures
    ∙ asks_name (holding_of c.self.inside.parts) c.self.invariant.sound c.args.session c.args.id.now
    ∙ ap (λ (b : Book). list_any (is_named c.args.session c.args.id.now) b.subscriptions) c.self.view_is

use Rattle.std.proofs.Common.{◌∙◌, ap}
use Rattle.std.specs.List.{list_any}
use Rattle.broker_book.specs.Books.{Book, out_of}
use Rattle.broker_queues.specs.Parts.Held.{holding_of}
use Rattle.broker_queues.proofs.Waiting.{asks_unanswered}
use Rattle.broker_queues.proofs.queues.Queues.has_unanswered.Goals as goal

pub returns : goal.returns
returns g c =
    c.has_unanswered.ensures
    ∙ asks_unanswered (holding_of c.self.inside.parts) c.self.invariant.sound c.args.session
    ∙ ap (λ (b : Book). list_any (λ m. out_of c.args.session m.fate) b.living) c.self.view_is

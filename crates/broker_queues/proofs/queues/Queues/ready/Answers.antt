use Rattle.std.proofs.Common.{◌%◌, ◌^◌, ◌∙◌, ap}
use Rattle.std.specs.Prelude.{count_by}
use Rattle.broker_book.specs.Books.{Book, is_ready}
use Rattle.broker_queues.specs.Parts.Held.{holding_of}
use Rattle.broker_queues.proofs.Tallying.{ready_living}
use Rattle.broker_queues.proofs.queues.Queues.ready.Goals as goal

pub returns : goal.returns
returns g c =
    ready_living (holding_of c.self.inside.parts) c.self.invariant.sound c.self.invariant.none_gone c.len.result
    c.unanswered.result c.len.ensures c.unanswered.ensures
    ∙ ap (λ (b : Book). count_by is_ready b.living % 2 ^ 64) c.self.view_is

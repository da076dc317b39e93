use Rattle.std.proofs.Common.{◌%◌, ◌^◌, ℕ, not, ◌∙◌, ap}
use Rattle.std.specs.Prelude.{count_by}
use Rattle.broker_book.specs.Books.{Book, is_ready}
use Rattle.broker_queues.proofs.Tallying.{out_living}
use Rattle.broker_queues.proofs.queues.Queues.unanswered.Goals as goal

pub returns : goal.returns
returns g c =
    c.unanswered.ensures
    ∙ ap (λ (n : ℕ). n % 2 ^ 64) (out_living c.self.inside.parts.messages)
    ∙ ap (λ (b : Book). count_by (λ m. not (is_ready m)) b.living % 2 ^ 64) c.self.view_is

use Rattle.std.proofs.Common.{◌%◌, ◌^◌, ℕ, ◌∙◌, ap}
use Rattle.broker_book.specs.Books.{Book}
use Rattle.broker_book.specs.Sizes.{held_octets}
use Rattle.broker_queues.specs.Parts.Held.{holding_of}
use Rattle.broker_queues.proofs.Waiting.{counts_held}
use Rattle.broker_queues.proofs.queues.Queues.octets.Goals as goal

pub returns : goal.returns
returns g c =
    c.octets.ensures
    ∙ ap (λ (n : ℕ). n % 2 ^ 64) (counts_held (holding_of c.self.inside.parts) c.self.invariant.sound
    c.self.invariant.none_gone)
    ∙ ap (λ (b : Book). held_octets b.living % 2 ^ 64) c.self.view_is

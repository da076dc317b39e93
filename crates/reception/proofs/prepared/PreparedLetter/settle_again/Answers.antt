use Rattle.std.proofs.Common.{◌+◌, subst, sym}
use Rattle.stomp_client.specs.Clients.{counting}
use Rattle.reception.specs.Replies.{settling, Writes}
use Rattle.reception.proofs.prepared.PreparedLetter.settle_again.Goals as goal

pub returns-clause-answers : goal.returns-clause-answers
returns-clause-answers c = λ kind.
    let p = c.args.self.now in (
      p.letter,
      c.requires.carries,
      subst (λ m. Writes (settling p.message (c.args.client.now.client.transactions + 1) p.letter.pair m)
          (counting c.args.client.now.client) c.settle_up_to.new.client.client) (sym c.get.ensures.value) c.in_ok-settle_up_to.ensures.ok,
    )

use Rattle.std.proofs.Common.{◌+◌, refl}
use Rattle.stomp_frame.specs.declared.command.Command.TheVariants.{Ack}
use Rattle.stomp_client.specs.Clients.{counting}
use Rattle.reception.specs.Replies.{answer, settling}
use Rattle.reception.proofs.Spelling.{whole_at, writes_at}
use Rattle.reception.proofs.prepared.PreparedLetter.answer.Goals as goal

pub write_transaction-requires-clause-text : goal.write_transaction-requires-clause-text
write_transaction-requires-clause-text c =
    let p = c.args.self.now in
    whole_at (settling p.message (c.args.client.now.client.transactions + 1) p.letter.pair p.letter.number)
    p.replies.settling.items c.deref.result.now c.deref.ensures.value c.requires.replies.text

pub returns-in-Ok-Handled-clause-answers : goal.returns-in-Ok-Handled-clause-answers
returns-in-Ok-Handled-clause-answers c = λ kind.
    let p = c.args.self.now in (
      p.letter,
      c.requires.carries,
      writes_at (settling p.message (c.args.client.now.client.transactions + 1) p.letter.pair p.letter.number)
          p.replies.settling.items c.deref.result.now (counting c.args.client.now.client)
          (counting c.args.client.now.client)
          c.write_transaction.new.client.client c.deref.ensures.value c.requires.replies.text refl
          c.write_transaction.ensures,
    )

pub write-requires-clause-text : goal.write-requires-clause-text
write-requires-clause-text c =
    let p = c.args.self.now in
    whole_at (answer Ack p.message) p.replies.answers.ack.items c.deref-in-Ok-Held.result.now
    c.deref-in-Ok-Held.ensures.value
    c.requires.replies.answers.ack

pub returns-in-Ok-Held-clause-answers : goal.returns-in-Ok-Held-clause-answers
returns-in-Ok-Held-clause-answers c = λ kind.
    let p = c.args.self.now in (
      p.letter,
      c.requires.carries,
      writes_at (answer Ack p.message) p.replies.answers.ack.items c.deref-in-Ok-Held.result.now
          c.args.client.now.client
          c.args.client.now.client c.write.new.client.client c.deref-in-Ok-Held.ensures.value
          c.requires.replies.answers.ack refl
          c.write.ensures,
    )

use Rattle.std.proofs.Common.{refl}
use Rattle.stomp_frame.specs.declared.command.Command.TheVariants.{Ack}
use Rattle.reception.specs.Replies.{answer}
use Rattle.reception.proofs.Spelling.{whole_at, writes_at}
use Rattle.reception.proofs.prepared.PreparedSettle.finish.Goals as goal

pub write-requires-clause-text : goal.write-requires-clause-text
write-requires-clause-text c =
    whole_at (answer Ack c.args.self.message) c.args.self.answers.ack.items c.deref.result.now c.deref.ensures.value
    c.requires.answers.ack

pub returns-in-Ok-clause-answers : goal.returns-in-Ok-clause-answers
returns-in-Ok-clause-answers c = λ kind. (
  c.args.self.pair,
  c.args.self.number,
  c.requires.carries,
  writes_at (answer Ack c.args.self.message) c.args.self.answers.ack.items c.deref.result.now c.args.client.now.client
      c.args.client.now.client c.write.new.client.client c.deref.ensures.value c.requires.answers.ack refl
      c.write.ensures,
)

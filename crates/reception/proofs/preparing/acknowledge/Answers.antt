use Rattle.stomp_frame.specs.declared.command.Command.TheVariants.{Ack}
use Rattle.reception.specs.Replies.{answer}
use Rattle.reception.proofs.Spelling.{whole_at, writes_at}
use Rattle.reception.proofs.preparing.acknowledge.Goals as goal

pub write-requires-clause-text : goal.write-requires-clause-text
write-requires-clause-text c =
    whole_at (answer Ack c.args.message.now) c.in_ok-ack.ack.items c.deref.result.now c.deref.ensures.value
    c.in_ok-ack.ensures

pub returns-clause-ok : goal.returns-clause-ok
returns-clause-ok c =
    writes_at (answer Ack c.args.message.now) c.in_ok-ack.ack.items c.deref.result.now c.args.client.now.client
    c.room.new.self.client c.write.new.client.client c.deref.ensures.value c.in_ok-ack.ensures c.room.ensures.same
    c.write.ensures

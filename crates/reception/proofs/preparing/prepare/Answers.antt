use Rattle.reception.proofs.Accepted.{message_after, prepares_at}
use Rattle.reception.proofs.preparing.prepare.Goals as goal

pub returns-in-Ok-Message : goal.returns-in-Ok-Message
returns-in-Ok-Message c =
    let after = message_after c.args.frame c.args.client.now.client c.accept.new.self.client c.in-Ok-Message.message
    c.in-Ok-Message.field-0 c.in-Ok-Message.field-0-is c.in-Ok-Message.ensures.accepts in
    prepares_at c.args.kind c.args.frame c.in-Ok-Message.message c.args.client.now c.accept.new.self
    c.prepare_message.new.client
    c.prepare_message.result after.0 after.1 (c.prepare_message.ensures c.args.kind)

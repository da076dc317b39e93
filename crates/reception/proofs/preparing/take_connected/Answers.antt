use Rattle.std.proofs.Common.{[], ◌∷◌, ap, ◌∙◌}
use Rattle.base.specs.Entity.{queue_of}
use Rattle.stomp_client.specs.Clients.{connected}
use Rattle.stomp_client.specs.Frames.{subscribe_frame}
use Rattle.reception.proofs.Accepted.{connected_after}
use Rattle.reception.proofs.Spelling.{whole_at, writes_at}
use Rattle.reception.proofs.preparing.take_connected.Goals as goal

pub write-requires-clause-text : goal.write-requires-clause-text
write-requires-clause-text c =
    whole_at (subscribe_frame (queue_of c.args.kind) ∷ []) c.in-Ok.text.items c.deref.result.now c.deref.ensures.value
    c.in-Ok.ensures.text

pub returns-clause-answers : goal.returns-clause-answers
returns-clause-answers c = (
  c.requires.command,
  c.requires.stage,
  writes_at (subscribe_frame (queue_of c.args.kind) ∷ []) c.in-Ok.text.items c.deref.result.now
      (connected c.args.client.now.client) c.accept.new.self.client c.write.new.client.client c.deref.ensures.value
      c.in-Ok.ensures.text
      (connected_after c.args.frame c.make_subscribe.new.client.client c.accept.new.self.client
      c.in-Ok-Connected.field-0
      c.in-Ok-Connected.field-0-is c.in-Ok-Connected.ensures.accepts
      ∙ ap connected c.make_subscribe.ensures.same) c.write.ensures,
)

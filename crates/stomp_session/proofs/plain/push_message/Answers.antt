use Rattle.stomp_session.specs.Replies.{Delivered}
use Rattle.stomp_session.proofs.AsTheyAre.{message_is}
use Rattle.stomp_session.proofs.plain.push_message.Goals as goal

pub returns-clause-ok : goal.returns-clause-ok
returns-clause-ok c =
    let it = c.delivery.inside in
    let told : Delivered = record {
      destination = it.destination.now;
      number = it.number;
      subscription = it.subscription.now;
      ack = it.ack;
      headers = it.headers.now;
      body = it.body.now;
    } in
    rw (
      ← c.delivery.view_is,
      c.in_ok-push-2.ensures.items,
      c.in_ok-extend_from_slice.ensures.items,
      c.in_ok-push.ensures.items,
      c.in_ok-push_lines.ensures.ok,
      rw (← c.delivery.view_is) at c.in_ok-push_head.ensures.ok,
      c.reserve.ensures.items,
    ) (message_is c.args.out.now.items told)

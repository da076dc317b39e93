use Rattle.std.proofs.Common.{◌≡◌, true, rules}
use Rattle.stomp_session.specs.Replies.{Delivered}
use Rattle.stomp_session.specs.Parts.Plain.{is_plain_message}
use Rattle.stomp_session.proofs.AsTheyAre.{head_is}
use Rattle.stomp_session.proofs.plain.push_head.Goals as goal

pub returns-clause-ok : goal.returns-clause-ok
returns-clause-ok c =
    let it = c.delivery.inside in
    let told : Delivered = record {
      destination = it.destination.now;
      number = it.number;
      subscription = it.subscription.now;
      ack = it.ack;
      headers = it.headers.now;
      body = it.body.now;
    } in
    let plain : is_plain_message told ≡ true = rw (← c.delivery.view_is) at c.requires in
    rw (
      ← c.delivery.view_is,
      c.in_ok-push.ensures.items,
      c.in_ok-push_ack.ensures.ok,
      c.in_ok-push_both-4.ensures.ok,
      c.in_ok-push_both-3.ensures.ok,
      c.format-2.ensures.text,
      c.in_ok-push_both-2.ensures.ok,
      c.in_ok-push_both.ensures.ok,
      c.format.ensures.text,
    ) (head_is c.args.out.now.items told plain (search rules) (search rules) (search rules))

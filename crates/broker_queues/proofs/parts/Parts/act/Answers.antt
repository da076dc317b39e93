use Rattle.std.proofs.Common.{refl}
use Rattle.broker_queues.proofs.Acting.{grows_none}
use Rattle.broker_queues.proofs.parts.Parts.act.Goals as goal

pub returns-in-Ack : goal.returns-in-Ack
returns-in-Ack c =
    let now = c.answer_noted.ensures.1 c.args.accepted.now.items c.requires in
    rw c.in-Ack.is (record {
      sound = now.0;
      begun = c.answer_noted.ensures.0;
      goes = now.1;
      grows = grows_none c.args.accepted.now.items c.args.accepted.now.items refl;
    })

pub returns-in-Nack : goal.returns-in-Nack
returns-in-Nack c =
    let now = c.answer_noted-in-Nack.ensures.1 c.args.accepted.now.items c.requires in
    rw c.in-Nack.is (record {
      sound = now.0;
      begun = c.answer_noted-in-Nack.ensures.0;
      goes = now.1;
      grows = grows_none c.args.accepted.now.items c.args.accepted.now.items refl;
    })

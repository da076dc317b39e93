use Rattle.std.proofs.Common.{◌≡◌, ◌∙◌, None, Some, refl}
use Rattle.broker_index.specs.Index.{queue_at}
use Rattle.broker_queues.specs.Parts.Held.{holding_of}
use Rattle.broker_queues.specs.Parts.Queues.{CountsFewer}
use Rattle.broker_queues.proofs.Delivering.{handed_auto, auto_dealt}
use Rattle.broker_queues.proofs.Swept.{none_handed}
use Rattle.broker_queues.proofs.parts.Parts.hand_auto.Goals as goal

pub returns-clause-hands : goal.returns-clause-hands
returns-clause-hands g c accepted k s is p auto =
    let found : Some c.in-Some.stored.now ≡ Some k = c.in-Some.ensures ∙ p.there in
    let sits : Some c.in-Some-get.subscriber.now ≡ Some s = c.in-Some-get.ensures ∙ p.sits in
    let one : c.in-Some.stored.now ≡ k = cc in
    let two : c.in-Some-get.subscriber.now ≡ s = cc in
    let sent : c.get-sent.result.now ≡ k.sent = cc in
    let to : c.subscription.result.now ≡ s.subscription = cc in
    let fewer : CountsFewer (queue_at c.args.self.now.destinations) (queue_at c.count_fewer.new.destinations)
    k.sent.destination =
    rw sent at c.count_fewer.ensures in
    let dealt =
    auto_dealt (holding_of c.args.self.now) is c.args.message.number c.args.to.number k s p c.get-sent.result.now
    c.subscription.result.now sent to accepted _ (holding_of c.purge.new.self) auto
    (handed_auto (holding_of c.args.self.now) is c.args.message.number k p.there p.ready _ None refl fewer c.set.ensures
    refl refl refl refl
    refl) refl c.purge.ensures.sweeps in
    (dealt.0, (_, dealt.1, c.in_ok-deliver.ensures.ok))

pub returns-clause-whole : goal.returns-clause-whole
returns-clause-whole g c k s is p =
    let found : Some c.in-Some.stored.now ≡ Some k = c.in-Some.ensures ∙ p.there in
    let one : c.in-Some.stored.now ≡ k = cc in
    let sent : c.get-sent.result.now ≡ k.sent = cc in
    let fewer : CountsFewer (queue_at c.args.self.now.destinations) (queue_at c.count_fewer.new.destinations)
    k.sent.destination =
    rw sent at c.count_fewer.ensures in
    none_handed (holding_of c.args.self.now) _ (holding_of c.purge.new.self) is c.args.message.number c.args.to.number k
    s p
    (handed_auto (holding_of c.args.self.now) is c.args.message.number k p.there p.ready _ None refl fewer c.set.ensures
    refl refl refl refl
    refl) c.purge.ensures.rest

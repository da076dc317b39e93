use Rattle.std.proofs.Common.{◌≡◌, ◌∙◌, ◌-◌, Some, refl}
use Rattle.broker_index.specs.Index.{queue_at}
use Rattle.broker_index.specs.Standing.{fate_of}
use Rattle.broker_queues.specs.Parts.Held.{holding_of}
use Rattle.broker_queues.specs.Parts.Queues.{awake_in}
use Rattle.broker_queues.proofs.Returning.{taken_back_in}
use Rattle.broker_queues.proofs.parts.Parts.take_back.Goals as goal

pub returns-clause-change : goal.returns-clause-change
returns-clause-change c k s is found sits on =
    let found2 : Some c.in-Some.stored.now ≡ Some k = c.in-Some.ensures ∙ found in
    let sits2 : Some c.in-Some-get.subscriber.now ≡ Some s = c.in-Some-get.ensures ∙ sits in
    let one : c.in-Some.stored.now ≡ k = cc in
    let two : c.in-Some-get.subscriber.now ≡ s = cc in
    let name : c.get-2.result.now.destination ≡ k.sent.destination = cc in
    let there : c.get-4.result.now ≡ s.subscription.destination = cc in
    let count : c.saturating_sub-count.result ≡ s.count - 1 = cc in
    taken_back_in (holding_of c.args.self.now) _ c.args.number c.args.age c.saturating_sub-count.result c.args.again
    (fate_of c.standing_back.result) k s c.get-2.result.now.destination c.get-4.result.now
    (queue_at c.mark.new.destinations) (awake_in c.mark.new.active.all c.mark.new.active.names.items)
    is found sits on name there count c.standing_back.ensures c.mark.ensures c.credit.ensures c.set.ensures
    c.set_count.ensures
    refl refl refl

use Rattle.std.proofs.Common.{◌≡◌, ◌∙◌, ◌-◌, Some, map, refl}
use Rattle.std.specs.Option.{option_and_then}
use Rattle.broker_index.specs.Index.{Sets, queue_at, taken_counted, with_count, without_entries}
use Rattle.broker_queues.specs.Parts.Held.{holding_of}
use Rattle.broker_queues.specs.Parts.Queues.{Credits, awake_in}
use Rattle.broker_queues.proofs.Settling.{settled}
use Rattle.broker_queues.proofs.parts.Parts.settle.Goals as goal

pub returns : goal.returns
returns c k s is found sits on =
    let found2 : Some c.in-Some.stored.now ≡ Some k = c.in-Some.ensures ∙ found in
    let sits2 : Some c.in-Some-get.subscriber.now ≡ Some s = c.in-Some-get.ensures ∙ sits in
    let one : c.in-Some.stored.now ≡ k = cc in
    let two : c.in-Some-get.subscriber.now ≡ s = cc in
    let there : c.get-3.result.now ≡ s.subscription.destination = cc in
    let name : c.get-4.result.now.destination ≡ k.sent.destination = cc in
    let count : c.saturating_sub-count.result ≡ s.count - 1 = cc in
    let credits : Credits s.subscription.destination c.args.holder.now.number
    (queue_at c.args.self.now.destinations) (queue_at c.credit.new.destinations)
    (awake_in c.args.self.now.active.all c.args.self.now.active.names.items)
    (awake_in c.credit.new.active.all c.credit.new.active.names.items) = rw there at c.credit.ensures in
    let sets : Sets (queue_at c.credit.new.destinations) (queue_at c.take_counted.new.self) k.sent.destination
    (option_and_then (taken_counted c.args.entry.now.number) (queue_at c.credit.new.destinations k.sent.destination)) =
    rw name at c.take_counted.ensures in
    let subs : c.forget.new.self ≡ map (without_entries c.args.holder.now.number c.args.entry.now.number)
    (map (with_count c.args.holder.now.number (s.count - 1)) c.args.self.now.subscribers) =
    rw (← count, ← c.set_count.ensures) c.forget.ensures in
    settled (holding_of c.args.self.now) _ is c.args.holder.now.number c.args.entry.now.number k s
    (queue_at c.credit.new.destinations) found sits on credits sets c.remove.ensures subs refl refl refl

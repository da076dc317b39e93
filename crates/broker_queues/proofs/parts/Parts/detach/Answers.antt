use Rattle.std.proofs.Common.{◌≡◌, ◌∙◌, Some, refl}
use Rattle.broker_index.specs.Index.{places_at, queue_at}
use Rattle.broker_queues.specs.Parts.Held.{holding_of}
use Rattle.broker_queues.specs.Parts.Whole.{Holding}
use Rattle.broker_queues.proofs.Leaving.{detached}
use Rattle.broker_queues.proofs.parts.Parts.detach.Goals as goal

pub returns : goal.returns
returns c s is sits quiet =
    let both : Some c.in-Some.subscriber.now ≡ Some s = c.in-Some.ensures ∙ sits in
    let one : c.in-Some.subscriber.now ≡ s = cc in
    let name : c.get-name.result.now ≡ s.subscription.destination = cc in
    let session : c.subscription-subscription.result.now.session ≡ s.subscription.session = cc in
    let h = holding_of c.args.self.now in
    let i : Holding = record h {
      subscribers = c.remove.new.self;
      queues = queue_at c.close.new.self;
      sessions = places_at c.remove_place.new.self;
    } in
    let p = rw name at c.remove_subscriber.ensures in
    let r = rw name at c.close.ensures in
    let o = rw session at c.remove_place.ensures in
    detached h i is c.args.age s (queue_at c.remove_subscriber.new.self) sits quiet p r o refl c.remove.ensures refl
    refl refl

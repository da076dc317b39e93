use Rattle.std.proofs.Common.{refl}
use Rattle.broker_index.specs.Index.{queue_at}
use Rattle.broker_queues.proofs.Attaching.{detaches_again}
use Rattle.broker_queues.proofs.parts.Parts.attach.Goals as goal

pub returns-in-Ok : goal.returns-in-Ok
returns-in-Ok c = record {
  between = queue_at c.add_subscriber.new.destinations;
  becomes = c.in_ok-add_subscriber.ensures.ok;
  frees = c.free.ensures;
  sessions = c.in-Ok.ensures.ok;
  rest = refl;
}

pub returns-in-Err : goal.returns-in-Err
returns-in-Err c = (
  detaches_again (queue_at c.args.self.now.destinations) (queue_at c.add_subscriber.new.destinations)
      (queue_at c.remove_subscriber.new.self) (queue_at c.close.new.self) c.args.name.now c.args.place c.requires
      c.in_ok-add_subscriber.ensures.ok c.remove_subscriber.ensures c.close.ensures,
  rw c.in-Err.ensures.err refl,
)

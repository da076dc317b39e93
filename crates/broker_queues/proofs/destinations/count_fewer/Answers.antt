use Rattle.broker_index.specs.Index.{queue_at}
use Rattle.broker_queues.proofs.Setting.{lowers_count}
use Rattle.broker_queues.proofs.destinations.count_fewer.Goals as goal

pub returns : goal.returns
returns c =
    lowers_count (queue_at c.args.destinations.now) (queue_at c.lower_count.new.self) c.args.name.now
    c.lower_count.ensures

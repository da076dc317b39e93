use Rattle.std.proofs.Common.{arith}
use Rattle.broker_index.specs.Index.{queue_at}
use Rattle.broker_queues.proofs.Setting.{takes_from}
use Rattle.broker_queues.proofs.destinations.take_from.Goals as goal

pub returns-then-age-taker_from : goal.returns-then-age-taker_from
returns-then-age-taker_from c =
    takes_from (queue_at c.args.destinations.now) (queue_at c.set_taker_from.new.self) c.args.name.now c.args.age
    (omega arith) c.set_taker_from.ensures

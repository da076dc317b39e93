use Rattle.std.proofs.Common.{arith}
use Rattle.broker_index.specs.Index.{queue_at}
use Rattle.broker_queues.proofs.Setting.{looks_from}
use Rattle.broker_queues.proofs.destinations.look_from.Goals as goal

pub returns-then-number-ready_from : goal.returns-then-number-ready_from
returns-then-number-ready_from c =
    looks_from (queue_at c.args.destinations.now) (queue_at c.set_ready_from.new.self) c.args.name.now c.args.number
    (omega arith) c.set_ready_from.ensures

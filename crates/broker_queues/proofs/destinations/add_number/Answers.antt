use Rattle.broker_index.specs.Index.{queue_at}
use Rattle.broker_queues.proofs.Adding.{closes_again, number_added}
use Rattle.broker_queues.proofs.destinations.add_number.Goals as goal

pub returns-in-Err-clause-err : goal.returns-in-Err-clause-err
returns-in-Err-clause-err c =
    closes_again (queue_at c.args.destinations.now) (queue_at c.push_counted.new.self) (queue_at c.close.new.self)
    c.args.name.now
    (rw (← c.in-Err.ensures.err) at c.in_ok-open_told.ensures.ok) c.close.ensures

pub returns-in-Ok-clause-ok : goal.returns-in-Ok-clause-ok
returns-in-Ok-clause-ok c =
    number_added (queue_at c.args.destinations.now) (queue_at c.open_told.new.destinations) (queue_at c.push_counted.new.self)
    c.args.name.now c.args.place c.in_ok-open_told.ensures.ok c.in-Ok.ensures.ok

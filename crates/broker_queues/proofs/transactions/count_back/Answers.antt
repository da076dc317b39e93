use Rattle.broker_index.specs.Index.{queue_at}
use Rattle.broker_queues.proofs.Restoring.{counts_more}
use Rattle.broker_queues.proofs.transactions.count_back.Goals as goal

pub returns-in-Gone : goal.returns-in-Gone
returns-in-Gone c =
    rw c.in-Gone.is (counts_more (queue_at c.args.destinations.now) (queue_at c.set_count.new.self) c.args.name.now
    c.args.most
    c.one_more-count.result (λ short. rw (← c.count.ensures) (c.one_more-count.ensures (rw c.count.ensures short)))
    c.set_count.ensures)

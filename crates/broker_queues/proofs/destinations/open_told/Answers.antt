use Rattle.std.proofs.Common.{sym, ◌∙◌}
use Rattle.broker_index.specs.Index.{queue_at}
use Rattle.broker_queues.proofs.Adding.{told_open}
use Rattle.broker_queues.proofs.destinations.open_told.Goals as goal

pub returns-then-is_some-clause-ok : goal.returns-then-is_some-clause-ok
returns-then-is_some-clause-ok c =
    told_open (queue_at c.args.destinations.now) c.args.name.now c.args.told c.requires
    (sym c.is_some.ensures ∙ c.if-is_some.true)

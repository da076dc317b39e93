use Rattle.std.proofs.Common.{sym}
use Rattle.broker_core.specs.Performing.{reach}
use Rattle.broker_core.proofs.Committing.{committed}
use Rattle.broker_core.proofs.perform.commit.Goals as goal

pub returns-in-Ok : goal.returns-in-Ok
returns-in-Ok g c =
    rw c.lift_transaction.ensures
    (committed g.row.FULL c.args.session (reach c.args.queues.now c.args.transactions.now) c.args.name.now
    c.in-Some.actions.now
    c.apply.new.self c.commit.new.self
    c.commit.result (sym c.in-Some.ensures) c.in-Ok.ensures c.commit.ensures)

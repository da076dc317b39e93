use Rattle.broker_core.proofs.perform.perform.Goals as goal

pub returns-in-Shared : goal.returns-in-Shared
returns-in-Shared g c = rw c.in-Shared.is (c.put.ensures c.args.session)

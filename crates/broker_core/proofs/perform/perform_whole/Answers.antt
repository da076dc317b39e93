use Rattle.broker_core.proofs.perform.perform_whole.Goals as goal

pub returns-in-Subscribe : goal.returns-in-Subscribe
returns-in-Subscribe g c = rw c.in-Subscribe.is (c.subscribe.ensures c.args.transactions.now)

pub returns-in-Unsubscribe : goal.returns-in-Unsubscribe
returns-in-Unsubscribe g c = rw c.in-Unsubscribe.is (c.unsubscribe.ensures c.args.transactions.now)

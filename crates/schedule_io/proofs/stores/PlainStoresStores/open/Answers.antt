use Rattle.schedule_io.proofs.InMemory.{opened_empty}
use Rattle.schedule_io.proofs.stores.PlainStoresStores.open.Goals as goal

pub returns-clause-opened : goal.returns-clause-opened
returns-clause-opened c =
    opened_empty c.new.result c.new-2.result c.new-3.result c.new.ensures c.new-2.ensures c.new-3.ensures

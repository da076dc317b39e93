use Rattle.base.specs.Order.{entity_cmp}
use Rattle.base.proofs.Leads.{then_decided}
use Rattle.base.proofs.pair.PairOrd.cmp.Goals as goal

-- the senders differ
pub returns-in_default : goal.returns-in_default
returns-in_default c =
    then_decided c.cmp.result (entity_cmp c.args.self.now.from c.args.other.now.from)
    (entity_cmp c.args.self.now.to c.args.other.now.to)
    c.cmp.ensures c.in_default.not-Equal

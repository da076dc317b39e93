use Rattle.schedule_runner.specs.Events.{asked_of}
use Rattle.schedule_runner.proofs.Lifting.{lift_purchasing, lift_warehouse, lift_billing}
use Rattle.schedule_runner.proofs.world.World.at.Goals as goal

pub returns-in-Purchasing : goal.returns-in-Purchasing
returns-in-Purchasing g c = rw c.in-Purchasing.is
    (lift_purchasing g.KO.Keep.seen g.KS.Keep.seen g.KA.Keep.seen c.args.self.now c.act.new.mail
    g.met.KO.Keep.sound (asked_of c.args.event)
    c.act.result
    c.act.new.site c.act.ensures.doubt c.act.ensures.matches c.act.ensures.comes c.act.ensures.did)

pub returns-in-Warehouse : goal.returns-in-Warehouse
returns-in-Warehouse g c = rw c.in-Warehouse.is
    (lift_warehouse g.KO.Keep.seen g.KS.Keep.seen g.KA.Keep.seen c.args.self.now c.act-in-Warehouse.new.mail
    g.met.KS.Keep.sound (asked_of c.args.event)
    c.act-in-Warehouse.result
    c.act-in-Warehouse.new.site c.act-in-Warehouse.ensures.doubt c.act-in-Warehouse.ensures.matches
    c.act-in-Warehouse.ensures.comes
    c.act-in-Warehouse.ensures.did)

pub returns-in-Billing : goal.returns-in-Billing
returns-in-Billing g c = rw c.in-Billing.is
    (lift_billing g.KO.Keep.seen g.KS.Keep.seen g.KA.Keep.seen c.args.self.now c.act-in-Billing.new.mail
    g.met.KA.Keep.sound (asked_of c.args.event)
    c.act-in-Billing.result
    c.act-in-Billing.new.site c.act-in-Billing.ensures.doubt c.act-in-Billing.ensures.matches
    c.act-in-Billing.ensures.comes
    c.act-in-Billing.ensures.did)

use Rattle.std.proofs.Common.{Ok, Err}
use Rattle.schedule_runner.proofs.Asking.{passes_found, agrees_where_good, found_purchasing, found_warehouse}
use Rattle.schedule_runner.proofs.Asking.{found_billing}
use Rattle.schedule_runner.proofs.world.World.agreement.Goals as goal

pub returns-in-Ok-clause-passes : goal.returns-in-Ok-clause-passes
returns-in-Ok-clause-passes g c =
    passes_found g.KO.Keep.seen g.KS.Keep.seen g.KA.Keep.seen g.met.KO.Keep.sound g.met.KS.Keep.sound
    g.met.KA.Keep.sound
    (Ok c.in-Ok.agree) c.args.self.now c.ask_all.new.self c.in-Ok.ensures

pub returns-in-Ok-clause-agrees : goal.returns-in-Ok-clause-agrees
returns-in-Ok-clause-agrees g c =
    agrees_where_good g.KO.Keep.seen g.KS.Keep.seen g.KA.Keep.seen g.met.KO.Keep.sound g.met.KS.Keep.sound
    g.met.KA.Keep.sound (Ok c.in-Ok.agree) c.args.self.now c.ask_all.new.self c.in-Ok.ensures

pub returns-in-Err-Purchasing-clause-passes : goal.returns-in-Err-Purchasing-clause-passes
returns-in-Err-Purchasing-clause-passes g c =
    let asked = rw c.in-Err-Purchasing.field-0-is at c.in-Err-Purchasing.ensures in
    passes_found g.KO.Keep.seen g.KS.Keep.seen g.KA.Keep.seen g.met.KO.Keep.sound g.met.KS.Keep.sound
    g.met.KA.Keep.sound (Err c.in-Err-Purchasing.fault) c.args.self.now _
    (found_purchasing g.KO.Keep.seen g.KS.Keep.seen g.KA.Keep.seen g.met.KO.Keep.sound g.met.KS.Keep.sound
    g.met.KA.Keep.sound
    c.in-Err-Purchasing.fault c.args.self.now c.ask_all.new.self c.after.new.self c.after.new.mail asked
    c.after.ensures.after c.after.ensures.store)

pub returns-in-Err-Warehouse-clause-passes : goal.returns-in-Err-Warehouse-clause-passes
returns-in-Err-Warehouse-clause-passes g c =
    let asked = rw c.in-Err-Warehouse.field-0-is at c.in-Err-Warehouse.ensures in
    passes_found g.KO.Keep.seen g.KS.Keep.seen g.KA.Keep.seen g.met.KO.Keep.sound g.met.KS.Keep.sound
    g.met.KA.Keep.sound (Err c.in-Err-Warehouse.fault) c.args.self.now _
    (found_warehouse g.KO.Keep.seen g.KS.Keep.seen g.KA.Keep.seen g.met.KO.Keep.sound g.met.KS.Keep.sound
    g.met.KA.Keep.sound
    c.in-Err-Warehouse.fault c.args.self.now c.ask_all.new.self c.after-in-Err-Warehouse.new.self
    c.after-in-Err-Warehouse.new.mail
    asked c.after-in-Err-Warehouse.ensures.after c.after-in-Err-Warehouse.ensures.store)

pub returns-in-Err-Billing-clause-passes : goal.returns-in-Err-Billing-clause-passes
returns-in-Err-Billing-clause-passes g c =
    let asked = rw c.in-Err-Billing.field-0-is at c.in-Err-Billing.ensures in
    passes_found g.KO.Keep.seen g.KS.Keep.seen g.KA.Keep.seen g.met.KO.Keep.sound g.met.KS.Keep.sound
    g.met.KA.Keep.sound (Err c.in-Err-Billing.fault) c.args.self.now _
    (found_billing g.KO.Keep.seen g.KS.Keep.seen g.KA.Keep.seen g.met.KO.Keep.sound g.met.KS.Keep.sound
    g.met.KA.Keep.sound
    c.in-Err-Billing.fault c.args.self.now c.ask_all.new.self c.after-in-Err-Billing.new.self
    c.after-in-Err-Billing.new.mail
    asked c.after-in-Err-Billing.ensures.after c.after-in-Err-Billing.ensures.store)

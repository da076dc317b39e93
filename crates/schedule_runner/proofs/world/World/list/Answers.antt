use Rattle.std.proofs.Common.{refl}
use Rattle.schedule_text.specs.declared.event.ServiceName.TheVariants.{Purchasing, Warehouse, Billing}
use Rattle.schedule_runner.proofs.Reading.{lift_order_read, lift_stock_read, lift_account_read}
use Rattle.schedule_runner.specs.Shows.{ListOf}
use Rattle.schedule_runner.proofs.world.World.list.Goals as goal

pub returns-in-Purchasing : goal.returns-in-Purchasing
returns-in-Purchasing g c =
    rw c.in-Purchasing.is
    (lift_order_read g.KO.Keep.seen g.KS.Keep.seen g.KA.Keep.seen
    (ListOf g.KO.Keep.seen g.KS.Keep.seen g.KA.Keep.seen Purchasing c.args.listing c.look_at_list.result)
    c.args.self.now (record c.args.self.now { purchasing = c.look_at_list.new.site; mail = c.look_at_list.new.mail })
    c.look_at_list.ensures.store refl refl (c.look_at_list.ensures.did, refl, refl)
    c.look_at_list.ensures.did)

pub returns-in-Warehouse : goal.returns-in-Warehouse
returns-in-Warehouse g c =
    rw c.in-Warehouse.is
    (lift_stock_read g.KO.Keep.seen g.KS.Keep.seen g.KA.Keep.seen
    (ListOf g.KO.Keep.seen g.KS.Keep.seen g.KA.Keep.seen Warehouse c.args.listing c.look_at_list-in-Warehouse.result)
    c.args.self.now (record c.args.self.now {
      warehouse = c.look_at_list-in-Warehouse.new.site;
      mail =
          c.look_at_list-in-Warehouse.new.mail;
    })
    refl c.look_at_list-in-Warehouse.ensures.store refl (c.look_at_list-in-Warehouse.ensures.did, refl, refl)
    c.look_at_list-in-Warehouse.ensures.did)

pub returns-in-Billing : goal.returns-in-Billing
returns-in-Billing g c =
    rw c.in-Billing.is
    (lift_account_read g.KO.Keep.seen g.KS.Keep.seen g.KA.Keep.seen
    (ListOf g.KO.Keep.seen g.KS.Keep.seen g.KA.Keep.seen Billing c.args.listing c.look_at_list-in-Billing.result)
    c.args.self.now (record c.args.self.now {
      billing = c.look_at_list-in-Billing.new.site;
      mail = c.look_at_list-in-Billing.new.mail;
    })
    refl refl c.look_at_list-in-Billing.ensures.store (c.look_at_list-in-Billing.ensures.did, refl, refl)
    c.look_at_list-in-Billing.ensures.did)

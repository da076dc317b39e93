use Rattle.std.proofs.Common.{refl}
use Rattle.base.specs.declared.entity.Kind.TheVariants.{Order, Stock, Account}
use Rattle.schedule_runner.proofs.Reading.{lift_order_read, lift_stock_read, lift_account_read}
use Rattle.schedule_runner.specs.Shows.{MarkOf}
use Rattle.schedule_runner.proofs.world.World.mark.Goals as goal

pub returns-in-Order : goal.returns-in-Order
returns-in-Order g c =
    rw c.in-Order.is
    (lift_order_read g.KO.Keep.seen g.KS.Keep.seen g.KA.Keep.seen
    (MarkOf g.KO.Keep.seen g.KS.Keep.seen g.KA.Keep.seen Order c.args.mark c.args.pair.now c.look_at_mark.result)
    c.args.self.now (record c.args.self.now { purchasing = c.look_at_mark.new.site; mail = c.look_at_mark.new.mail })
    c.look_at_mark.ensures.store refl refl (c.look_at_mark.ensures.did, refl, refl)
    c.look_at_mark.ensures.did)

pub returns-in-Stock : goal.returns-in-Stock
returns-in-Stock g c =
    rw c.in-Stock.is
    (lift_stock_read g.KO.Keep.seen g.KS.Keep.seen g.KA.Keep.seen
    (MarkOf g.KO.Keep.seen g.KS.Keep.seen g.KA.Keep.seen Stock c.args.mark c.args.pair.now
    c.look_at_mark-in-Stock.result)
    c.args.self.now (record c.args.self.now {
      warehouse = c.look_at_mark-in-Stock.new.site;
      mail = c.look_at_mark-in-Stock.new.mail;
    })
    refl c.look_at_mark-in-Stock.ensures.store refl (c.look_at_mark-in-Stock.ensures.did, refl, refl)
    c.look_at_mark-in-Stock.ensures.did)

pub returns-in-Account : goal.returns-in-Account
returns-in-Account g c =
    rw c.in-Account.is
    (lift_account_read g.KO.Keep.seen g.KS.Keep.seen g.KA.Keep.seen
    (MarkOf g.KO.Keep.seen g.KS.Keep.seen g.KA.Keep.seen Account c.args.mark c.args.pair.now
    c.look_at_mark-in-Account.result)
    c.args.self.now (record c.args.self.now {
      billing = c.look_at_mark-in-Account.new.site;
      mail = c.look_at_mark-in-Account.new.mail;
    })
    refl refl c.look_at_mark-in-Account.ensures.store (c.look_at_mark-in-Account.ensures.did, refl, refl)
    c.look_at_mark-in-Account.ensures.did)

use Rattle.std.proofs.Common.{refl, sym, ◌∙◌}
use Rattle.base.specs.declared.entity.Kind.TheVariants.{Order, Stock, Account}
use Rattle.schedule_runner.proofs.Reading.{lift_order_read, lift_stock_read, lift_account_read, passes_row}
use Rattle.schedule_runner.specs.Shows.{RowOf}
use Rattle.schedule_runner.proofs.world.World.row.Goals as goal

pub returns-in-Order : goal.returns-in-Order
returns-in-Order g c =
    passes_row g.KO.Keep.seen g.KS.Keep.seen g.KA.Keep.seen Order c.args.entity.now.kind c.args.entity.now
    c.look_at_row.result c.args.self.now
    (record c.args.self.now { purchasing = c.look_at_row.new.site; mail = c.look_at_row.new.mail })
    (sym c.in-Order.is ∙ c.kind.ensures.kind)
    (lift_order_read g.KO.Keep.seen g.KS.Keep.seen g.KA.Keep.seen
    (RowOf g.KO.Keep.seen g.KS.Keep.seen g.KA.Keep.seen Order c.args.entity.now c.look_at_row.result)
    c.args.self.now (record c.args.self.now { purchasing = c.look_at_row.new.site; mail = c.look_at_row.new.mail })
    c.look_at_row.ensures.store refl refl (c.look_at_row.ensures.did, refl, refl)
    c.look_at_row.ensures.did)

pub returns-in-Stock : goal.returns-in-Stock
returns-in-Stock g c =
    passes_row g.KO.Keep.seen g.KS.Keep.seen g.KA.Keep.seen Stock c.args.entity.now.kind c.args.entity.now
    c.look_at_row-in-Stock.result c.args.self.now
    (record c.args.self.now { warehouse = c.look_at_row-in-Stock.new.site; mail = c.look_at_row-in-Stock.new.mail })
    (sym c.in-Stock.is ∙ c.kind.ensures.kind)
    (lift_stock_read g.KO.Keep.seen g.KS.Keep.seen g.KA.Keep.seen
    (RowOf g.KO.Keep.seen g.KS.Keep.seen g.KA.Keep.seen Stock c.args.entity.now c.look_at_row-in-Stock.result)
    c.args.self.now (record c.args.self.now {
      warehouse = c.look_at_row-in-Stock.new.site;
      mail = c.look_at_row-in-Stock.new.mail;
    })
    refl c.look_at_row-in-Stock.ensures.store refl (c.look_at_row-in-Stock.ensures.did, refl, refl)
    c.look_at_row-in-Stock.ensures.did)

pub returns-in-Account : goal.returns-in-Account
returns-in-Account g c =
    passes_row g.KO.Keep.seen g.KS.Keep.seen g.KA.Keep.seen Account c.args.entity.now.kind c.args.entity.now
    c.look_at_row-in-Account.result c.args.self.now
    (record c.args.self.now { billing = c.look_at_row-in-Account.new.site; mail = c.look_at_row-in-Account.new.mail })
    (sym c.in-Account.is ∙ c.kind.ensures.kind)
    (lift_account_read g.KO.Keep.seen g.KS.Keep.seen g.KA.Keep.seen
    (RowOf g.KO.Keep.seen g.KS.Keep.seen g.KA.Keep.seen Account c.args.entity.now c.look_at_row-in-Account.result)
    c.args.self.now (record c.args.self.now {
      billing = c.look_at_row-in-Account.new.site;
      mail = c.look_at_row-in-Account.new.mail;
    })
    refl refl c.look_at_row-in-Account.ensures.store (c.look_at_row-in-Account.ensures.did, refl, refl)
    c.look_at_row-in-Account.ensures.did)

use Rattle.std.proofs.Common.{rules}
use Rattle.schedule_audit.proofs.Finding.{row_looked}
use Rattle.schedule_audit.proofs.auditing.row_agrees.Goals as goal

pub returns : goal.returns
returns g c =
    row_looked g.KO.Keep.seen g.KS.Keep.seen g.KA.Keep.seen c.args.purchasing.now c.order_agrees.new.purchasing
    c.args.warehouse.now c.order_agrees.new.warehouse c.args.billing.now c.order_agrees.new.billing c.args.row.now
    c.order_agrees.result (search rules) c.order_agrees.ensures

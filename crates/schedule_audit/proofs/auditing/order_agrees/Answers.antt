use Rattle.schedule_audit.proofs.Finding.{order_looked}
use Rattle.schedule_audit.proofs.auditing.order_agrees.Goals as goal

pub returns-in-Ok-Some-Some : goal.returns-in-Ok-Some-Some
returns-in-Ok-Some-Some g c =
    order_looked g.KO.Keep.seen g.KS.Keep.seen g.KA.Keep.seen c.args.purchasing.now c.order_row.new.purchasing
    c.args.warehouse.now c.lines_agree.new.warehouse c.args.billing.now c.lines_agree.new.billing c.args.order.now
    c.in-Ok-Some-Some.placed c.lines_agree.result
    (rw (c.in-Ok-Some-Some.field-0-is, c.in-Ok-Some-Some.field-0-0-is) at c.in-Ok-Some-Some.ensures)
    c.lines_agree.ensures

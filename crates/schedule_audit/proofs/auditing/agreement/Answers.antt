use Rattle.std.proofs.Common.{◌-◌, ◌^◌, ◌∙◌, arith, inr}
use Rattle.schedule_audit.proofs.Going.{few_rows, of_journal}
use Rattle.schedule_audit.proofs.auditing.agreement.Goals as goal

pub returns-in-Ok : goal.returns-in-Ok
returns-in-Ok g c =
    let h = c.in-Ok.ensures.read in
    let small = c.in-Ok.rows.small in
    let ok = c.in-Ok.rows.ok in
    of_journal g.KO.Keep.seen g.KS.Keep.seen g.KA.Keep.seen c.as_slice.result.now c.rows_agree.result
    c.args.purchasing.now
    c.journal.new.self c.rows_agree.new.purchasing c.args.warehouse.now c.rows_agree.new.warehouse c.args.billing.now
    c.rows_agree.new.billing (inr (record { call = h.call; doubt = h.doubt; clean = λ clean. (tt, (h.clean clean).1) }))
    h.call.0
    (λ clean. c.as_slice.ensures.value
    ∙ few_rows c.in-Ok.rows.items (g.KO.Keep.seen c.args.purchasing.now).tables.journal (2 ^ 64 - 1)
    (h.clean clean).0 (omega (arith, small, ok.0, ok.1))) c.rows_agree.ensures

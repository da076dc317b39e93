use Rattle.std.proofs.Common.{◌≡◌, ◌+◌, ◌++◌, [], ◌∷◌, take, length, ◌∙◌, ap, sym, arith}
use Rattle.std.proofs.lemmas.List.{take_more}
use Rattle.schedule_audit.specs.Agree.{row_agrees, rows_agree}
use Rattle.schedule_audit.specs.Looks.{Looks}
use Rattle.schedule_audit.proofs.Going.{none_gone, one_further, disagrees, stopped_at, all_gone}
use Rattle.schedule_audit.proofs.Resting.{err_told}
use Rattle.schedule_audit.proofs.auditing.rows_agree.Goals as goal

pub loop-row-init : goal.loop-row-init
loop-row-init g c =
    none_gone g.KO.Keep.seen g.KS.Keep.seen g.KA.Keep.seen c.args.purchasing.now c.args.warehouse.now c.args.billing.now

pub loop-row-preserved : goal.loop-row-preserved
loop-row-preserved g c =
    let rows = c.args.rows.now in
    let i = c.loop-row.row-index in
    let row = c.row-item.result in
    let more : take (i + 1) rows ≡ take i rows ++ row ∷ [] =
    take_more rows i row c.loop-row-test.true ∙ ap (λ v. take i rows ++ v ∷ []) (sym c.row-item.is) in
    rw more (one_further g.KO.Keep.seen g.KS.Keep.seen g.KA.Keep.seen row (take i rows) c.in_ok-row_agrees.field-0
    c.args.purchasing.now
    c.loop-row.purchasing c.row_agrees.new.purchasing c.args.warehouse.now c.loop-row.warehouse
    c.row_agrees.new.warehouse
    c.args.billing.now c.loop-row.billing c.row_agrees.new.billing c.loop-row.invariant c.in_ok-row_agrees.ensures
    c.if-not-branch.false)

pub returns-then-not-branch : goal.returns-then-not-branch
returns-then-not-branch g c =
    disagrees g.KO.Keep.seen g.KS.Keep.seen g.KA.Keep.seen c.row-item.result c.row-item.result c.args.rows.now
    (take c.loop-row.row-index c.args.rows.now) c.loop-row.row-index c.in_ok-row_agrees.field-0 c.args.purchasing.now
    c.loop-row.purchasing c.row_agrees.new.purchasing c.args.warehouse.now c.loop-row.warehouse
    c.row_agrees.new.warehouse
    c.args.billing.now c.loop-row.billing c.row_agrees.new.billing c.loop-row.invariant c.in_ok-row_agrees.ensures
    c.if-not-branch.true
    c.loop-row-test.true (sym c.row-item.is)

pub returns-in_err-row_agrees : goal.returns-in_err-row_agrees
returns-in_err-row_agrees g c = err_told (λ r. Looks g.KO.Keep.seen g.KS.Keep.seen g.KA.Keep.seen
    (λ o s a agree. agree ≡ rows_agree o s a c.args.rows.now) r c.args.purchasing.now c.row_agrees.new.purchasing
    c.args.warehouse.now
    c.row_agrees.new.warehouse c.args.billing.now c.row_agrees.new.billing) c.from_residual.result
    c.in_err-row_agrees.field-0.0
    c.from_residual.ensures.1
    (stopped_at g.KO.Keep.seen g.KS.Keep.seen g.KA.Keep.seen (λ o s a agrees. agrees
    ≡ row_agrees o s a c.row-item.result)
    (λ o s a agree. agree ≡ rows_agree o s a c.args.rows.now) (take c.loop-row.row-index c.args.rows.now)
    c.in_err-row_agrees.field-0.0
    c.args.purchasing.now c.loop-row.purchasing c.row_agrees.new.purchasing c.args.warehouse.now c.loop-row.warehouse
    c.row_agrees.new.warehouse c.args.billing.now c.loop-row.billing c.row_agrees.new.billing c.loop-row.invariant
    c.in_err-row_agrees.ensures)

pub returns : goal.returns
returns g c =
    let all : c.loop-row.row-index ≡ length c.args.rows.now = omega arith in
    all_gone g.KO.Keep.seen g.KS.Keep.seen g.KA.Keep.seen c.args.rows.now c.loop-row.row-index c.args.purchasing.now
    c.loop-row.purchasing c.args.warehouse.now c.loop-row.warehouse c.args.billing.now c.loop-row.billing all
    c.loop-row.invariant

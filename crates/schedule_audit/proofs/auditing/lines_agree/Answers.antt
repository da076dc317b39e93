use Rattle.std.proofs.Common.{◌≡◌, ◌+◌, take, length, ◌∙◌, sym, ap, arith}
use Rattle.schedule_audit.specs.Looks.{LooksAtPartners}
use Rattle.schedule_audit.specs.Agree.{phase_by, fits, all_fit}
use Rattle.schedule_audit.proofs.Tallying.{none_yet, next_one, stopped, finished}
use Rattle.schedule_audit.proofs.Resting.{err_told}
use Rattle.schedule_audit.proofs.auditing.lines_agree.Goals as goal

pub loop-index-init : goal.loop-index-init
loop-index-init g c = none_yet g.KS.Keep.seen g.KA.Keep.seen c.args.order.now c.args.placed.now.status
    c.args.warehouse.now c.args.billing.now

pub loop-index-preserved : goal.loop-index-preserved
loop-index-preserved g c =
    next_one g.KS.Keep.seen g.KA.Keep.seen c.args.order.now c.args.placed.now.status c.args.placed.now.partners
    c.loop-index.index (c.loop-index.index + 1) c.in-Some.partner.now c.entity.result.now c.in_ok-phase.phase
    c.loop-index.agree c.fits-agree.result c.args.warehouse.now c.loop-index.warehouse c.phase_at.new.warehouse
    c.args.billing.now c.loop-index.billing c.phase_at.new.billing (omega arith) (sym c.in-Some.ensures)
    c.entity.ensures (c.fits-agree.ensures ∙ ap (λ s. fits s c.in_ok-phase.phase) c.status.ensures.status)
    c.loop-index.invariant c.in_ok-phase.ensures

pub returns-in_err-phase : goal.returns-in_err-phase
returns-in_err-phase g c = err_told (λ r. LooksAtPartners g.KS.Keep.seen g.KA.Keep.seen
    (λ s a agree. agree ≡ all_fit s a c.args.order.now c.args.placed.now.status c.args.placed.now.partners) r
    c.args.warehouse.now
    c.phase_at.new.warehouse c.args.billing.now c.phase_at.new.billing) c.from_residual.result c.in_err-phase.field-0.0
    c.from_residual.ensures.1
    (stopped g.KS.Keep.seen g.KA.Keep.seen
    (λ s a found. found ≡ phase_by s a c.args.order.now c.entity.result.now.kind c.entity.result.now)
    (λ s a agree. agree ≡ all_fit s a c.args.order.now c.args.placed.now.status c.args.placed.now.partners)
    c.args.order.now c.args.placed.now.status (take c.loop-index.index c.args.placed.now.partners) c.loop-index.agree
    c.in_err-phase.field-0.0 c.args.warehouse.now c.loop-index.warehouse c.phase_at.new.warehouse c.args.billing.now
    c.loop-index.billing c.phase_at.new.billing c.loop-index.invariant c.in_err-phase.ensures)

pub returns : goal.returns
returns g c =
    let all : c.loop-index.index ≡ length c.args.placed.now.partners =
    omega (arith, c.partner_count-index-end.ensures) in
    finished g.KS.Keep.seen g.KA.Keep.seen c.args.order.now c.args.placed.now.status c.args.placed.now.partners
    c.loop-index.index c.loop-index.agree c.args.warehouse.now c.loop-index.warehouse c.args.billing.now
    c.loop-index.billing all c.loop-index.invariant

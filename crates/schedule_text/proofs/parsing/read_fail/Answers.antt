use Rattle.std.proofs.Common.{refl}
use Rattle.schedule_text.proofs.Steps.{three, fails_first, then_fails, then_reads, answers_fault}
use Rattle.schedule_text.proofs.parsing.read_fail.Goals as goal

pub returns-in_err-service : goal.returns-in_err-service
returns-in_err-service c = rw (three c.args.words.now c.service-item.result c.place-item.result c.leaves-item.result
    c.in-len3.len_at_least c.in-len3.len_below c.service-item.is c.place-item.is c.leaves-item.is)
    (answers_fault _ c.from_residual.result c.in_err-service.field-0.0 _ c.from_residual.ensures.1
    (fails_first _ _ _ c.in_err-service.ensures))

pub returns-in_err-place : goal.returns-in_err-place
returns-in_err-place c = rw (three c.args.words.now c.service-item.result c.place-item.result c.leaves-item.result
    c.in-len3.len_at_least c.in-len3.len_below c.service-item.is c.place-item.is c.leaves-item.is)
    (answers_fault _ c.from_residual-in_err-place.result c.in_err-place.field-0.0 _
    c.from_residual-in_err-place.ensures.1
    (then_fails _ _ _ _ c.in_ok-service.ensures
    (fails_first _ _ _ c.in_err-place.ensures)))

pub returns-in_err-leaves : goal.returns-in_err-leaves
returns-in_err-leaves c = rw (three c.args.words.now c.service-item.result c.place-item.result c.leaves-item.result
    c.in-len3.len_at_least c.in-len3.len_below c.service-item.is c.place-item.is c.leaves-item.is)
    (answers_fault _ c.from_residual-in_err-leaves.result c.in_err-leaves.field-0.0 _
    c.from_residual-in_err-leaves.ensures.1
    (then_fails _ _ _ _ c.in_ok-service.ensures
    (then_fails _ _ _ _ c.in_ok-place.ensures
    (fails_first _ _ _ c.in_err-leaves.ensures))))

pub returns : goal.returns
returns c = rw (three c.args.words.now c.service-item.result c.place-item.result c.leaves-item.result
    c.in-len3.len_at_least c.in-len3.len_below c.service-item.is c.place-item.is c.leaves-item.is)
    (then_reads _ _ _ _ c.in_ok-service.ensures
    (then_reads _ _ _ _ c.in_ok-place.ensures
    (then_reads _ _ _ _ c.in_ok-leaves.ensures
    refl)))

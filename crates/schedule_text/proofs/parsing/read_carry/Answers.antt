use Rattle.std.proofs.Common.{refl}
use Rattle.schedule_text.proofs.Steps.{four, fails_first, then_fails, then_reads, answers_fault}
use Rattle.schedule_text.proofs.parsing.read_carry.Goals as goal

pub returns-in_err-service : goal.returns-in_err-service
returns-in_err-service c =
    rw (four c.args.words.now c.service-item.result c.number-item.result c.way-item.result c.most-item.result
    c.in-len4.len_at_least c.in-len4.len_below c.service-item.is c.number-item.is c.way-item.is c.most-item.is)
    (answers_fault _ c.from_residual.result c.in_err-service.field-0.0 _ c.from_residual.ensures.1
    (fails_first _ _ _ (fails_first _ _ _ c.in_err-service.ensures)))

pub returns-in_err-number : goal.returns-in_err-number
returns-in_err-number c =
    rw (four c.args.words.now c.service-item.result c.number-item.result c.way-item.result c.most-item.result
    c.in-len4.len_at_least c.in-len4.len_below c.service-item.is c.number-item.is c.way-item.is c.most-item.is)
    (answers_fault _ c.from_residual-in_err-number.result c.in_err-number.field-0.0 _
    c.from_residual-in_err-number.ensures.1
    (fails_first _ _ _ (then_fails _ _ _ _ c.in_ok-service.ensures
    (fails_first _ _ _ c.in_err-number.ensures))))

pub returns-in_err-way : goal.returns-in_err-way
returns-in_err-way c =
    rw (four c.args.words.now c.service-item.result c.number-item.result c.way-item.result c.most-item.result
    c.in-len4.len_at_least c.in-len4.len_below c.service-item.is c.number-item.is c.way-item.is c.most-item.is)
    (answers_fault _ c.from_residual-in_err-way.result c.in_err-way.field-0.0 _ c.from_residual-in_err-way.ensures.1
    (then_fails _ _ _ _ (then_reads _ _ _ _ c.in_ok-service.ensures (then_reads _ _ _ _ c.in_ok-number.ensures refl))
    (fails_first _ _ _ c.in_err-way.ensures)))

pub returns-in_err-most : goal.returns-in_err-most
returns-in_err-most c =
    rw (four c.args.words.now c.service-item.result c.number-item.result c.way-item.result c.most-item.result
    c.in-len4.len_at_least c.in-len4.len_below c.service-item.is c.number-item.is c.way-item.is c.most-item.is)
    (answers_fault _ c.from_residual-in_err-most.result c.in_err-most.field-0.0 _ c.from_residual-in_err-most.ensures.1
    (then_fails _ _ _ _ (then_reads _ _ _ _ c.in_ok-service.ensures (then_reads _ _ _ _ c.in_ok-number.ensures refl))
    (then_fails _ _ _ _ c.in_ok-way.ensures
    (fails_first _ _ _ c.in_err-most.ensures))))

pub returns : goal.returns
returns c = rw (four c.args.words.now c.service-item.result c.number-item.result c.way-item.result c.most-item.result
    c.in-len4.len_at_least c.in-len4.len_below c.service-item.is c.number-item.is c.way-item.is c.most-item.is)
    (then_reads _ _ _ _ (then_reads _ _ _ _ c.in_ok-service.ensures (then_reads _ _ _ _ c.in_ok-number.ensures refl))
    (then_reads _ _ _ _ c.in_ok-way.ensures
    (then_reads _ _ _ _ c.in_ok-most.ensures
    refl)))

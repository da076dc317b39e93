use Rattle.std.proofs.Common.{refl}
use Rattle.schedule_text.proofs.Steps.{two, fails_first, then_fails, then_reads, answers_fault}
use Rattle.schedule_text.proofs.parsing.read_connection.Goals as goal

pub returns-in_err-service : goal.returns-in_err-service
returns-in_err-service c = rw (two c.args.words.now c.service-item.result c.number-item.result
    c.in-len2.len_at_least c.in-len2.len_below c.service-item.is c.number-item.is)
    (answers_fault _ c.from_residual.result c.in_err-service.field-0.0 _ c.from_residual.ensures.1
    (fails_first _ _ _ c.in_err-service.ensures))

pub returns-in_err-number : goal.returns-in_err-number
returns-in_err-number c = rw (two c.args.words.now c.service-item.result c.number-item.result
    c.in-len2.len_at_least c.in-len2.len_below c.service-item.is c.number-item.is)
    (answers_fault _ c.from_residual-in_err-number.result c.in_err-number.field-0.0 _
    c.from_residual-in_err-number.ensures.1
    (then_fails _ _ _ _ c.in_ok-service.ensures
    (fails_first _ _ _ c.in_err-number.ensures)))

pub returns : goal.returns
returns c = rw (two c.args.words.now c.service-item.result c.number-item.result
    c.in-len2.len_at_least c.in-len2.len_below c.service-item.is c.number-item.is)
    (then_reads _ _ _ _ c.in_ok-service.ensures
    (then_reads _ _ _ _ c.in_ok-number.ensures
    refl))

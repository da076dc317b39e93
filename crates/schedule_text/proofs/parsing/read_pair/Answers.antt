use Rattle.std.proofs.Common.{refl}
use Rattle.schedule_text.proofs.Steps.{two, fails_first, then_fails, then_reads, answers_fault}
use Rattle.schedule_text.proofs.parsing.read_pair.Goals as goal

pub returns-in_err-from : goal.returns-in_err-from
returns-in_err-from c = rw (two c.args.words.now c.from-item.result c.to-item.result
    c.in-len2.len_at_least c.in-len2.len_below c.from-item.is c.to-item.is)
    (answers_fault _ c.from_residual.result c.in_err-from.field-0.0 _ c.from_residual.ensures.1
    (fails_first _ _ _ c.in_err-from.ensures))

pub returns-in_err-to : goal.returns-in_err-to
returns-in_err-to c = rw (two c.args.words.now c.from-item.result c.to-item.result
    c.in-len2.len_at_least c.in-len2.len_below c.from-item.is c.to-item.is)
    (answers_fault _ c.from_residual-in_err-to.result c.in_err-to.field-0.0 _ c.from_residual-in_err-to.ensures.1
    (then_fails _ _ _ _ c.in_ok-from.ensures
    (fails_first _ _ _ c.in_err-to.ensures)))

pub returns : goal.returns
returns c = rw (two c.args.words.now c.from-item.result c.to-item.result
    c.in-len2.len_at_least c.in-len2.len_below c.from-item.is c.to-item.is)
    (then_reads _ _ _ _ c.in_ok-from.ensures
    (then_reads _ _ _ _ c.in_ok-to.ensures
    refl))

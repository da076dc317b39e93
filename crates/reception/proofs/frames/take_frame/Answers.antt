use Rattle.std.proofs.Common.{◌≡◌, Some, subst}
use Rattle.std.specs.Prelude.{Ok, Err}
use Rattle.envelope.specs.Reading.{read_frame}
use Rattle.envelope.specs.declared.message.Envelope.TheVariants as envelope
use Rattle.reception.specs.Faults.{taken_or}
use Rattle.reception.specs.Prepared.{PreparesFrame}
use Rattle.reception.proofs.Accepted.{answers_at}
use Rattle.reception.proofs.Composing.{letter_comes, settle_comes}
use Rattle.reception.proofs.frames.take_frame.Goals as goal

pub returns-in-Letter-clause-comes : goal.returns-in-Letter-clause-comes
returns-in-Letter-clause-comes g c =
    let ready = subst (λ p. PreparesFrame c.kind.result c.args.frame c.args.client.now c.prepare.new.client (Ok p))
    c.in-Letter.is c.in_ok-taken.ensures in
    let l = c.in-Letter.prepared.letter in
    letter_comes g.K.Keep.seen c.args.endpoint.now c.ingest-answer.new.endpoint g.H.Handler.service c.args.frame l
    (subst (λ f. read_frame f ≡ Some (envelope.Letter l)) ready.0 ready.2.carries.1) c.ingest-answer.result
    (taken_or c.finish.result) c.finish.ensures.told c.ingest-answer.ensures.comes

pub returns-in-Letter-clause-answers : goal.returns-in-Letter-clause-answers
returns-in-Letter-clause-answers g c =
    let kind = g.H.Handler.service.kind in
    let ready = subst (λ p. PreparesFrame c.kind.result c.args.frame c.args.client.now c.prepare.new.client (Ok p))
    c.in-Letter.is c.in_ok-taken.ensures in
    answers_at kind c.args.frame c.in-Letter.prepared.message c.args.client.now.client c.prepare.new.client.client
    c.finish.new.client.client (taken_or c.finish.result) ready.0 ready.1 (c.finish.ensures.answers kind)

pub returns-in-Ok-clause-answers : goal.returns-in-Ok-clause-answers
returns-in-Ok-clause-answers g c =
    let kind = g.H.Handler.service.kind in
    let ready = subst (λ p. PreparesFrame c.kind.result c.args.frame c.args.client.now c.prepare.new.client (Ok p))
    c.in-Settle.is c.in_ok-taken.ensures in
    answers_at kind c.args.frame c.in-Settle.prepared.message c.args.client.now.client c.prepare.new.client.client
    c.finish-in-Settle.new.client.client (Ok c.in-Ok.taken) ready.0 ready.1 (c.in-Ok.ensures.answers kind)

pub returns-in-Err-clause-comes : goal.returns-in-Err-clause-comes
returns-in-Err-clause-comes g c =
    let ready = subst (λ p. PreparesFrame c.kind.result c.args.frame c.args.client.now c.prepare.new.client (Ok p))
    c.in-Settle.is c.in_ok-taken.ensures in
    let p = c.in-Settle.prepared in
    settle_comes g.K.Keep.seen c.args.endpoint.now c.settle-answer.new.endpoint g.H.Handler.service c.args.frame p.pair
    p.number
    (subst (λ f. read_frame f ≡ Some (envelope.Settle p.pair p.number)) ready.0 ready.2.carries.1)
    c.settle-answer.result (Err c.in-Err.fault) c.in-Err.ensures.told c.settle-answer.ensures.comes

pub returns-in-Err-clause-answers : goal.returns-in-Err-clause-answers
returns-in-Err-clause-answers g c =
    let kind = g.H.Handler.service.kind in
    let ready = subst (λ p. PreparesFrame c.kind.result c.args.frame c.args.client.now c.prepare.new.client (Ok p))
    c.in-Settle.is c.in_ok-taken.ensures in
    answers_at kind c.args.frame c.in-Settle.prepared.message c.args.client.now.client c.prepare.new.client.client
    c.finish-in-Settle.new.client.client (Err c.in-Err.fault) ready.0 ready.1 (c.in-Err.ensures.answers kind)

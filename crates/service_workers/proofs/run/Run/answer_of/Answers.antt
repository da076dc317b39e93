use Rattle.std.proofs.Common.{refl}
use Rattle.service_workers.specs.Taking.{NoEnvelope}
use Rattle.service_workers.specs.Truth.{IngestedIn, OneGroupedIn}
use Rattle.service_workers.proofs.Taking.{nothing_takes}
use Rattle.service_workers.proofs.Truth.{as_handled, as_letter, as_settled, so_knows}
use Rattle.service_workers.proofs.run.Run.answer_of.Goals as goal

pub answer_handled-answer-requires-clause-told : goal.answer_handled-answer-requires-clause-told
answer_handled-answer-requires-clause-told g c = so_knows g.K.Keep.seen g.H.Handler.service g.N.Naming.sound
    (OneGroupedIn g.H.Handler.service c.args.envelope.now c.args.grouped) _
    (λ x h. as_handled g.H.Handler.service c.args.envelope.now c.args.grouped c.in-Letter.letter c.in-Handled.position x c.in-Letter.is
    c.in-Handled.is h) _ c.requires.told

pub returns-in-Handled-clause-told : goal.returns-in-Handled-clause-told
returns-in-Handled-clause-told g c = so_knows g.K.Keep.seen g.H.Handler.service g.N.Naming.sound
    (IngestedIn g.H.Handler.service c.in-Letter.letter c.answer_handled-answer.result) _
    (λ x h. as_letter g.H.Handler.service c.args.envelope.now c.in-Letter.letter c.answer_handled-answer.result x c.in-Letter.is h) _
    c.answer_handled-answer.ensures.told

pub returns-in-Settled-grouped-clause-told : goal.returns-in-Settled-grouped-clause-told
returns-in-Settled-grouped-clause-told g c = so_knows g.K.Keep.seen g.H.Handler.service g.N.Naming.sound
    (OneGroupedIn g.H.Handler.service c.args.envelope.now c.args.grouped) _
    (λ x h. as_settled g.H.Handler.service c.args.envelope.now c.args.grouped _ _ c.in-Settled-grouped.mark x c.in-Settle.is
    c.in-Settled-grouped.is h) _ c.requires.told

pub returns-in-Settled-clause-took : goal.returns-in-Settled-clause-took
returns-in-Settled-clause-took g c = nothing_takes g.K.Keep.seen g.H.Handler.service NoEnvelope _ _ _ c.requires.hand.0.own refl

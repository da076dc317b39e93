use Rattle.std.proofs.Common.{ap, refl, sym, ◌∙◌, Some}
use Rattle.service_workers.specs.Taking.{CarriedIn, Only}
use Rattle.service_workers.specs.Truth.{AnsweredIn}
use Rattle.service_workers.proofs.Taking.{nothing_takes, so_takes}
use Rattle.service_workers.proofs.Truth.{answered_one, so_tells}
use Rattle.service_workers.proofs.run.Run.ask_unread.Goals as goal

pub returns-in-Ok-clause-told : goal.returns-in-Ok-clause-told
returns-in-Ok-clause-told g c = so_tells g.K.Keep.seen g.H.Handler.service
    (AnsweredIn g.H.Handler.service c.in-Ok.envelope c.ask.result) _
    (λ j h. answered_one g.H.Handler.service c.args.message.now c.in-Ok.envelope c.ask.result j c.in-Ok.ensures.read h) _ _
    c.ask.ensures.told

pub returns-in-Ok-clause-took : goal.returns-in-Ok-clause-took
returns-in-Ok-clause-took g c = so_takes g.K.Keep.seen g.H.Handler.service (Only c.in-Ok.envelope) (CarriedIn c.args.message.now)
    (λ e same. c.in-Ok.ensures.read ∙ ap Some (sym same)) _ _ c.ask.ensures.took

pub returns-in-Err-clause-took : goal.returns-in-Err-clause-took
returns-in-Err-clause-took g c = nothing_takes g.K.Keep.seen g.H.Handler.service (CarriedIn c.args.message.now) _ _ _
    c.requires.hand.0.own refl

use Rattle.std.proofs.Common.{refl}
use Rattle.std.specs.Prelude.{Contains}
use Rattle.shared_endpoint.specs.Token.{hand_number}
use Rattle.service_workers.specs.Truth.{GroupedIn}
use Rattle.service_workers.proofs.Taking.{nothing_takes}
use Rattle.service_workers.proofs.Truth.{any_tells, none_told, so_tells, told_items}
use Rattle.service_workers.proofs.run.Run.ask_together.Goals as goal

pub returns-in-Ok-clause-told : goal.returns-in-Ok-clause-told
returns-in-Ok-clause-told g c = so_tells g.K.Keep.seen g.H.Handler.service (GroupedIn g.H.Handler.service c.args.envelopes.now c.take_group.result) _
    (λ x h. told_items g.H.Handler.service c.args.envelopes.now c.take_group.result c.in-Ok.told _ x c.in-Ok.is c.into_iter.ensures.rest h) _ _
    c.take_group.ensures.told

pub returns-in-Err-clause-told : goal.returns-in-Err-clause-told
returns-in-Err-clause-told g c = any_tells g.K.Keep.seen g.H.Handler.service hand_number _
    (λ x. none_told g.H.Handler.service c.args.envelopes.now _ x c.nothing_told-in-Err.ensures.items) _ _ c.take_group.ensures.goes_on

pub returns-then-envelopes-lt2-clause-took : goal.returns-then-envelopes-lt2-clause-took
returns-then-envelopes-lt2-clause-took g c = nothing_takes g.K.Keep.seen g.H.Handler.service
    (Contains c.args.envelopes.now) _ _ _ c.requires.hand.0.own refl

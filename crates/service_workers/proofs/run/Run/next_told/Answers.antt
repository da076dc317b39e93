use Rattle.std.proofs.Common.{refl}
use Rattle.std.specs.Prelude.{Contains}
use Rattle.std.specs.Vec.Iter.{into_iter_items, into_iter_len}
use Rattle.shared_endpoint.specs.Token.{hand_number}
use Rattle.service_workers.specs.Truth.{AreGroupedIn, IsLeftIn}
use Rattle.service_workers.proofs.Taking.{nothing_takes}
use Rattle.service_workers.proofs.Truth.{knows_now, next_is, next_left, so_knows}
use Rattle.service_workers.proofs.run.Run.next_told.Goals as goal

pub returns-in-Some-clause-told : goal.returns-in-Some-clause-told
returns-in-Some-clause-told g c = so_knows g.K.Keep.seen g.H.Handler.service g.N.Naming.sound
    (IsLeftIn g.H.Handler.service c.args.envelopes.now (into_iter_len c.args.told.now) (into_iter_items c.args.told.now)) _
    (λ x h. next_left g.H.Handler.service c.args.envelopes.now _ _ _ _ c.in-Some.grouped x c.in-Some.ensures.cases h) _ c.requires.told

pub returns-clause-told : goal.returns-clause-told
returns-clause-told g c = so_knows g.K.Keep.seen g.H.Handler.service g.N.Naming.sound
    (AreGroupedIn g.H.Handler.service c.args.envelopes.now (into_iter_items c.ask_together-more.result)) _
    (λ x h. next_is g.H.Handler.service c.args.envelopes.now _ _ _ _ c.next-first.result x c.next-first.ensures.cases h) _
    (knows_now g.K.Keep.seen g.H.Handler.service hand_number g.N.Naming.sound
    (AreGroupedIn g.H.Handler.service c.args.envelopes.now (into_iter_items c.ask_together-more.result)) _ _
    c.ask_together-more.ensures.goes_on (so_knows g.K.Keep.seen g.H.Handler.service g.N.Naming.sound
    (IsLeftIn g.H.Handler.service c.args.envelopes.now (into_iter_len c.args.told.now) (into_iter_items c.args.told.now)) _
    (λ x h. tt) _ c.requires.told) c.ask_together-more.ensures.told)

pub returns-in-Some-clause-took : goal.returns-in-Some-clause-took
returns-in-Some-clause-took g c = nothing_takes g.K.Keep.seen g.H.Handler.service (Contains c.args.envelopes.now) _ _ _
    c.requires.hand.0.own refl

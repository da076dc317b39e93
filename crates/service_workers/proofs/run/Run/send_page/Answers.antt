use Rattle.std.proofs.Common.{subst, sym}
use Rattle.laws_stores.specs.Writing.{IsTrueIn}
use Rattle.envelope.specs.declared.message.Envelope.TheVariants as envelope
use Rattle.shared_endpoint.specs.Token.{scout_number}
use Rattle.service_workers.specs.Counts.{is_to}
use Rattle.service_workers.specs.Truth.{AreSentIn, ListedIn}
use Rattle.service_workers.proofs.Parting.{all_kept}
use Rattle.service_workers.proofs.Truth.{knows_now, so_tells}
use Rattle.service_workers.proofs.run.Run.send_page.Goals as goal

pub send_letters-requires-clause-told : goal.send_letters-requires-clause-told
send_letters-requires-clause-told g c =
    let reactions = g.H.Handler.service.reactions in
    knows_now g.K.Keep.seen g.H.Handler.service scout_number g.N.Naming.sound
    (AreSentIn reactions c.as_slice.result.now) _ _ c.unsettled.ensures.goes_on c.requires.sound
    (so_tells g.K.Keep.seen g.H.Handler.service (ListedIn reactions c.unsettled.result) _
    (λ x h. subst (λ ls. AreSentIn reactions ls x) (sym c.as_slice.ensures.value)
    (subst (λ ls. AreSentIn reactions ls x) (sym c.in-Ok-of.ensures.own)
    (all_kept (is_to c.args.walk.now.kind) (λ l. IsTrueIn reactions x.journal (envelope.Letter l)) c.in-Ok.letters.items
    (subst (λ r. ListedIn reactions r x) c.in-Ok.is h)))) _ _ c.unsettled.ensures.told)

use Rattle.std.proofs.Common.{◌≡◌, true, sym, ap, ◌∙◌}
use Rattle.broker_book.specs.declared.parts.Sent.{Sent}
use Rattle.broker_core.specs.Words.{is_destination}
use Rattle.broker_core.proofs.perform.put.Goals as goal

pub returns-in-Ok : goal.returns-in-Ok
returns-in-Ok g c =
    let e : is_destination c.args.send.now.sent.destination ≡ true =
    ap (λ (s : Sent). is_destination s.destination) (sym c.get.ensures) ∙ sym c.is_destination.ensures
    ∙ c.if-not-is_destination.false in
    λ session. rw (e, c.in-Some.is) (rw c.in-Ok.ensures at (c.keep.ensures c.args.queues.now))

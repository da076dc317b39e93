use Rattle.std.proofs.Common.{length, refl, ◌∙◌, subst}
use Rattle.endpoint.specs.Calls.{Counts}
use Rattle.shared_endpoint.proofs.Passing.{token_gives, token_turns, token_stays}
use Rattle.shared_endpoint.proofs.Stepping.{count_steps}
use Rattle.shared_endpoint.proofs.shared.Shared.length.Goals as goal

pub give-requires-clause-may : goal.give-requires-clause-may
give-requires-clause-may g c =
    let k = g.K.Keep in
    let h = g.H.Handler in
    let counts = subst (λ x. Counts k.seen x (λ t. length t.journal) c.length-length.result)
    (c.deref.ensures ∙ c.boxed.view_is) c.length-length.ensures in
    token_gives k.seen h.service g.met.K.Keep.sound c.args.self.now.lock
    c.args.seat.now.number c.args.seat.now.key _ _ _ _ _ _
    c.requires.seat.0 c.take-boxed.ensures.took refl c.tells-told.ensures
    (count_steps k.seen h.service _ c.args.seat.now.number (λ t. length t.journal) c.length-length.result
    counts)

pub returns-clause-seat : goal.returns-clause-seat
returns-clause-seat g c =
    let k = g.K.Keep in
    let h = g.H.Handler in (
      (
        token_stays k.seen h.service g.met.K.Keep.sound c.args.self.now.lock
            c.args.seat.now.number c.args.seat.now.key c.give.new.key _ _ _ _
            c.requires.seat.0 c.take-boxed.ensures.took c.give.ensures.key c.give.ensures.gave,
        c.requires.seat.1,
        c.requires.seat.2,
      ),
      refl,
    )

pub returns-clause-turn : goal.returns-clause-turn
returns-clause-turn g c =
    let k = g.K.Keep in
    let h = g.H.Handler in
    let counts = subst (λ x. Counts k.seen x (λ t. length t.journal) c.length-length.result)
    (c.deref.ensures ∙ c.boxed.view_is) c.length-length.ensures in
    token_turns k.seen h.service g.met.K.Keep.sound c.args.self.now.lock
    c.args.seat.now.number c.args.seat.now.key c.give.new.key _ _ _ _ _ _
    _ c.requires.seat.0 c.take-boxed.ensures.took refl c.tells-told.ensures
    (count_steps k.seen h.service _ c.args.seat.now.number (λ t. length t.journal) c.length-length.result
    counts)
    (refl, counts) c.give.ensures.gave

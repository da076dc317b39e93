use Rattle.std.proofs.Common.{refl, ◌∙◌}
use Rattle.shared_endpoint.proofs.Passing.{token_gives, token_turns, token_stays}
use Rattle.shared_endpoint.proofs.Stepping.{commit_steps, same_number}
use Rattle.shared_endpoint.proofs.shared.Shared.commit.Goals as goal

pub give-requires-clause-may : goal.give-requires-clause-may
give-requires-clause-may g c =
    let k = g.K.Keep in
    let h = g.H.Handler in
    let same = c.deref_mut.ensures.value ∙ c.boxed.view_is in
    token_gives k.seen h.service g.met.K.Keep.sound c.args.self.now.lock
    c.args.seat.now.number c.args.seat.now.key _ _ _ _ _ _
    c.requires.seat.0 c.take-boxed.ensures.took same c.tells-told.ensures
    (commit_steps k.seen h.service _ _ c.args.seat.now.number _ _ (same_number c.args.seat.now.number)
    c.commit-committed.ensures.commit c.commit-committed.ensures.comes c.commit-committed.ensures.matches)

pub returns-clause-seat : goal.returns-clause-seat
returns-clause-seat g c =
    let k = g.K.Keep in
    let h = g.H.Handler in (
      (
        token_stays k.seen h.service g.met.K.Keep.sound c.args.self.now.lock
            c.args.seat.now.number c.args.seat.now.key c.give.new.key _ _ _ _
            c.requires.seat.0 c.take-boxed.ensures.took c.give.ensures.key c.give.ensures.gave,
        c.requires.seat.1,
        c.raise.ensures.mark,
      ),
      refl,
    )

pub returns-clause-turn : goal.returns-clause-turn
returns-clause-turn g c =
    let k = g.K.Keep in
    let h = g.H.Handler in
    let same = c.deref_mut.ensures.value ∙ c.boxed.view_is in
    token_turns k.seen h.service g.met.K.Keep.sound c.args.self.now.lock
    c.args.seat.now.number c.args.seat.now.key c.give.new.key _ _ _ _ _ _
    _ c.requires.seat.0 c.take-boxed.ensures.took same c.tells-told.ensures
    (commit_steps k.seen h.service _ _ c.args.seat.now.number _ _ (same_number c.args.seat.now.number)
    c.commit-committed.ensures.commit c.commit-committed.ensures.comes c.commit-committed.ensures.matches)
    c.commit-committed.ensures.commit c.give.ensures.gave

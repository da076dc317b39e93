use Rattle.std.proofs.Common.{refl, ◌∙◌}
use Rattle.shared_endpoint.specs.Token.{scout_number}
use Rattle.shared_endpoint.proofs.Passing.{token_gives, token_turns, token_stays}
use Rattle.shared_endpoint.proofs.Stepping.{read_steps}
use Rattle.shared_endpoint.proofs.shared.Shared.journal.Goals as goal

pub give-requires-clause-may : goal.give-requires-clause-may
give-requires-clause-may g c =
    let k = g.K.Keep in
    let h = g.H.Handler in
    let same = c.deref_mut.ensures.value ∙ c.boxed.view_is in
    token_gives k.seen h.service g.met.K.Keep.sound c.args.self.now.lock
    scout_number c.args.scout.now.key _ _ _ _ _ _
    c.requires.scout.0 c.take-boxed.ensures.took same c.tells-told.ensures
    (read_steps k.seen h.service _ _ scout_number _ _ c.journal-rows.ensures.read.doubt
    c.journal-rows.ensures.read.call c.journal-rows.ensures.stays)

pub returns-clause-scout : goal.returns-clause-scout
returns-clause-scout g c =
    let k = g.K.Keep in
    let h = g.H.Handler in (
      (
        token_stays k.seen h.service g.met.K.Keep.sound c.args.self.now.lock
            scout_number c.args.scout.now.key c.give.new.key _ _ _ _
            c.requires.scout.0 c.take-boxed.ensures.took c.give.ensures.key c.give.ensures.gave,
        c.requires.scout.1,
      ),
      refl,
    )

pub returns-clause-turn : goal.returns-clause-turn
returns-clause-turn g c =
    let k = g.K.Keep in
    let h = g.H.Handler in
    let same = c.deref_mut.ensures.value ∙ c.boxed.view_is in
    token_turns k.seen h.service g.met.K.Keep.sound c.args.self.now.lock
    scout_number c.args.scout.now.key c.give.new.key _ _ _ _ _ _
    _ c.requires.scout.0 c.take-boxed.ensures.took same c.tells-told.ensures
    (read_steps k.seen h.service _ _ scout_number _ _ c.journal-rows.ensures.read.doubt
    c.journal-rows.ensures.read.call c.journal-rows.ensures.stays)
    c.journal-rows.ensures.read c.give.ensures.gave

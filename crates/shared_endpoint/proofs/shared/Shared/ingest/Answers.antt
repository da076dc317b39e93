use Rattle.std.proofs.Common.{ap, ◌∙◌}
use Rattle.endpoint.specs.Calls.{OfLetter}
use Rattle.shared_endpoint.specs.Token.{hand_number}
use Rattle.shared_endpoint.proofs.Passing.{token_gives, token_turns, token_bears, token_stays}
use Rattle.shared_endpoint.proofs.Stepping.{ingest_steps}
use Rattle.shared_endpoint.proofs.shared.Shared.ingest.Goals as goal

pub give-requires-clause-may : goal.give-requires-clause-may
give-requires-clause-may g c =
    let k = g.K.Keep in
    let h = g.H.Handler in
    let same = c.deref_mut.ensures.value ∙ c.boxed.view_is in
    token_gives k.seen h.service g.met.K.Keep.sound c.args.self.now.lock
    hand_number c.args.hand.now.key _ _ _ _ _ _
    c.requires.hand.0 c.take-boxed.ensures.took same c.tells-told.ensures
    (ingest_steps k.seen h.service _ _ c.args.letter.now OfLetter c.args.letter.now.pair.to
    c.ingest-ingested.result c.ingest-ingested.ensures.ingest c.ingest-ingested.ensures.comes
    c.ingest-ingested.ensures.matches)

pub returns-clause-hand : goal.returns-clause-hand
returns-clause-hand g c =
    let k = g.K.Keep in
    let h = g.H.Handler in (
      token_stays k.seen h.service g.met.K.Keep.sound c.args.self.now.lock
          hand_number c.args.hand.now.key c.give.new.key _ _ _ _
          c.requires.hand.0 c.take-boxed.ensures.took c.give.ensures.key c.give.ensures.gave,
      c.raise.ensures.mark,
    )

pub returns-clause-knows : goal.returns-clause-knows
returns-clause-knows g c =
    ap (λ v. v.shown) c.give.ensures.gave ∙ ap (λ v. v.shown) c.take-boxed.ensures.took.is

pub returns-clause-shown : goal.returns-clause-shown
returns-clause-shown g c =
    let k = g.K.Keep in
    let h = g.H.Handler in
    let same = c.deref_mut.ensures.value ∙ c.boxed.view_is in
    token_bears k.seen h.service g.met.K.Keep.sound c.args.self.now.lock
    hand_number c.args.hand.now.key c.give.new.key _ _ _ _ _ _
    c.requires.hand.0 c.take-boxed.ensures.took same c.tells-told.ensures
    (ingest_steps k.seen h.service _ _ c.args.letter.now OfLetter c.args.letter.now.pair.to
    c.ingest-ingested.result c.ingest-ingested.ensures.ingest c.ingest-ingested.ensures.comes
    c.ingest-ingested.ensures.matches)
    c.give.ensures.gave

pub returns-clause-turn : goal.returns-clause-turn
returns-clause-turn g c =
    let k = g.K.Keep in
    let h = g.H.Handler in
    let same = c.deref_mut.ensures.value ∙ c.boxed.view_is in
    token_turns k.seen h.service g.met.K.Keep.sound c.args.self.now.lock
    hand_number c.args.hand.now.key c.give.new.key _ _ _ _ _ _
    _ c.requires.hand.0 c.take-boxed.ensures.took same c.tells-told.ensures
    (ingest_steps k.seen h.service _ _ c.args.letter.now OfLetter c.args.letter.now.pair.to
    c.ingest-ingested.result c.ingest-ingested.ensures.ingest c.ingest-ingested.ensures.comes
    c.ingest-ingested.ensures.matches)
    c.ingest-ingested.ensures.ingest c.give.ensures.gave

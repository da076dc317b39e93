use Rattle.std.proofs.Common.{length, refl, ap, ◌∙◌, subst}
use Rattle.endpoint.specs.Calls.{Counts}
use Rattle.shared_endpoint.specs.Token.{hand_number}
use Rattle.shared_endpoint.proofs.Passing.{token_gives, token_turns, token_bears, token_stays}
use Rattle.shared_endpoint.proofs.Stepping.{count_steps}
use Rattle.shared_endpoint.proofs.shared.Shared.look.Goals as goal

pub give-requires-clause-may : goal.give-requires-clause-may
give-requires-clause-may g c =
    let k = g.K.Keep in
    let h = g.H.Handler in
    let counts = subst (λ x. Counts k.seen x (λ t. length t.journal) c.length-looked.result)
    (c.deref.ensures ∙ c.boxed.view_is) c.length-looked.ensures in
    token_gives k.seen h.service g.met.K.Keep.sound c.args.self.now.lock
    hand_number c.args.hand.now.key _ _ _ _ _ _
    c.requires.hand.0 c.take-boxed.ensures.took refl c.tells-told.ensures
    (count_steps k.seen h.service _ hand_number (λ t. length t.journal) c.length-looked.result counts)

pub returns-clause-hand : goal.returns-clause-hand
returns-clause-hand g c =
    let k = g.K.Keep in
    let h = g.H.Handler in (
      token_stays k.seen h.service g.met.K.Keep.sound c.args.self.now.lock
          hand_number c.args.hand.now.key c.give.new.key _ _ _ _
          c.requires.hand.0 c.take-boxed.ensures.took c.give.ensures.key c.give.ensures.gave,
      c.requires.hand.1,
    )

pub returns-clause-knows : goal.returns-clause-knows
returns-clause-knows g c =
    ap (λ v. v.shown) c.give.ensures.gave ∙ ap (λ v. v.shown) c.take-boxed.ensures.took.is

pub returns-clause-shown : goal.returns-clause-shown
returns-clause-shown g c =
    let k = g.K.Keep in
    let h = g.H.Handler in
    let counts = subst (λ x. Counts k.seen x (λ t. length t.journal) c.length-looked.result)
    (c.deref.ensures ∙ c.boxed.view_is) c.length-looked.ensures in
    token_bears k.seen h.service g.met.K.Keep.sound c.args.self.now.lock
    hand_number c.args.hand.now.key c.give.new.key _ _ _ _ _ _
    c.requires.hand.0 c.take-boxed.ensures.took refl c.tells-told.ensures
    (count_steps k.seen h.service _ hand_number (λ t. length t.journal) c.length-looked.result counts)
    c.give.ensures.gave

pub returns-clause-turn : goal.returns-clause-turn
returns-clause-turn g c =
    let k = g.K.Keep in
    let h = g.H.Handler in
    let counts = subst (λ x. Counts k.seen x (λ t. length t.journal) c.length-looked.result)
    (c.deref.ensures ∙ c.boxed.view_is) c.length-looked.ensures in
    token_turns k.seen h.service g.met.K.Keep.sound c.args.self.now.lock
    hand_number c.args.hand.now.key c.give.new.key _ _ _ _ _ _
    _ c.requires.hand.0 c.take-boxed.ensures.took refl c.tells-told.ensures
    (count_steps k.seen h.service _ hand_number (λ t. length t.journal) c.length-looked.result counts)
    (refl, counts) c.give.ensures.gave

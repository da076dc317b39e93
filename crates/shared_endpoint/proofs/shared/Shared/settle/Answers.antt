use Rattle.std.proofs.Common.{ap, ◌∙◌}
use Rattle.endpoint.specs.Calls.{OfSettle}
use Rattle.shared_endpoint.specs.Token.{hand_number}
use Rattle.shared_endpoint.proofs.Passing.{token_gives, token_turns, token_bears, token_stays}
use Rattle.shared_endpoint.proofs.Stepping.{settle_steps}
use Rattle.shared_endpoint.proofs.shared.Shared.settle.Goals as goal

pub give-requires-clause-may : goal.give-requires-clause-may
give-requires-clause-may g c =
    let k = g.K.Keep in
    let h = g.H.Handler in
    let same = c.deref_mut.ensures.value ∙ c.boxed.view_is in
    token_gives k.seen h.service g.met.K.Keep.sound c.args.self.now.lock
    hand_number c.args.hand.now.key _ _ _ _ _ _
    c.requires.hand.0 c.take-boxed.ensures.took same c.tells-told.ensures
    (settle_steps k.seen h.service _ _ c.args.pair.now c.args.number OfSettle c.args.pair.now.from
    c.settle-mark.result c.settle-mark.ensures.settle c.settle-mark.ensures.comes
    c.settle-mark.ensures.matches)

pub returns-clause-hand : goal.returns-clause-hand
returns-clause-hand g c =
    let k = g.K.Keep in
    let h = g.H.Handler in (
      token_stays k.seen h.service g.met.K.Keep.sound c.args.self.now.lock
          hand_number c.args.hand.now.key c.give.new.key _ _ _ _
          c.requires.hand.0 c.take-boxed.ensures.took c.give.ensures.key c.give.ensures.gave,
      c.requires.hand.1,
    )

pub returns-clause-knows : goal.returns-clause-knows
returns-clause-knows g c =
    ap (λ v. v.shown) c.give.ensures.gave ∙ ap (λ v. v.shown) c.take-boxed.ensures.took.is

pub returns-clause-shown : goal.returns-clause-shown
returns-clause-shown g c =
    let k = g.K.Keep in
    let h = g.H.Handler in
    let same = c.deref_mut.ensures.value ∙ c.boxed.view_is in
    token_bears k.seen h.service g.met.K.Keep.sound c.args.self.now.lock
    hand_number c.args.hand.now.key c.give.new.key _ _ _ _ _ _
    c.requires.hand.0 c.take-boxed.ensures.took same c.tells-told.ensures
    (settle_steps k.seen h.service _ _ c.args.pair.now c.args.number OfSettle c.args.pair.now.from
    c.settle-mark.result c.settle-mark.ensures.settle c.settle-mark.ensures.comes
    c.settle-mark.ensures.matches)
    c.give.ensures.gave

pub returns-clause-turn : goal.returns-clause-turn
returns-clause-turn g c =
    let k = g.K.Keep in
    let h = g.H.Handler in
    let same = c.deref_mut.ensures.value ∙ c.boxed.view_is in
    token_turns k.seen h.service g.met.K.Keep.sound c.args.self.now.lock
    hand_number c.args.hand.now.key c.give.new.key _ _ _ _ _ _
    _ c.requires.hand.0 c.take-boxed.ensures.took same c.tells-told.ensures
    (settle_steps k.seen h.service _ _ c.args.pair.now c.args.number OfSettle c.args.pair.now.from
    c.settle-mark.result c.settle-mark.ensures.settle c.settle-mark.ensures.comes
    c.settle-mark.ensures.matches)
    c.settle-mark.ensures.settle c.give.ensures.gave

use Rattle.std.proofs.Common.{sym, ◌∙◌}
use Rattle.keep_plain.proofs.Upto.{last_same, last_other, before_same}
use Rattle.keep_plain.proofs.outbox.number_before.Goals as goal

pub returns-in_default : goal.returns-in_default
returns-in_default c = λ k _ high.
    (c.range.ensures.in_range tt).5 c.in_default.ensures.steps.0 (record { pair = c.args.place.now.pair; number = k })
    (tt, before_same c.args.place.now.pair k c.args.place.now.number high)

pub returns-then-eq : goal.returns-then-eq
returns-then-eq c =
    let range = c.range.ensures.in_range tt in
    last_same c.args.outbox.now c.in-Some.last.now c.args.place.now (range.3 _ _ c.in-Some.ensures.steps).0.1
    (λ q h some. range.4 _ _ c.in-Some.ensures.steps q (tt, h) some)
    (sym c.eq.ensures ∙ c.if-eq.true)

pub returns-else-eq : goal.returns-else-eq
returns-else-eq c =
    let range = c.range.ensures.in_range tt in
    last_other c.args.outbox.now c.in-Some.last.now c.args.place.now (range.3 _ _ c.in-Some.ensures.steps).0.1
    (λ q h some. range.4 _ _ c.in-Some.ensures.steps q (tt, h) some)
    (sym c.eq.ensures ∙ c.if-eq.false)

use Rattle.std.proofs.Common.{sym, ap, ◌∙◌, arith}
use Rattle.broker_index.specs.Index.{without}
use Rattle.broker_index.specs.Places.{are_rising}
use Rattle.broker_index.proofs.Searches.{without-from_remove, without_none, rising-without, number_of}
use Rattle.broker_index.proofs.numbers.Places.remove.Goals as goal

pub invariant_of-self : goal.invariant_of-self
invariant_of-self c =
    let within = c.in-Some.ensures.item.3.0 in
    ap are_rising (without-from_remove c.args.number c.self.inside.places.items c.remove.new.self.items
    c.first_index-index.result c.in-Some.place.now c.remove.result c.self.invariant c.first_index-index.ensures within
    c.in-Some.ensures.lookup c.if-place-number.true (c.remove.ensures.succeeds c.in-Some.place.now (omega arith))
    c.remove.ensures.items)
    ∙ rising-without c.args.number c.self.inside.places.items c.self.invariant

pub returns-in_default : goal.returns-in_default
returns-in_default c =
    let past = c.in_default.ensures.item.3 in
    sym c.self.view_is
    ∙ sym (without_none c.args.number c.self.inside.places.items c.first_index-index.result
    (record { number = 0; key = 0 }) c.self.invariant c.first_index-index.ensures (λ within. absurd (omega arith)))
    ∙ ap (without c.args.number) c.self.view_is

pub returns-then-place-number : goal.returns-then-place-number
returns-then-place-number c =
    let within = c.in-Some.ensures.item.3.0 in
    c.shrink.ensures
    ∙ without-from_remove c.args.number c.self.inside.places.items c.remove.new.self.items
    c.first_index-index.result c.in-Some.place.now c.remove.result c.self.invariant c.first_index-index.ensures within
    c.in-Some.ensures.lookup c.if-place-number.true (c.remove.ensures.succeeds c.in-Some.place.now (omega arith))
    c.remove.ensures.items
    ∙ ap (without c.args.number) c.self.view_is

pub returns-else-place-number : goal.returns-else-place-number
returns-else-place-number c =
    sym c.self.view_is
    ∙ sym (without_none c.args.number c.self.inside.places.items c.first_index-index.result c.in-Some.place.now
    c.self.invariant c.first_index-index.ensures
    (λ within same. c.if-place-number.false (ap number_of c.in-Some.ensures.lookup ∙ same)))
    ∙ ap (without c.args.number) c.self.view_is

use Rattle.std.proofs.Common.{◌⊎◌, ◌<◌, ◌≤◌, Some, sym, ap, subst, ◌∙◌}
use Rattle.std.specs.List.{find, All}
use Rattle.broker_index.specs.declared.places.KeyedPlace.{KeyedPlace}
use Rattle.broker_index.specs.Index.{is_from}
use Rattle.broker_index.proofs.Searches.{find_at, find_none, least_at}
use Rattle.broker_index.proofs.numbers.Places.first_from.Goals as goal

pub returns-in-Some-clause-found : goal.returns-in-Some-clause-found
returns-in-Some-clause-found c =
    ap Some c.in-Some.ensures.lookup
    ∙ sym (find_at c.args.number c.self.inside.places.items c.first_index.result c.in-Some.place.now
    c.first_index.ensures c.in-Some.ensures.item.3.0)
    ∙ ap (find (is_from c.args.number)) c.self.view_is

pub returns-in-Some-clause-least : goal.returns-in-Some-clause-least
returns-in-Some-clause-least c =
    subst (All (λ (q : KeyedPlace). (q.number < c.args.number) ⊎ (c.in-Some.place.now.number ≤ q.number))) c.self.view_is
    (least_at c.args.number c.self.inside.places.items c.first_index.result c.in-Some.place.now c.self.invariant
    c.first_index.ensures c.in-Some.ensures.item.3.0 c.in-Some.ensures.lookup)

pub returns-in-None-clause-found : goal.returns-in-None-clause-found
returns-in-None-clause-found c =
    sym (find_none c.args.number c.self.inside.places.items c.first_index.result c.first_index.ensures
    c.in-None.ensures.item.3)
    ∙ ap (find (is_from c.args.number)) c.self.view_is

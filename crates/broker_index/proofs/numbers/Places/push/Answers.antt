use Rattle.std.proofs.Common.{◌<◌, sym, ap, subst, ◌∙◌}
use Rattle.std.specs.List.{All}
use Rattle.broker_index.specs.declared.places.KeyedPlace.{KeyedPlace}
use Rattle.broker_index.specs.Places.{are_rising}
use Rattle.broker_index.proofs.Searches.{rising-behind}
use Rattle.broker_index.proofs.numbers.Places.push.Goals as goal

pub invariant_of-self-2 : goal.invariant_of-self-2
invariant_of-self-2 c =
    ap are_rising c.in_ok-push_back.ensures.items
    ∙ rising-behind c.args.place c.self.inside.places.items c.self.invariant
    (subst (All (λ (q : KeyedPlace). q.number < c.args.place.number)) (sym c.self.view_is) c.requires)

use Rattle.std.proofs.Common.{◌≡◌, Some, sym, ap, ◌∙◌}
use Rattle.std.specs.Option.{option_map}
use Rattle.broker_index.specs.Index.{Queue}
use Rattle.broker_index.specs.declared.destinations.Destination.{Destination}
use Rattle.broker_index.proofs.Named.{none_in, queue_there}
use Rattle.broker_index.proofs.destinations.Destinations.shared_name.Goals as goal

pub returns-in_ok-shared-in-Some : goal.returns-in_ok-shared-in-Some
returns-in_ok-shared-in-Some c =
    let found = c.in-Some.ensures.found in
    let same : c.index.result.now ≡ found.0 = cc (c.index.ensures, found.1) in
    let named = ap (λ (d : Destination). d.name) same ∙ found.2 in
    rw (← c.self.view_is) (ap (λ n. Some n) (c.in_ok-shared-in-Some.ensures ∙ named)
    ∙ sym (ap (λ o. option_map (λ (q : Queue). c.args.name.now) o)
    (queue_there c.self.inside.slab c.self.inside.keys c.self.invariant.found c.args.name.now
    c.in-Some.key
    c.index.result.now c.index.ensures named)))

pub returns-in-None : goal.returns-in-None
returns-in-None c =
    rw (← c.self.view_is) (sym (ap (λ o. option_map (λ (q : Queue). c.args.name.now) o)
    (none_in c.args.name.now c.self.inside.slab.slots c.in-None.ensures.absent)))

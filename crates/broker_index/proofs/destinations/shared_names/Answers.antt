use Rattle.std.proofs.Common.{ℕ, ◌++◌, ◌∷◌, [], List, map, sym, ap, ◌∙◌, append-nil, append_assoc}
use Rattle.broker_index.specs.declared.destinations.Destination.{Destination}
use Rattle.broker_index.proofs.Named.{names_of}
use Rattle.broker_index.proofs.destinations.shared_names.Goals as goal

abbrev names : List (ℕ × Destination) → List (List ℕ)
names ps = map (λ (p : ℕ × Destination). p.1.name) ps

pub loop-destination-init : goal.loop-destination-init
loop-destination-init c =
    let left = c.into_iter-destination-iterator.ensures.into_iter_gives ∙ c.iter-destination-items.ensures.rest in
    rw (c.new-names.ensures.items, left) (names_of 0 c.args.slab.now.slots)

pub loop-destination-preserved : goal.loop-destination-preserved
loop-destination-preserved c =
    let before = c.loop-destination.names.items in
    let rest = names c.next.new.self in
    ap (λ l. l ++ rest) c.in_ok-push.ensures.items ∙ append_assoc before (c.in_ok-share.field-0 ∷ []) rest
    ∙ ap (λ n. before ++ n ∷ rest) c.in_ok-share.ensures ∙ ap (λ ps. before ++ names ps) (sym c.in-Some.ensures.steps)
    ∙ c.loop-destination.invariant

pub returns : goal.returns
returns c =
    sym (append-nil c.loop-destination.names.items)
    ∙ ap (λ ps. c.loop-destination.names.items ++ names ps) (sym c.in-None.ensures.steps.0)
    ∙ c.loop-destination.invariant

use Rattle.std.proofs.Common.{◌≡◌, ◌++◌, ◌∷◌, [], map, sym, ap, refl, ◌∙◌}
use Rattle.broker_index.specs.Index.{Subscriber, with_entry}
use Rattle.broker_index.specs.Aged.{are_before}
use Rattle.broker_index.proofs.Aged.{are_before-touch}
use Rattle.broker_index.proofs.Touching.{in_order-touch, in_order-untouched, rising-touch}
use Rattle.broker_index.proofs.subscribers.Subscribers.note.Goals as goal

pub invariant_of-self-in-Some : goal.invariant_of-self-in-Some
invariant_of-self-in-Some c =
    let found = c.in-Some.ensures.found in
    let same : c.index_mut.result.now ≡ found.0 = cc (c.index_mut.ensures.value, found.1) in
    let touched = in_order-touch (λ (s : Subscriber). s.age) (λ s. record s
    { entries = s.entries ++ c.args.entry ∷ [] }) (λ z. refl)
    c.self.inside.slab.slots c.in-Some.key c.args.age
    c.index_mut.result.now c.note.new.self c.index_mut.ensures.value (ap (λ (s : Subscriber). s.age) same ∙ found.2)
    c.in_ok-note-in-Some.ensures.ok c.self.invariant.0 in (
      rising-touch (λ (s : Subscriber). s.age) (λ s. record s { entries = s.entries ++ c.args.entry ∷ [] }) (λ z. refl)
          c.args.age _ _
          touched c.self.invariant.0,
      ap (are_before c.self.inside.next) touched ∙ are_before-touch c.self.inside.next c.args.age
          (λ s. record s { entries = s.entries ++ c.args.entry ∷ [] }) (λ z. refl) _ c.self.invariant.1,
    )

pub returns-in_ok-note-in-Some-clause-ok : goal.returns-in_ok-note-in-Some-clause-ok
returns-in_ok-note-in-Some-clause-ok c =
    let found = c.in-Some.ensures.found in
    let same : c.index_mut.result.now ≡ found.0 = cc (c.index_mut.ensures.value, found.1) in
    in_order-touch (λ (s : Subscriber). s.age) (λ s. record s { entries = s.entries ++ c.args.entry ∷ [] }) (λ z. refl)
    c.self.inside.slab.slots c.in-Some.key c.args.age
    c.index_mut.result.now c.note.new.self c.index_mut.ensures.value (ap (λ (s : Subscriber). s.age) same ∙ found.2)
    c.in_ok-note-in-Some.ensures.ok c.self.invariant.0
    ∙ ap (map (with_entry c.args.age c.args.entry)) c.self.view_is

pub returns-in-None-clause-ok : goal.returns-in-None-clause-ok
returns-in-None-clause-ok c =
    rw (← c.self.view_is)
    (sym (in_order-untouched (λ (s : Subscriber). s.age) (λ s. record s { entries = s.entries ++ c.args.entry ∷ [] })
    c.self.inside.slab.slots c.args.age c.in-None.ensures.absent))

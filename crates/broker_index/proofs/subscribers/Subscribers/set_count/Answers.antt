use Rattle.std.proofs.Common.{◌≡◌, map, sym, ap, refl, ◌∙◌}
use Rattle.broker_index.specs.Index.{Subscriber, with_count}
use Rattle.broker_index.specs.Aged.{are_before}
use Rattle.broker_index.proofs.Aged.{are_before-touch}
use Rattle.broker_index.proofs.Touching.{in_order-touch, in_order-untouched, rising-touch}
use Rattle.broker_index.proofs.subscribers.Subscribers.set_count.Goals as goal

pub invariant_of-self : goal.invariant_of-self
invariant_of-self c =
    let found = c.in-Some.ensures.found in
    let same : c.index_mut.result.now ≡ found.0 = cc (c.index_mut.ensures.value, found.1) in
    let touched = in_order-touch (λ (x : Subscriber). x.age) (λ s. record s { count = c.args.count }) (λ z. refl)
    c.self.inside.slab.slots
    c.in-Some.key c.args.age
    c.index_mut.result.now c.set_count.new.self c.index_mut.ensures.value
    (ap (λ (x : Subscriber). x.age) same ∙ found.2)
    c.set_count.ensures c.self.invariant.0 in (
      rising-touch (λ (x : Subscriber). x.age) (λ s. record s { count = c.args.count }) (λ z. refl) c.args.age _ _
          touched
          c.self.invariant.0,
      ap (are_before c.self.inside.next) touched
          ∙ are_before-touch c.self.inside.next c.args.age (λ s. record s { count = c.args.count })
          (λ z. refl) _ c.self.invariant.1,
    )

pub returns-in-Some : goal.returns-in-Some
returns-in-Some c =
    let found = c.in-Some.ensures.found in
    let same : c.index_mut.result.now ≡ found.0 = cc (c.index_mut.ensures.value, found.1) in
    in_order-touch (λ (x : Subscriber). x.age) (λ s. record s { count = c.args.count }) (λ z. refl)
    c.self.inside.slab.slots c.in-Some.key
    c.args.age
    c.index_mut.result.now c.set_count.new.self c.index_mut.ensures.value
    (ap (λ (x : Subscriber). x.age) same ∙ found.2)
    c.set_count.ensures c.self.invariant.0
    ∙ ap (map (with_count c.args.age c.args.count)) c.self.view_is

pub returns-in-None : goal.returns-in-None
returns-in-None c =
    rw (← c.self.view_is)
    (sym (in_order-untouched (λ (x : Subscriber). x.age) (λ s. record s { count = c.args.count })
    c.self.inside.slab.slots c.args.age
    c.in-None.ensures.absent))

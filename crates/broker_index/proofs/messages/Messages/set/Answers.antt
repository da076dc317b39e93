use Rattle.std.proofs.Common.{◌≡◌, ◌%◌, ◌^◌, ℕ, List, map, sym, ap, refl, ◌∙◌}
use Rattle.broker_index.specs.Held.{kept_octets, kept_out}
use Rattle.broker_index.specs.Index.{Kept, with_fate}
use Rattle.broker_index.specs.Slots.{in_order}
use Rattle.broker_index.specs.Standing.{fate_of}
use Rattle.broker_index.proofs.Counting.{held_set, out_set}
use Rattle.broker_index.proofs.Touching.{found_in_order, in_order-touch, in_order-untouched, rising-touch}
use Rattle.broker_index.proofs.messages.Messages.set.Goals as goal

pub invariant_of-self : goal.invariant_of-self
invariant_of-self c =
    let found = c.in-Some.ensures.found in
    let same : c.index_mut.result.now ≡ found.0 = cc (c.index_mut.ensures.value, found.1) in
    let touched = in_order-touch (λ (x : Kept). x.number) (λ k. record k { fate = fate_of c.args.standing }) (λ z. refl)
    c.self.inside.slab.slots c.in-Some.key c.args.number
    c.index_mut.result.now c.set_standing-self-inside.new.self c.index_mut.ensures.value
    (ap (λ (x : Kept). x.number) same ∙ found.2)
    c.set_standing-self-inside.ensures.set c.self.invariant.rising in
    let before = in_order (λ (x : Kept). x.number) c.self.inside.slab.slots in
    record {
      rising = rising-touch (λ (x : Kept). x.number) (λ k. record k { fate = fate_of c.args.standing }) (λ z. refl)
          c.args.number _ _ touched c.self.invariant.rising;
      counted = c.self.invariant.counted
          ∙ ap (λ (n : ℕ). n % 2 ^ 64)
          (sym (ap kept_octets touched ∙ held_set c.args.number (fate_of c.args.standing) before));
      delivered = c.set_standing-self-inside.ensures.out
          ∙ out_set c.args.number (fate_of c.args.standing) before c.index_mut.result.now c.self.inside.out
          c.self.invariant.rising
          (found_in_order (λ (x : Kept). x.number) c.self.inside.slab.slots c.in-Some.key c.args.number
          c.index_mut.result.now c.index_mut.ensures.value (ap (λ (x : Kept). x.number) same ∙ found.2)
          c.self.invariant.rising)
          c.self.invariant.delivered
          ∙ ap (λ (ks : List Kept). kept_out ks % 2 ^ 64) (sym touched);
    }

pub returns-in-Some : goal.returns-in-Some
returns-in-Some c =
    let found = c.in-Some.ensures.found in
    let same : c.index_mut.result.now ≡ found.0 = cc (c.index_mut.ensures.value, found.1) in
    in_order-touch (λ (x : Kept). x.number) (λ k. record k { fate = fate_of c.args.standing }) (λ z. refl)
    c.self.inside.slab.slots
    c.in-Some.key c.args.number
    c.index_mut.result.now c.set_standing-self-inside.new.self c.index_mut.ensures.value
    (ap (λ (x : Kept). x.number) same ∙ found.2)
    c.set_standing-self-inside.ensures.set c.self.invariant.rising
    ∙ ap (map (with_fate c.args.number (fate_of c.args.standing))) c.self.view_is

pub returns-in-None : goal.returns-in-None
returns-in-None c =
    rw (← c.self.view_is)
    (sym (in_order-untouched (λ (x : Kept). x.number) (λ k. record k { fate = fate_of c.args.standing })
    c.self.inside.slab.slots
    c.args.number c.in-None.ensures.absent))

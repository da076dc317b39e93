use Rattle.std.proofs.Common.{◌≢◌, ℕ, List, Some, sym, ap, ◌∙◌}
use Rattle.std.specs.BTreeMap.{get_by_text}
use Rattle.std.specs.String.{string_bytes}
use Rattle.slab.specs.Slab.{Slab}
use Rattle.broker_index.specs.Index.{queue_at}
use Rattle.broker_index.specs.declared.destinations.Destination.{Destination}
use Rattle.broker_index.proofs.Named.{Sets-added, absent, added_found, added_led, leads_still, leads_there}
use Rattle.broker_index.proofs.destinations.Destinations.add.Goals as goal

pub invariant_of-self-2 : goal.invariant_of-self-2
invariant_of-self-2 c =
    let slots = ap (λ (s : Slab Destination). s.slots) c.in_ok-reserve.ensures.rest_kept in
    let none = absent c.self.inside.slab c.self.inside.keys c.self.invariant.found c.args.name.now
    (ap (λ qs. queue_at qs c.args.name.now) c.self.view_is ∙ c.requires) in
    let bytes = c.in_ok-text.ensures.ok ∙ c.as_str.ensures in
    let slot = c.insert_reserved-self-inside in
    let d : Destination = record { name = c.in_ok-shared.shared; queue = c.new-2.result } in
    let there = ap (λ n. get_by_text c.insert.new.self n) (sym bytes)
    ∙ leads_there (string_bytes c.in_ok-text.text) c.self.inside.keys c.insert.new.self (Some c.vacant_key.result)
    c.in_ok-insert.ensures.updates ∙ ap (λ (k : ℕ). Some k) (sym (slot.ensures.key ∙ sym c.vacant_key.ensures.value)) in
    let others = λ (other : List ℕ) (differs : other ≢ c.args.name.now). leads_still (string_bytes c.in_ok-text.text)
    c.self.inside.keys
    c.insert.new.self (Some c.vacant_key.result) c.in_ok-insert.ensures.updates other (λ same. differs (same ∙ bytes))
    in
    record {
      found = added_found c.reserve.new.self slot.new.self c.self.inside.keys c.insert.new.self
          (rw slots c.self.invariant.found)
          slot.result c.args.name.now d slot.ensures.updates (c.in_ok-shared.ensures.ok ∙ c.in_ok-copy.ensures) (rw slots none) there others;
      led = added_led c.reserve.new.self slot.new.self c.self.inside.keys c.insert.new.self
          (rw slots c.self.invariant.found)
          slot.result c.args.name.now d slot.ensures.updates (c.in_ok-shared.ensures.ok ∙ c.in_ok-copy.ensures) slot.ensures.was_vacant
          (rw slots c.self.invariant.led) there others;
    }

pub returns-clause-ok : goal.returns-clause-ok
returns-clause-ok c =
    let slots = ap (λ (s : Slab Destination). s.slots) c.in_ok-reserve.ensures.rest_kept in
    let none = absent c.self.inside.slab c.self.inside.keys c.self.invariant.found c.args.name.now
    (ap (λ qs. queue_at qs c.args.name.now) c.self.view_is ∙ c.requires) in
    let sets = Sets-added c.reserve.new.self c.insert_reserved-self-inside.new.self c.self.inside.keys c.insert.new.self
    (rw slots c.self.invariant.found) c.insert_reserved-self-inside.result c.args.name.now
    (record { name = c.in_ok-shared.shared; queue = c.new-2.result }) c.insert_reserved-self-inside.ensures.updates
    (c.in_ok-shared.ensures.ok ∙ c.in_ok-copy.ensures)
    (rw slots none) c.insert_reserved-self-inside.ensures.was_vacant (invariant_of-self-2 c).found c.new-2.ensures in
    rw (← c.self.view_is) (rw slots at sets)

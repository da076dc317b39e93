use Rattle.std.proofs.Common.{◌≡◌, ◌≢◌, ℕ, List, sym, ap, ◌∙◌, None}
use Rattle.std.specs.BTreeMap.{get_by_text}
use Rattle.broker_index.specs.Index.{is_idle}
use Rattle.broker_index.specs.declared.destinations.Destination.{Destination}
use Rattle.broker_index.proofs.Named.{Sets-busy, Sets-removed, leads_still, leads_there, removed_found}
use Rattle.broker_index.proofs.Named.{removed_led}
use Rattle.broker_index.proofs.destinations.close_at.Goals as goal

pub returns-then-is_idle-clause-indexed : goal.returns-then-is_idle-clause-indexed
returns-then-is_idle-clause-indexed c =
    let found = c.requires.there in
    let keys = c.args.keys.now in
    let now = c.remove.new.self in
    let gone = ap (λ n. get_by_text now n) (sym c.as_str.ensures)
    ∙ leads_there c.as_str.result.now keys now None c.remove.ensures.updates in
    let others = λ (other : List ℕ) (differs : other ≢ c.args.name.now). leads_still c.as_str.result.now keys now None
    c.remove.ensures.updates other (λ same. differs (same ∙ c.as_str.ensures)) in
    record {
      found = removed_found c.args.slab.now c.try_remove.new.self keys now c.requires.indexed.found c.args.key
          c.args.name.now
          found.0 found.1 found.2 c.try_remove.ensures.updates others;
      led = removed_led c.args.slab.now c.try_remove.new.self keys now c.requires.indexed.found c.args.key
          c.args.name.now
          found.0 found.1 found.2 c.try_remove.ensures.updates c.requires.indexed.led gone others;
    }

pub returns-then-is_idle-clause-closed : goal.returns-then-is_idle-clause-closed
returns-then-is_idle-clause-closed c =
    let found = c.requires.there in
    let same : c.index.result.now ≡ found.0 = cc (c.index.ensures, found.1) in
    Sets-removed c.args.slab.now c.try_remove.new.self c.args.keys.now c.remove.new.self c.requires.indexed.found
    c.args.key c.args.name.now found.0 found.1 found.2 c.try_remove.ensures.updates
    (ap (λ (d : Destination). is_idle d.queue) (sym same) ∙ sym c.is_idle.ensures ∙ c.if-is_idle.true)
    (returns-then-is_idle-clause-indexed c).found

pub returns-else-is_idle-clause-closed : goal.returns-else-is_idle-clause-closed
returns-else-is_idle-clause-closed c =
    let found = c.requires.there in
    let same : c.index.result.now ≡ found.0 = cc (c.index.ensures, found.1) in
    Sets-busy c.args.slab.now c.args.keys.now c.requires.indexed.found c.args.key c.args.name.now found.0 found.1
    found.2 (ap (λ (d : Destination). is_idle d.queue) (sym same) ∙ sym c.is_idle.ensures ∙ c.if-is_idle.false)

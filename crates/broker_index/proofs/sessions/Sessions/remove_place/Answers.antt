use Rattle.std.proofs.Common.{◌≡◌, Some, None, is_some, sym, ap, rules, ◌∙◌}
use Rattle.std.proofs.lemmas.Fn.{filter_same}
use Rattle.broker_index.specs.Index.{without}
use Rattle.broker_index.proofs.Named.{Sets-again, Sets-like, Sets-same}
use Rattle.broker_index.proofs.Numbered.{items_of, list_in, lookup-listed, Sets-listed}
use Rattle.broker_index.proofs.Numbered.{empty_from, filled_from, none_empty-updated, none_empty-written}
use Rattle.broker_index.proofs.sessions.Sessions.remove_place.Goals as goal

pub invariant_of-self-then-is_empty : goal.invariant_of-self-then-is_empty
invariant_of-self-then-is_empty c =
    let first = (c.get_mut.follows.holds c.retain.new.self).3 (ap is_some (sym c.in-Some.ensures.value)) in
    none_empty-updated c.args.session c.self.inside.places (c.get_mut.follows.lender c.retain.new.self)
    c.remove.new.self None first.2 c.remove.ensures.updates
    (λ v never. absurd (cc)) c.self.invariant

pub invariant_of-self-else-is_empty : goal.invariant_of-self-else-is_empty
invariant_of-self-else-is_empty c =
    none_empty-written c.args.session c.self.inside.places (c.get_mut.follows.lender c.retain.new.self)
    c.retain.new.self
    ((c.get_mut.follows.holds c.retain.new.self).3 (ap is_some (sym c.in-Some.ensures.value)))
    (filled_from c.retain.new.self (sym c.is_empty.ensures ∙ c.if-is_empty.false))
    c.self.invariant

pub returns-then-is_empty : goal.returns-then-is_empty
returns-then-is_empty c =
    let kept : c.retain.new.self.items ≡ without c.args.age c.in-Some.places.now.items =
    filter_same _ _ _ (λ x b f' k. search rules) _
    _ c.retain.ensures.filtered in
    let first = Sets-listed items_of c.args.session c.self.inside.places (c.get_mut.follows.lender c.retain.new.self)
    (Some c.retain.new.self)
    ((c.get_mut.follows.holds c.retain.new.self).3 (ap is_some (sym c.in-Some.ensures.value))) in
    let later = Sets-listed items_of c.args.session (c.get_mut.follows.lender c.retain.new.self) c.remove.new.self None
    c.remove.ensures.updates in
    rw (← c.self.view_is)
    (Sets-like _ _ c.args.session _ _ (Sets-again _ _ _ c.args.session _ _ first later)
    (sym (empty_from c.retain.new.self (sym c.is_empty.ensures ∙ c.if-is_empty.true)) ∙ kept
    ∙ ap (without c.args.age) (ap (list_in items_of) c.in-Some.ensures.value
    ∙ sym (lookup-listed items_of c.args.session c.self.inside.places.entries))))

pub returns-else-is_empty : goal.returns-else-is_empty
returns-else-is_empty c =
    let left : c.retain.new.self.items ≡ without c.args.age c.in-Some.places.now.items =
    filter_same _ _ _ (λ x b f' k. search rules) _ _ c.retain.ensures.filtered in
    rw (← c.self.view_is)
    (Sets-like _ _ c.args.session _ _
    (Sets-listed items_of c.args.session c.self.inside.places (c.get_mut.follows.lender c.retain.new.self)
    (Some c.retain.new.self)
    ((c.get_mut.follows.holds c.retain.new.self).3 (ap is_some (sym c.in-Some.ensures.value))))
    (left ∙ ap (without c.args.age) (ap (list_in items_of) c.in-Some.ensures.value
    ∙ sym (lookup-listed items_of c.args.session c.self.inside.places.entries))))

pub returns-in_default : goal.returns-in_default
returns-in_default c =
    let none = ap (list_in items_of) c.in_default.ensures.value
    ∙ sym (lookup-listed items_of c.args.session c.self.inside.places.entries) in
    rw (c.get_mut.follows.holds-at-none, ← c.self.view_is)
    (Sets-same _ c.args.session _ (sym none ∙ ap (without c.args.age) none))

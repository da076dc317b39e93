use Rattle.std.proofs.Common.{◌≡◌, ◌++◌, ◌∷◌, [], eqb, Some, None, sym, ap, subst, ◌∙◌}
use Rattle.std.specs.Option.{unwrap_or}
use Rattle.std.specs.Map.{lookup}
use Rattle.broker_index.proofs.Named.{Sets-like}
use Rattle.broker_index.proofs.Numbered.{items_of, Sets-listed, filled_by, none_empty-same, none_empty-written}
use Rattle.broker_index.proofs.sessions.Sessions.push_first.Goals as goal

pub invariant_of-self : goal.invariant_of-self
invariant_of-self c =
    none_empty-same c.self.inside.places c.insert.new.self c.in_err-insert.ensures.err c.self.invariant

pub invariant_of-self-2 : goal.invariant_of-self-2
invariant_of-self-2 c =
    none_empty-written c.args.session c.self.inside.places c.insert.new.self c.push.new.self
    c.in_ok-insert.ensures.updates
    (λ empty. filled_by c.new-places.result.items c.args.place (sym c.in_ok-push.ensures.items ∙ empty))
    c.self.invariant

pub returns-clause-ok : goal.returns-clause-ok
returns-clause-ok c =
    let none = subst (λ ss. lookup (λ s. eqb c.args.session s) ss ≡ None) (sym c.self.view_is) c.requires in
    rw (← c.self.view_is)
    (Sets-like _ _ c.args.session _ _
    (Sets-listed items_of c.args.session c.self.inside.places c.insert.new.self (Some c.push.new.self)
    c.in_ok-insert.ensures.updates)
    (c.in_ok-push.ensures.items ∙ ap (λ l. l ++ c.args.place ∷ []) (c.new-places.ensures.items
    ∙ sym (ap (λ o. unwrap_or o []) none))))

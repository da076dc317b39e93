use Rattle.std.proofs.Common.{◌≡◌, ◌++◌, ◌∷◌, [], true, eqb, Some, is_some, sym, ap, subst, ◌∙◌, true≢false}
use Rattle.std.specs.Map.{lookup}
use Rattle.broker_index.proofs.Named.{Sets-like}
use Rattle.broker_index.proofs.Numbered.{items_of, list_in, listed, listed-set_value, lookup-listed, is_some-listed}
use Rattle.broker_index.proofs.Numbered.{on_err, Sets-listed, filled_by, none_empty-written}
use Rattle.broker_index.proofs.sessions.Sessions.push_more.Goals as goal
use Rattle.broker_index.proofs.sessions.Sessions.push_more.Goals.{in-Some+in_ok-push-in-Some, in-None}

pub invariant_of-self : goal.invariant_of-self
invariant_of-self c =
    none_empty-written c.args.session c.self.inside.places (c.get_mut.follows.lender c.push.new.self) c.push.new.self
    ((c.get_mut.follows.holds c.push.new.self).3 (ap is_some (sym c.in-Some.ensures.value)))
    (λ empty. c.self.invariant c.args.session c.in-Some.places.now (sym c.in-Some.ensures.value)
    (sym c.in_err-push-in-Some.ensures.items ∙ empty))
    c.self.invariant

pub invariant_of-self-2 : goal.invariant_of-self-2
invariant_of-self-2 c = elim c.match-get_mut.branch [
  | in-Some+in_ok-push-in-Some w ↦
      rw w.self-inside-is
      (none_empty-written c.args.session c.self.inside.places (c.get_mut.follows.lender w.push.new.self) w.push.new.self
      ((c.get_mut.follows.holds w.push.new.self).3 (ap is_some (sym w.in-Some.ensures.value)))
      (λ empty. filled_by w.in-Some.places.now.items c.args.place (sym w.in_ok-push-in-Some.ensures.items ∙ empty))
      c.self.invariant)
  | in-None w ↦ rw (w.self-inside-is, c.get_mut.follows.holds-at-none) c.self.invariant
]

pub returns-in_err-push-in-Some-clause-err : goal.returns-in_err-push-in-Some-clause-err
returns-in_err-push-in-Some-clause-err c =
    on_err c.from_residual.result _
    (ap (listed items_of) (c.get_mut.follows.holds c.push.new.self).0
    ∙ listed-set_value items_of c.args.session c.self.inside.places.entries c.in-Some.places.now c.push.new.self
    (sym c.in-Some.ensures.value) c.in_err-push-in-Some.ensures.items
    ∙ c.self.view_is)

pub returns-clause-ok : goal.returns-clause-ok
returns-clause-ok c = elim c.match-get_mut.branch [
  | in-Some+in_ok-push-in-Some w ↦
      rw (w.result-is, w.self-inside-is, ← c.self.view_is)
      (Sets-like _ _ c.args.session _ _
      (Sets-listed items_of c.args.session c.self.inside.places (c.get_mut.follows.lender w.push.new.self)
      (Some w.push.new.self)
      ((c.get_mut.follows.holds w.push.new.self).3 (ap is_some (sym w.in-Some.ensures.value))))
      (w.in_ok-push-in-Some.ensures.items
      ∙ ap (λ l. l ++ c.args.place ∷ []) (ap (list_in items_of) w.in-Some.ensures.value
      ∙ sym (lookup-listed items_of c.args.session c.self.inside.places.entries))))
  | in-None w ↦
      let known =
      subst (λ ss. is_some (lookup (λ s. eqb c.args.session s) ss) ≡ true) (sym c.self.view_is) c.requires in
      absurd (true≢false (sym known ∙ is_some-listed items_of c.args.session c.self.inside.places.entries
      ∙ ap is_some (sym w.in-None.ensures.value)))
]

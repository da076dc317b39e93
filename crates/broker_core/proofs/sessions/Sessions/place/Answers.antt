use Rattle.std.proofs.Common.{sym, rules}
use Rattle.std.proofs.lemmas.List.Sorted.{answers_always}
use Rattle.broker_core.specs.declared.session.Session.{Session}
use Rattle.broker_core.proofs.Rising.{searched, stands}
use Rattle.broker_core.proofs.sessions.Sessions.place.Goals as goal

pub returns : goal.returns
returns c =
    let facts = c.binary_search_by_key.ensures in
    let by_key = facts.position (λ (s : Session). s.number) (answers_always _ _ _ (λ f a r g called. search rules)) in
    rw (← c.self.view_is, ← c.deref-2.ensures.value)
    (searched c.args.number 0 c.self.inside.opened c.deref-2.result.now (rw c.deref-2.ensures.value c.self.invariant)
    c.binary_search_by_key.result
    facts.bound by_key c.ok.result (sym c.ok.ensures.value))

pub returns-then-is_at : goal.returns-then-is_at
returns-then-is_at c =
    let it = rw c.deref.ensures.value at (c.is_at.ensures c.if-is_at.true) in
    rw (← c.self.view_is)
    (stands c.args.number c.self.inside.opened c.self.inside.items.items c.self.invariant c.self.inside.last it.0 it.1
    it.2)

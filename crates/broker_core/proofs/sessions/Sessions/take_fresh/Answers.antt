use Rattle.std.proofs.Common.{refl, ap, subst}
use Rattle.std.specs.Prelude.{slice_set}
use Rattle.broker_core.specs.Parts.Rising.{FreshPlace}
use Rattle.broker_core.specs.declared.session.Session.{Session}
use Rattle.broker_core.proofs.Places.{got_at}
use Rattle.broker_core.proofs.Rising.{got_within, kept_at, names_fresh}
use Rattle.broker_core.proofs.sessions.Sessions.take_fresh.Goals as goal

pub invariant_of-self : goal.invariant_of-self
invariant_of-self c =
    let items = c.self.inside.items.items in
    let at = c.in-Some.at in
    let s = c.index_mut.result.now in
    let place = subst (FreshPlace items) c.in-Some.is
    (subst (λ l. FreshPlace l c.fresh_place.result) c.as_slice.ensures.value c.fresh_place.ensures) in
    kept_at c.self.inside.opened items (slice_set items at c.name.new.self) at s c.name.new.self c.self.invariant
    (got_at items at s (got_within items at place.0 place.1) c.index_mut.ensures.value) refl
    (ap (λ (x : Session). x.number) c.name.ensures.named)

pub returns-in-Some : goal.returns-in-Some
returns-in-Some c =
    let items = c.self.inside.items.items in
    let at = c.in-Some.at in
    let s = c.index_mut.result.now in
    let place = subst (FreshPlace items) c.in-Some.is
    (subst (λ l. FreshPlace l c.fresh_place.result) c.as_slice.ensures.value c.fresh_place.ensures) in
    λ book. rw (← c.self.view_is)
    (names_fresh book items (slice_set items at c.name.new.self) c.self.inside.opened at c.name.result s
    c.self.invariant place (got_at items at s (got_within items at place.0 place.1) c.index_mut.ensures.value)
    (ap (λ y. slice_set items at y) c.name.ensures.named) c.name.ensures.number)

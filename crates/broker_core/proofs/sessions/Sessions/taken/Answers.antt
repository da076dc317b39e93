use Rattle.std.proofs.Common.{◌≡◌, refl, ap}
use Rattle.std.specs.Prelude.{slice_set}
use Rattle.broker_core.specs.Calls.{without_first}
use Rattle.broker_core.specs.declared.session.Session.{Session}
use Rattle.broker_core.proofs.Places.{got_at, written_at}
use Rattle.broker_core.proofs.Rising.{kept_at}
use Rattle.broker_core.proofs.sessions.Sessions.taken.Goals as goal

pub invariant_of-self : goal.invariant_of-self
invariant_of-self c =
    let items = c.self.inside.items.items in
    let s = c.index_mut.result.now in
    let t : Session = record s { out = c.taken.new.self } in
    let first = rw (← c.self.view_is) at c.in-Some.ensures in
    kept_at c.self.inside.opened items (slice_set items c.in-Some.at t) c.in-Some.at s t c.self.invariant
    (got_at items c.in-Some.at s first.within c.index_mut.ensures.value) refl refl

pub returns-in-Some : goal.returns-in-Some
returns-in-Some c =
    let items = c.self.inside.items.items in
    let s = c.index_mut.result.now in
    let t : Session = record s { out = c.taken.new.self } in
    let taken : t ≡ without_first c.args.count s = ap (λ o. record s { out = o }) c.taken.ensures in
    let first = rw (← c.self.view_is) at c.in-Some.ensures in
    rw (← c.self.view_is)
    (written_at c.args.number items (slice_set items c.in-Some.at t) c.self.inside.opened c.in-Some.at s
    (without_first c.args.count) first (got_at items c.in-Some.at s first.within c.index_mut.ensures.value)
    (ap (λ y. slice_set items c.in-Some.at y) taken))

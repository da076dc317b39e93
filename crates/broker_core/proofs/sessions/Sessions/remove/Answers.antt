use Rattle.std.proofs.Common.{◌≡◌, ◌∙◌, refl}
use Rattle.broker_core.specs.Calls.{others}
use Rattle.broker_core.proofs.Rising.{removed, rising_others}
use Rattle.broker_core.proofs.Standing.{stands_first}
use Rattle.broker_core.proofs.sessions.Sessions.remove.Goals as goal

pub invariant_of-self : goal.invariant_of-self
invariant_of-self g c =
    let items = c.self.inside.items.items in
    let it = stands_first c.args.number items c.in-Some.at (rw (← c.self.view_is) at c.in-Some.ensures) in
    rw (c.remove.ensures.items ∙ removed c.args.number 0 c.self.inside.opened items c.in-Some.at it.0 c.self.invariant
    it.1 it.2)
    (rising_others c.args.number 0 c.self.inside.opened items c.self.invariant)

pub returns-in-Some : goal.returns-in-Some
returns-in-Some g c =
    let items = c.self.inside.items.items in
    let first = rw (← c.self.view_is) at c.in-Some.ensures in
    let it = stands_first c.args.number items c.in-Some.at first in
    let gone : c.remove.new.self.items ≡ others c.args.number items =
    c.remove.ensures.items ∙ removed c.args.number 0 c.self.inside.opened items c.in-Some.at it.0 c.self.invariant it.1
    it.2 in
    rw (← c.self.view_is) (rw (gone, c.end.ensures, first.found) refl)

use Rattle.std.proofs.Common.{refl}
use Rattle.std.specs.Prelude.{slice_set}
use Rattle.broker_core.specs.Serving.{part}
use Rattle.broker_core.proofs.Places.{got_at, stepped_at, turn_number}
use Rattle.broker_core.proofs.Rising.{kept_at, stands}
use Rattle.broker_core.proofs.sessions.Sessions.turn.Goals as goal

pub invariant_of-self : goal.invariant_of-self
invariant_of-self g c =
    let items = c.self.inside.items.items in
    let s = c.index_mut.result.now in
    let t = c.turn-done.new.self in
    kept_at c.self.inside.opened items (slice_set items c.args.at t) c.args.at s t c.self.invariant
    (got_at items c.args.at s (rw (← c.self.view_is) at c.requires) c.index_mut.ensures.value) refl
    (turn_number g.row.FULL (part c.args.queues.now s) (part c.turn-done.new.queues t) c.turn-done.result
    c.turn-done.ensures)

pub returns : goal.returns
returns g c = λ n stands_there.
    let items = c.self.inside.items.items in
    let s = c.index_mut.result.now in
    let t = c.turn-done.new.self in
    let there = rw (← c.self.view_is) at stands_there in
    rw (← c.self.view_is)
    (stepped_at g.row.FULL n c.args.queues.now c.turn-done.new.queues items (slice_set items c.args.at t)
    c.self.inside.opened c.args.at s t
    (stands n c.self.inside.opened items c.self.invariant c.args.at there.0 there.1 there.2)
    (got_at items c.args.at s (rw (← c.self.view_is) at c.requires) c.index_mut.ensures.value) refl
    c.turn-done.result c.turn-done.ensures)

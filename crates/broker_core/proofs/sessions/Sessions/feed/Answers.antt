use Rattle.std.proofs.Common.{refl}
use Rattle.std.specs.Prelude.{slice_set}
use Rattle.broker_core.proofs.Places.{begun_so, got_at}
use Rattle.broker_core.proofs.Rising.{kept_at, piece_number, stands}
use Rattle.broker_core.proofs.sessions.Sessions.feed.Goals as goal

pub invariant_of-self : goal.invariant_of-self
invariant_of-self c =
    let items = c.self.inside.items.items in
    let s = c.index_mut.result.now in
    kept_at c.self.inside.opened items (slice_set items c.args.at c.feed.new.self) c.args.at s c.feed.new.self
    c.self.invariant (got_at items c.args.at s (rw (← c.self.view_is) at c.requires) c.index_mut.ensures.value) refl
    (piece_number c.args.piece.now s c.feed.new.self c.feed.result c.feed.ensures.took)

pub returns : goal.returns
returns c = λ n book stands_there.
    let items = c.self.inside.items.items in
    let s = c.index_mut.result.now in
    let there = rw (← c.self.view_is) at stands_there in
    rw (← c.self.view_is)
    (begun_so n c.args.piece.now book items (slice_set items c.args.at c.feed.new.self) c.self.inside.opened c.args.at s
    c.feed.new.self (stands n c.self.inside.opened items c.self.invariant c.args.at there.0 there.1 there.2)
    (got_at items c.args.at s (rw (← c.self.view_is) at c.requires) c.index_mut.ensures.value) refl c.feed.result
    c.feed.ensures.took c.feed.ensures.bound)

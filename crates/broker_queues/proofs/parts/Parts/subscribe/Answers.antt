use Rattle.broker_index.specs.Index.{queue_at}
use Rattle.broker_queues.specs.Parts.Held.{holding_of}
use Rattle.broker_queues.specs.Parts.Facts.{queue_of}
use Rattle.broker_queues.proofs.Attaching.{goes_again, joined, listeners_lower, not_joined, tidy_same}
use Rattle.broker_queues.proofs.Listing.{all_below}
use Rattle.broker_queues.proofs.parts.Parts.subscribe.Goals as goal

pub attach-requires : goal.attach-requires
attach-requires c =
    all_below c.in_ok-place.place.number (queue_of (queue_at c.args.self.now.destinations)
    c.get-name.result.now).subscribers
    (λ a listed. listeners_lower (holding_of c.args.self.now) c.requires.sound c.in_ok-place.place.number
    c.in_ok-place.ensures.youngest
    c.get-name.result.now a listed)

pub returns-in_err-place-clause-joins : goal.returns-in_err-place-clause-joins
returns-in_err-place-clause-joins c =
    rw (c.make_room.ensures.names, c.make_room.ensures.all)
    (not_joined (holding_of c.args.self.now) _ c.args.subscription.now c.from_residual-in_err-place.result
    c.from_residual-in_err-place.ensures.0
    (tidy_same (holding_of c.args.self.now) c.requires.sound c.push.new.self c.in_err-place.ensures.err))

pub returns-in-Ok-clause-joins : goal.returns-in-Ok-clause-joins
returns-in-Ok-clause-joins c =
    joined (holding_of c.args.self.now) (holding_of c.attach.new.self) c.requires.sound c.args.subscription.now
    c.in_ok-place.place
    c.push.new.self c.in_ok-place.ensures.ok c.in_ok-place.ensures.youngest c.requires.free
    (rw (c.get-name.ensures, c.make_room.ensures.names, c.make_room.ensures.all) at c.in-Ok.ensures)

pub returns-in-Err-clause-joins : goal.returns-in-Err-clause-joins
returns-in-Err-clause-joins c =
    goes_again (holding_of c.args.self.now) (holding_of c.attach.new.self) c.requires.sound c.args.subscription.now
    c.in_ok-place.place
    c.push.new.self c.remove.new.self c.in_ok-place.ensures.ok c.in_ok-place.ensures.youngest c.in-Err.ensures.0
    (rw (c.make_room.ensures.names, c.make_room.ensures.all) at c.in-Err.ensures.1)
    c.remove.ensures

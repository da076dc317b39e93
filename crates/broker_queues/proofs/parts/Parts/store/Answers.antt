use Rattle.std.proofs.Common.{◌+◌, ◌∙◌, ap, arith, refl}
use Rattle.std.specs.Prelude.{filter, not, ◌==◌}
use Rattle.broker_index.specs.Index.{queue_at}
use Rattle.broker_index.specs.declared.places.KeyedPlace.{KeyedPlace}
use Rattle.broker_queues.specs.Parts.Held.{holding_of}
use Rattle.broker_queues.specs.Parts.Facts.{queue_of}
use Rattle.broker_queues.specs.Parts.Storing.{Becomes, adding}
use Rattle.broker_queues.specs.Parts.Queues.{awake_in}
use Rattle.broker_queues.specs.Parts.Whole.{Holding}
use Rattle.broker_queues.proofs.Accepting.{all_earlier, taken_out}
use Rattle.broker_queues.proofs.Adding.{lists_only, shut, stored, told_low}
use Rattle.broker_queues.proofs.Listing.{all_below}
use Rattle.broker_queues.proofs.parts.Parts.store.Goals as goal

pub push-requires : goal.push-requires
push-requires c = all_earlier (holding_of c.args.self.now) c.requires.sound

pub add_number-requires-clause-above : goal.add_number-requires-clause-above
add_number-requires-clause-above c =
    all_below (c.args.self.now.last + 1) (queue_of (queue_at c.args.self.now.destinations)
    c.get.result.now.destination).numbers
    (λ m listed. omega (arith, c.requires.sound.listed_last c.get.result.now.destination m listed))

pub add_number-requires-clause-told : goal.add_number-requires-clause-told
add_number-requires-clause-told c = rw c.get.ensures c.requires.told

pub look_from_told-requires : goal.look_from_told-requires
look_from_told-requires c low =
    told_low (queue_at c.args.self.now.destinations) (queue_at c.add_number.new.destinations) c.get.result.now.destination
    (record { number = c.args.self.now.last + 1; key = c.in_ok-key.key }) (c.args.self.now.last + 1) c.args.told
    (rw c.get.ensures c.requires.told) c.in-Ok.ensures.ok low

pub returns-in-Ok : goal.returns-in-Ok
returns-in-Ok c =
    let h = holding_of c.args.self.now in
    let place : KeyedPlace = record { number = c.args.self.now.last + 1; key = c.in_ok-key.key } in
    let q = queue_at c.add_number.new.destinations in
    let i : Holding = record h {
      kept = c.push.new.self;
      queues = queue_at c.look_from_told.new.destinations;
      awake = awake_in c.wake.new.self.all c.wake.new.self.names.items;
      last = c.args.self.now.last + 1;
    } in
    let b : Becomes (adding place) h.queues q c.args.sent.now.destination = rw c.get.ensures at c.in-Ok.ensures.ok in
    let l = rw c.get.ensures at c.look_from_told.ensures in
    let wakes = rw (c.make_room.ensures.names, c.make_room.ensures.all) at c.wake.ensures.wakes in
    let awake = rw c.get.ensures at c.wake.ensures.awake in (
      stored h c.requires.sound c.args.sent.now place q i refl b l c.in_ok-key.ensures.ok refl refl refl refl
          wakes awake,
      lists_only h c.requires.sound c.args.sent.now place q i refl b l,
    )

pub returns-in-Err : goal.returns-in-Err
returns-in-Err c =
    rw (c.make_room.ensures.names, c.make_room.ensures.all)
    (shut (holding_of c.args.self.now) c.requires.sound _ c.in-Err.ensures.err
    (c.remove.ensures ∙ ap (λ kept. filter (λ k. not (k.number == c.args.self.now.last + 1)) kept)
    c.in_ok-key.ensures.ok
    ∙ taken_out (holding_of c.args.self.now) c.requires.sound (c.args.self.now.last + 1) c.args.sent.now refl)
    refl refl refl refl refl)

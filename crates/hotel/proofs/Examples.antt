-- Examples: what a room does with commands and messages, and rooms that aren't this order's.
use Rattle.std.proofs.Common.{◌≡◌, [], ◌∷◌, true, false, refl}
use Rattle.std.specs.Prelude.{codes, Ok, Err}
use Rattle.base.specs.Entity.{Entity, order_of}
use Rattle.base.specs.Order.{same_entity}
use Rattle.envelope.specs.declared.message.Message.TheVariants.{Request, Tentative, Refused, Confirm, Cancel}
use Rattle.activities.specs.declared.handler.Refusal.TheVariants.{Own}
use Rattle.activities.specs.declared.input.Input.TheVariants.{FromSeat, FromEntity}
use Rattle.activities.specs.OwnRefusals.{own}
use Rattle.activities.specs.Reaction.{react, state, sent}
use Rattle.hotel.specs.declared.room.Room.TheVariants.{Free, Taken, Promised}
use Rattle.hotel.specs.declared.room.RoomCommand.TheVariants.{Reserve, Release}
use Rattle.hotel.specs.Rooms.{is_free, is_promised, on_room_command, on_room_message, room_reactions}

abbrev o1 : Entity
o1 = order_of (codes "o1")

abbrev o2 : Entity
o2 = order_of (codes "o2")

-- a promised room isn't free, and is promised to one order alone
rooms_are_told_apart : (is_free Free ≡ true) × (is_free Taken ≡ false) × (is_free (Promised o1) ≡ false)
    × (is_promised (Promised o1) o1 ≡ true) × (is_promised (Promised o1) o2 ≡ false) × (is_promised Taken o1 ≡ false)
    × (is_promised Free o1 ≡ false)
unfolding same_entity
rooms_are_told_apart = (refl, refl, refl, refl, refl, refl, refl)

-- a guest takes a free room and leaves it; the desk doesn't give away a promised room, nor end a promise
the_desk_asks : (on_room_command Free Reserve ≡ Ok (Taken, [])) × (on_room_command Taken Release ≡ Ok (Free, []))
    × (on_room_command Taken Reserve ≡ Err (Own (own 75))) × (on_room_command Free Release ≡ Err (Own (own 76)))
    × (on_room_command (Promised o1) Reserve ≡ Err (Own (own 75))) × (on_room_command (Promised o1) Release ≡ Err (Own (own 76)))
the_desk_asks = (refl, refl, refl, refl, refl, refl)

-- two guests find beds and three don't; a promised room is refused, also to the order that has it
an_order_asks : (on_room_message Free o1 (Request 2) ≡ (
  Promised o1,
  record { receiver = o1; message = Tentative } ∷ [],
))
    × (on_room_message Free o1 (Request 3) ≡ (Free, record { receiver = o1; message = Refused } ∷ []))
    × (on_room_message (Promised o1) o2 (Request 1) ≡ (Promised o1, record { receiver = o2; message = Refused } ∷ []))
    × (on_room_message (Promised o1) o1 (Request 1) ≡ (Promised o1, record { receiver = o1; message = Refused } ∷ []))
    × (on_room_message Taken o1 (Request 1) ≡ (Taken, record { receiver = o1; message = Refused } ∷ []))
an_order_asks = (refl, refl, refl, refl, refl)

-- the order that it is promised to takes it or gives it back; another order's confirm or cancel changes nothing, nor
-- does an answer
promises_are_kept : (on_room_message (Promised o1) o1 Confirm ≡ (Taken, []))
    × (on_room_message (Promised o1) o1 Cancel ≡ (Free, []))
    × (on_room_message (Promised o1) o2 Confirm ≡ (Promised o1, []))
    × (on_room_message (Promised o1) o2 Cancel ≡ (Promised o1, []))
    × (on_room_message Taken o1 Cancel ≡ (Taken, [])) × (on_room_message Free o1 Confirm ≡ (Free, []))
    × (on_room_message (Promised o1) o1 Tentative ≡ (Promised o1, []))
unfolding same_entity
promises_are_kept = (refl, refl, refl, refl, refl, refl, refl)

-- from the beginning on: the room is promised and taken by the order, which no guest interrupts
a_room_is_taken : (state room_reactions (FromEntity o1 1 (Request 2) ∷ FromEntity o1 2 Confirm ∷ []) ≡ Taken)
    × (sent room_reactions (FromEntity o1 1 (Request 2) ∷ FromEntity o1 2 Confirm ∷ []) o1 ≡ Tentative ∷ [])
    × (react room_reactions (state room_reactions (FromEntity o1 1 (Request 2) ∷ [])) (FromSeat 0 Reserve)
    ≡ Err (Own (own 75)))
unfolding same_entity
a_room_is_taken = (refl, refl, refl)

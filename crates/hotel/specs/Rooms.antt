-- The reactions of a room.
use Rattle.std.specs.Prelude.{◌≡◌, Bool, true, false, ◌&&◌, nat_le, List, [], Result, Ok, Err, if◌then◌else◌, refl}
use Rattle.std.proofs.lemmas.Bool.{false≢true}
use Rattle.base.specs.Entity.{Entity}
use Rattle.base.specs.Order.{same_entity}
use Rattle.envelope.specs.declared.message.Message.{Message}
use Rattle.envelope.specs.declared.message.Message.TheVariants.{Request, Tentative, Refused, Confirm, Cancel}
use Rattle.activities.specs.declared.handler.Refusal.{Refusal}
use Rattle.activities.specs.declared.handler.Refusal.TheVariants.{Own}
use Rattle.activities.specs.declared.input.Input.{Input}
use Rattle.activities.specs.declared.input.Input.TheVariants.{FromSeat, FromEntity}
use Rattle.activities.specs.declared.outs.Out.{Out}
use Rattle.activities.specs.OwnRefusals.{own}
use Rattle.activities.specs.Reaction.{Reactions, reply}
use Rattle.hotel.specs.declared.room.TheConstants.{BEDS, NOT_FREE, NOT_TAKEN}
use Rattle.hotel.specs.declared.room.Room.{Room}
use Rattle.hotel.specs.declared.room.Room.TheVariants.{Free, Taken, Promised}
use Rattle.hotel.specs.declared.room.RoomCommand.{RoomCommand}
use Rattle.hotel.specs.declared.room.RoomCommand.TheVariants.{Reserve, Release}

-- whether nobody has the room
abbrev pub is_free : Room → Bool
is_free Free = true
is_free _ = false

-- whether the room is promised to this order
abbrev pub is_promised : Room → Entity → Bool
is_promised (Promised to) order = same_entity to order
is_promised _ order = false

-- whether this order sent it
abbrev pub is_from : Entity → Input RoomCommand → Bool
is_from order (FromSeat seat command) = false
is_from order (FromEntity sender number message) = same_entity order sender

-- a guest takes a free room, and leaves it; else the room isn't free, or no guest has it
abbrev pub on_room_command : Room → RoomCommand → Result (Room × List Out) Refusal
on_room_command Free Reserve = Ok (Taken, [])
on_room_command Taken Release = Ok (Free, [])
on_room_command room Reserve = Err (Own (own NOT_FREE))
on_room_command room Release = Err (Own (own NOT_TAKEN))

-- a free room is promised to an order that asks for no more guests than it has beds for, and else the request is
-- refused; the order that it is promised to takes it or gives it back; anything else changes nothing
abbrev pub on_room_message : Room → Entity → Message → Room × List Out
on_room_message room order (Request n) =
    if is_free room && nat_le n BEDS then (Promised order, reply order Tentative) else (room, reply order Refused)
on_room_message room order Confirm = (if is_promised room order then Taken else room, [])
on_room_message room order Cancel = (if is_promised room order then Free else room, [])
on_room_message room order message = (room, [])

-- rooms: free at first
abbrev pub room_reactions : Reactions Room RoomCommand
room_reactions = record { opening = Free; on_command = on_room_command; on_message = on_room_message }

-- a room that is free is as at first, so no row has to stand for it
pub free_is_opening : (room : Room) → is_free room ≡ true → room ≡ Free
free_is_opening Free is = refl
free_is_opening Taken is = absurd (false≢true is)
free_is_opening (Promised to) is = absurd (false≢true is)

-- The columns of a journal row that tell what was taken in: a command has a seat and neither sender nor number, and a
-- message the reverse.
use Rattle.std.specs.Prelude.{ℕ, ◌<◌, nat_lt, List, Option, Some, None, if◌then◌else◌}
use Rattle.std.specs.Option.{option_map, option_and_then}
use Rattle.base.specs.Entity.{IsEntity, text_of}
use Rattle.base.specs.Number.{IsNumber}
use Rattle.envelope.specs.Bodies.{body_of, IsMessage}
use Rattle.envelope.specs.Reading.{read_entity, as_number, read_message}
use Rattle.activities.specs.declared.input.Input.{Input}
use Rattle.activities.specs.declared.input.Input.TheVariants.{FromSeat, FromEntity}

pub record Columns : Type 0 where
  pub seat : Option ℕ
  pub sender : Option (List ℕ)
  pub number : Option ℕ
  pub body : List ℕ

-- the columns of an input, where this is what is written of commands
abbrev pub columns_of : {C : Type 0} → (C → List ℕ) → Input C → Columns
columns_of written (FromSeat seat command) =
    record { seat = Some seat; sender = None; number = None; body = written command }
columns_of written (FromEntity sender number message) =
    record { seat = None; sender = Some (text_of sender); number = Some number; body = body_of message }

-- what holds of every input
abbrev pub IsInput : {C : Type 0} → (C → Type 0) → Input C → Type 0
IsInput is_command (FromSeat seat command) = (seat < 256) × is_command command
IsInput is_command (FromEntity sender number message) = IsEntity sender × IsNumber number × IsMessage message

-- a seat has eight bits
abbrev pub as_seat : ℕ → Option ℕ
as_seat n = if nat_lt n 256 then Some n else None

-- the command that a seat gave, by what is read of its body
abbrev pub command_from : {C : Type 0} → (List ℕ → Option C) → ℕ → List ℕ → Option (Input C)
command_from read seat body = option_and_then (λ s. option_map (FromSeat s) (read body)) (as_seat seat)

-- the message of a sender with a number, by its body
abbrev pub message_from : {C : Type 0} → List ℕ → ℕ → List ℕ → Option (Input C)
message_from sender number body =
    option_and_then (λ e. option_and_then (λ n. option_map (FromEntity e n) (read_message body)) (as_number number))
    (read_entity sender)

-- a command has a seat alone, and a message a sender and a number
abbrev pub input_from : {C : Type 0} → (List ℕ → Option C) → Option ℕ → Option (List ℕ) → Option ℕ → List ℕ
    → Option (Input C)
input_from read (Some seat) None None body = command_from read seat body
input_from read None (Some sender) (Some number) body = message_from sender number body
input_from read _ _ _ body = None

-- the input of these columns, if they are one's
abbrev pub read_input : {C : Type 0} → (List ℕ → Option C) → Columns → Option (Input C)
read_input read c = input_from read c.seat c.sender c.number c.body

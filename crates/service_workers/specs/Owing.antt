-- How many of the MESSAGEs that were taken off a connection still have to be answered on it.
use Rattle.std.specs.Prelude.{◌≡◌, ℕ, ◌+◌, Bool, true, false, List, length, filter, Option, Some, None, Result, ⊤}
use Rattle.stomp_wire.specs.declared.fault.LinkFault.{LinkFault}
use Rattle.stomp_frame.specs.Frames.{Content}
use Rattle.stomp_frame.specs.declared.command.Command.{Command}
use Rattle.stomp_frame.specs.declared.command.Command.TheVariants as command
use Rattle.stomp_client.specs.Written.{Wrote}
use Rattle.service_workers.specs.Conns.{link_of, client_of, start_of}
use Rattle.service_workers.specs.Reads.{IsReading, waiting_of}
use Rattle.service_workers.specs.Written.{Path}
use Rattle.service_workers.specs.declared.conn.Conn.{Conn}
use Rattle.service_workers.specs.declared.conn.Found.{Found}
use Rattle.service_workers.specs.declared.conn.Found.TheVariants as found

-- a frame of this command delivers a message
abbrev pub delivers : Command → Bool
delivers command.Message = true
delivers _ = false

-- one of this command answers such a frame: the message is done with, or is to be redelivered
abbrev pub is_answer : Command → Bool
is_answer command.Ack = true
is_answer command.Nack = true
is_answer _ = false

-- how many of these frames deliver, and how many answer
abbrev pub messages_in : List Content → ℕ
messages_in frames = length (filter (λ f. delivers f.command) frames)

abbrev pub answers_in : List Content → ℕ
answers_in frames = length (filter (λ f. is_answer f.command) frames)

-- how many answers are owed for what is found: one for a MESSAGE
abbrev pub owed_by : Found → ℕ
owed_by (found.Message f) = 1
owed_by _ = 0

-- after this the connection is of no more use
abbrev pub is_over : Found → Bool
is_over (found.Over cut) = true
is_over _ = false

module _ {L : Type 0} (put_gives : L → List ℕ → Result ℕ LinkFault → L → Type 0)
    (take_gives : L → ℕ → Result (List ℕ) LinkFault → L → Type 0) where
  -- A connection owes so many answers. These are all frames that were read off it since it was opened, and these all that
  -- were written on it, some of whose octets may still wait. As many of the first are MESSAGEs as of the second are ACKs and
  -- NACKs, and those that it owes more; one that waits to be taken isn't owed yet.
  pub record Owes (owed : ℕ) (c : Conn L) : Type 0 where
    pub read : List Content
    pub reading : IsReading put_gives take_gives read c
    pub written : List Content
    pub gone : List ℕ
    pub path : Path put_gives take_gives (start_of c) gone (link_of c)
    pub wrote : Wrote written gone (client_of c).out
    pub even : messages_in read ≡ answers_in written + owed + messages_in (waiting_of c)

  -- the same where there is one
  abbrev pub OwesIf : ℕ → Option (Conn L) → Type 0
  OwesIf owed None = ⊤
  OwesIf owed (Some c) = Owes owed c

-- What a life of a program read and wrote, by its connections.
use Rattle.std.specs.Prelude.{◌≡◌, ℕ, List, [], ◌∷◌, ◌++◌, Contains, option_to_list, Option, Some, None, Result}
use Rattle.stomp_wire.specs.declared.fault.LinkFault.{LinkFault}
use Rattle.stomp_frame.specs.Frames.{Content}
use Rattle.stomp_frame.specs.declared.command.Command.{Command}
use Rattle.stomp_frame.specs.declared.command.Command.TheVariants.{Send}
use Rattle.envelope.specs.Reading.{read_envelope, read_frame}
use Rattle.envelope.specs.declared.message.Envelope.{Envelope}
use Rattle.activities.specs.Service.{Service}
use Rattle.keep.specs.Seen.{Seen}
use Rattle.keep.specs.Tables.{Tables}
use Rattle.endpoint.specs.Matches.{TablesMatchJournal}
use Rattle.laws_stores.specs.Writing.{IsTrueIn}
use Rattle.told_lock.specs.Rule.{Every}
use Rattle.service_workers.specs.Lives.{LifeStands}
use Rattle.service_workers.specs.Reads.{Came}
use Rattle.service_workers.specs.Taking.{envelopes_in}
use Rattle.service_workers.specs.Written.{HasWrittenIf, StandsBy, frames_of}
use Rattle.service_workers.specs.declared.conn.Conn.{Conn}
use Rattle.laws_services.specs.Lives.{Post}

-- ---- frames

-- only a SEND writes an envelope
abbrev pub if_send : Command → Option Envelope → Option Envelope
if_send Send found = found
if_send _ found = None

-- the envelope that a frame writes: what a reader finds in its headers and its body
abbrev pub sent_in : Content → Option Envelope
sent_in f = if_send f.command (read_envelope f.headers f.body)

-- the envelopes that these frames write, in order
abbrev pub envelopes_sent : List Content → List Envelope
envelopes_sent [] = []
envelopes_sent (f ∷ frames) = option_to_list (sent_in f) ++ envelopes_sent frames

-- ---- lives

module _ {L : Type 0} (put_gives : L → List ℕ → Result ℕ LinkFault → L → Type 0)
    (take_gives : L → ℕ → Result (List ℕ) LinkFault → L → Type 0) (P : (Content → Type 0) → List Content → Type 0) where
  -- all frames that were written on a connection, where there is one; and on several connections
  abbrev pub frames_on : (c : Option (Conn L)) → HasWrittenIf put_gives take_gives P c → List Content
  frames_on None written = []
  frames_on (Some c) written = frames_of written.blocks

  abbrev pub frames_on_all : (conns : List (Option (Conn L))) → Every (HasWrittenIf put_gives take_gives P) conns
      → List Content
  frames_on_all [] written = []
  frames_on_all (c ∷ conns) written = frames_on c written.0 ++ frames_on_all conns written.1

module _ {L : Type 0} {put_gives : L → List ℕ → Result ℕ LinkFault → L → Type 0}
    {take_gives : L → ℕ → Result (List ℕ) LinkFault → L → Type 0} {E S C : Type 0} {seen : E → Seen (Tables S C)}
    {service : Service S C} {given : L → Type 0} {found : Option E} {left : E} {conns : List (Option (Conn L))} where
  -- The post of a life: what its MESSAGEs carry, and what its SENDs carry. A SEND that still waits in its connection's buffer
  -- counts too, so this may be more than went out.
  abbrev pub post_of : LifeStands put_gives take_gives seen service given found left conns → Post
  post_of life = record {
    read = envelopes_in life.messages;
    written = envelopes_sent
        (frames_on_all put_gives take_gives (StandsBy service (seen life.good).tables) conns life.stand);
  }

-- A MESSAGE that came on a connection carries the envelope.
abbrev pub CameIn : {L : Type 0} → (put_gives : L → List ℕ → Result ℕ LinkFault → L → Type 0)
    → (take_gives : L → ℕ → Result (List ℕ) LinkFault → L → Type 0) → (given : L → Type 0) → Envelope → Type 0
CameIn put_gives take_gives given e = (message : Content) × Came put_gives take_gives given message
    × (read_frame message ≡ Some e)

-- The tables match their journal, and all that was written is true by it.
pub record StandsByPost {S C : Type 0} (service : Service S C) (post : Post) (t : Tables S C) : Type 0 where
  pub matches : TablesMatchJournal service t
  pub wrote : (e : Envelope) → Contains post.written e → IsTrueIn service.reactions t.journal e

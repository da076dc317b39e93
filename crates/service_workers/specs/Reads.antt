-- Which frames were read off a connection's link, and which of these it has given.
use Rattle.std.specs.Prelude.{◌≡◌, ◌≢◌, ℕ, false, List, [], ◌∷◌, ◌++◌, option_to_list, unwrap_or, Option, Some, None, ⊤}
use Rattle.std.specs.Prelude.{Result, Ok, Err}
use Rattle.base.specs.declared.limits.TheConstants.{MAX_BODY}
use Rattle.stomp_wire.specs.declared.fault.LinkFault.{LinkFault}
use Rattle.stomp_frame.specs.Frames.{Content}
use Rattle.stomp_frame.specs.Calls.{nothing_held}
use Rattle.stomp_frame.specs.Streams.{Follows}
use Rattle.stomp_frame.specs.declared.command.Command.TheVariants as command
use Rattle.told_lock.specs.Rule.{Every}
use Rattle.shared_endpoint.specs.Keys.{Any}
use Rattle.service_workers.specs.Conns.{link_of, start_of}
use Rattle.service_workers.specs.declared.conn.Conn.{Conn}
use Rattle.service_workers.specs.declared.conn.Found.{Found}
use Rattle.service_workers.specs.declared.conn.Found.TheVariants.{Message, Over}
use Rattle.service_workers.specs.declared.cut.Cut.{Cut}

-- ---- links

-- Puts and takes that lead from one link to another, one after another, whatever they answer; and the octets that these
-- takes gave, in order.
pub data Took {L : Type 0} (put_gives : L → List ℕ → Result ℕ LinkFault → L → Type 0)
    (take_gives : L → ℕ → Result (List ℕ) LinkFault → L → Type 0) (first : L) : List ℕ → L → Type 0 where
  begins : Took put_gives take_gives first [] first
  put : {taken octets : List ℕ} {answer : Result ℕ LinkFault} {link after : L} → Took put_gives take_gives first taken link
      → put_gives link octets answer after → Took put_gives take_gives first taken after
  gave : {taken octets : List ℕ} {most : ℕ} {link after : L} → Took put_gives take_gives first taken link
      → take_gives link most (Ok octets) after → Took put_gives take_gives first (taken ++ octets) after
  failed : {taken : List ℕ} {most : ℕ} {fault : LinkFault} {link after : L} → Took put_gives take_gives first taken link
      → take_gives link most (Err fault) after → Took put_gives take_gives first taken after

-- ---- connections

-- the frame that waits, where one does: it was read, and is the next that is given
abbrev pub waiting_of : {L : Type 0} → Conn L → List Content
waiting_of c = option_to_list c.channel.waiting

-- this connection, where this frame waits
abbrev pub with_next : {L : Type 0} → Content → Conn L → Conn L
with_next f c = record c { channel = record c.channel { waiting = Some f } }

-- none of these is a MESSAGE
abbrev pub AreOthers : List Content → Type 0
AreOthers frames = Every (λ f. f.command ≢ command.Message) frames

-- this is so of a MESSAGE that is found
abbrev pub IfFound : (Content → Type 0) → Found → Type 0
IfFound P (Message f) = P f
IfFound P _ = ⊤

-- nothing came on the connection yet
pub record IsUnread {L : Type 0} (c : Conn L) : Type 0 where
  pub starts : start_of c ≡ link_of c
  pub decoder : c.channel.decoder ≡ nothing_held
  pub waiting : c.channel.waiting ≡ None

module _ {L : Type 0} (put_gives : L → List ℕ → Result ℕ LinkFault → L → Type 0)
    (take_gives : L → ℕ → Result (List ℕ) LinkFault → L → Type 0) where
  -- Since a connection was opened, octets were taken off its link that begin with texts of these frames, one after the
  -- other. A rest follows.
  pub record HasRead (frames : List Content) (c : Conn L) : Type 0 where
    pub taken : List ℕ
    pub path : Took put_gives take_gives (start_of c) taken (link_of c)
    pub rest : List ℕ
    pub spelled : Follows MAX_BODY frames rest taken

  -- These frames were read, and the decoder holds that rest, unless it has failed: what is given next is what comes next.
  pub record IsReading (frames : List Content) (c : Conn L) : Type 0 where
    pub read : HasRead frames c
    pub held : c.channel.decoder.failed ≡ false → read.rest ≡ c.channel.decoder.octets

  -- These frames were given, in this order: they were read, and no other but that which waits.
  abbrev pub HasGiven : List Content → Conn L → Type 0
  HasGiven given c = IsReading (given ++ waiting_of c) c

  -- A connection continues, and gives these frames: first that which waited, and then what was read after it.
  pub record ReadsOnly (given : List Content) (c d : Conn L) : Type 0 where
    pub starts : start_of d ≡ start_of c
    pub more : List Content
    pub reads : (frames : List Content) → IsReading frames c → IsReading (frames ++ more) d
    pub gives : waiting_of c ++ more ≡ given ++ waiting_of d

  -- A connection continues, whatever it gives.
  abbrev pub ReadsSome : (c d : Conn L) → Type 0
  ReadsSome c d = (given : List Content) × ReadsOnly given c d

  -- A connection ends: octets may have been taken off its link that aren't held.
  pub record ReadsLast (c d : Conn L) : Type 0 where
    pub starts : start_of d ≡ start_of c
    pub reads : (frames : List Content) → IsReading frames c → (more : List Content) × HasRead (frames ++ more) d

  -- what a turn of reading does: an error is the end
  abbrev pub ReadsTurn : Result ℕ Cut → (c d : Conn L) → Type 0
  ReadsTurn (Ok _) c d = ReadsOnly [] c d
  ReadsTurn (Err _) c d = ReadsLast c d

  -- What `next` finds: a MESSAGE is the next of the frames that were read. None is passed over, unless the connection is over.
  abbrev pub Finds : Found → (c d : Conn L) → Type 0
  Finds (Message f) c d = (f.command ≡ command.Message) × ReadsOnly (f ∷ []) c d
  Finds (Over _) c d = ReadsSome c d
  Finds _ c d = (given : List Content) × AreOthers given × ReadsOnly given c d

  -- what comes of a frame that is none for the service: nothing is given
  abbrev pub FindsNone : Found → (c d : Conn L) → Type 0
  FindsNone (Message _) c d = ⊥
  FindsNone _ c d = ReadsOnly [] c d

  -- A frame that was given is taken back, and waits, unless another does: nothing is read.
  pub record TakesBack (frame : Content) (c d : Conn L) : Type 0 where
    pub starts : start_of d ≡ start_of c
    pub reads : (frames : List Content) → IsReading frames c → IsReading frames d
    pub waits : d.channel.waiting ≡ Some (unwrap_or c.channel.waiting frame)

  -- This is one of the frames that were read off a connection.
  abbrev pub CameOn : Conn L → Content → Type 0
  CameOn c message = (frames : List Content) × HasRead frames c × Any (λ f. f ≡ message) frames

  -- This frame came on a connection that began with a link of which that is so.
  abbrev pub Came : (L → Type 0) → Content → Type 0
  Came given message = (c : Conn L) × given (start_of c) × CameOn c message

  -- This frame came on a connection that began with this link.
  abbrev pub CameFrom : Option L → Content → Type 0
  CameFrom link message = Came (λ l. link ≡ Some l) message

  -- It came on a connection that began with this link, and on one of which that is so.
  abbrev pub CameOver : (L → Type 0) → Option L → Content → Type 0
  CameOver given link message = CameFrom link message × Came given message

  -- Where there is a connection, what was read off it is held; and a frame that waits on it came on a connection with its link.
  abbrev pub IsReadIf : Option (Conn L) → Type 0
  IsReadIf None = ⊤
  IsReadIf (Some c) = ((frames : List Content) × IsReading frames c) × Every (CameFrom (Some (start_of c))) (waiting_of c)

-- What is fed to a session, what it is decided to be, and what handling it makes of the broker.
use Rattle.std.specs.Prelude.{◌≡◌, ◌≢◌, ℕ, Bool, true, false, if◌then◌else◌, List, [], ◌∷◌, ◌++◌, length, Some, None}
use Rattle.std.specs.Prelude.{is_some}
use Rattle.std.specs.Prelude.{Result, Ok, Err}
use Rattle.base.specs.declared.limits.TheConstants.{MAX_BODY}
use Rattle.stomp_frame.specs.Decoding.{NoFault}
use Rattle.stomp_frame.specs.FaultTable.{BadAt}
use Rattle.stomp_frame.specs.Frames.{Content}
use Rattle.stomp_frame.specs.Spelling.{IsGap, SpellsAfterGap, NoFrame}
use Rattle.stomp_frame.specs.declared.fault.FrameFault.{FrameFault}
use Rattle.stomp_session.specs.Replies.{Delivered, message_frame}
use Rattle.stomp_session.specs.Requests.{request_of}
use Rattle.stomp_session.specs.declared.fault.SessionFault.{SessionFault}
use Rattle.stomp_session.specs.declared.request.Request.{Request}
use Rattle.broker_book.specs.Books.{IsQuiet}
use Rattle.broker_book.specs.Steps.{Handed, Dealt}
use Rattle.broker_core.specs.Serving.{Decided, Roster, Server, roster_of, step, in_roster, changing, with_fault}
use Rattle.broker_core.specs.Serving.{session_of, writing}
use Rattle.broker_core.specs.declared.fault.BrokerFault.{BrokerFault}
use Rattle.broker_core.specs.declared.fault.BrokerFault.TheVariants.{Memory, NoSession, TooMany}
use Rattle.broker_core.specs.declared.incoming.Incoming.{Incoming}
use Rattle.broker_core.specs.declared.session.Session.{Session}

-- ---- dispatching

-- a message that is handed out, as its MESSAGE tells it
abbrev pub delivery_of : Handed → Delivered
delivery_of d = record {
  destination = d.sent.destination;
  number = d.number;
  subscription = d.to.id;
  ack = d.ack;
  headers = d.sent.headers;
  body = d.sent.body;
}

-- its MESSAGE is written to its session
abbrev pub Hands : Roster → Handed → Roster → Type 0
Hands old d new = new ≡ in_roster d.to.session (writing (message_frame (delivery_of d))) old

-- some deals, each with its MESSAGE
abbrev pub Dealing : Server → Server → Type 0
Dealing old new = Dealt Hands old.book (roster_of old) new.book (roster_of new)

-- deals until nothing can be dealt
abbrev pub DealsAll : Server → Server → Type 0
DealsAll old new = Dealing old new × IsQuiet new.book

-- What `dispatch` answers: deals until nothing can be dealt, or some deals before memory was refused.
abbrev pub DispatchAnswer : {E : Type 0} → Server → Server → Result (Unit {0}) E → Type 0
DispatchAnswer old new (Ok _) = DealsAll old new
DispatchAnswer old new (Err _) = Dealing old new

-- ---- what a session was fed: what waits, as it was decided, and the octets behind it

-- what a frame is decided to be, by what it asks
abbrev pub answer_by : Content → Result Request SessionFault → Decided
answer_by f (Ok request) = Ok request
answer_by f (Err fault) = Err (record { fault = fault; frame = f })

-- what a frame is decided to be by a session that is connected, or not yet
abbrev pub answer_of : Bool → Content → Decided
answer_of connected f = answer_by f (request_of connected f)

-- a piece behind what was fed; it is thrown away where a fault was found
abbrev pub fed : List ℕ → Incoming → Incoming
fed piece i =
    if i.decoder.failed then i else record i { decoder = record i.decoder { octets = i.decoder.octets ++ piece } }

-- what is decided next, and what is left behind it
pub data DecidesNext (connected : Bool) (old : Incoming) (decided : Decided) (new : Incoming) : Type 0 where
  -- what waits
  waited : old.waiting ≡ Some decided → new ≡ record old { waiting = None } → DecidesNext connected old decided new
  -- the frame whose gap and spelling begin the octets
  read : (f : Content) → (front : List ℕ) → old.waiting ≡ None → old.decoder.failed ≡ false
      → SpellsAfterGap MAX_BODY f front
      → old.decoder.octets ≡ front ++ new.decoder.octets → new.decoder.failed ≡ false → new.waiting ≡ None
      → decided ≡ answer_of connected f → DecidesNext connected old decided new

-- nothing waits, no whole frame begins the octets, and no octet is at fault; EOLs at the front may go
pub record HasNone (old new : Incoming) : Type 0 where
  pub none_waits : old.waiting ≡ None
  pub sound : old.decoder.failed ≡ false
  pub no_frame : NoFrame MAX_BODY old.decoder.octets
  pub no_fault : NoFault MAX_BODY old.decoder.octets
  pub gap : List ℕ
  pub is_gap : IsGap gap
  pub octets : old.decoder.octets ≡ gap ++ new.decoder.octets
  pub still_sound : new.decoder.failed ≡ false
  pub still_none : new.waiting ≡ None

-- nothing waits, and an octet is at fault; or one was before, and its ERROR could not be written
pub data MeetsFault (old new : Incoming) : Type 0 where
  now : (fault : FrameFault) → old.waiting ≡ None → old.decoder.failed ≡ false → BadAt MAX_BODY old.decoder.octets fault
      → new.waiting ≡ None → new.decoder.failed ≡ true → MeetsFault old new
  before : old.waiting ≡ None → old.decoder.failed ≡ true → new ≡ old → MeetsFault old new

-- ---- one frame after another

-- a session with what is left to it
abbrev pub with_incoming : Incoming → Session → Session
with_incoming i s = record s { incoming = i }

-- what is left, and what waits before it
abbrev pub with_waiting : Decided → Incoming → Incoming
with_waiting decided i = record i { waiting = Some decided }

-- an open session
pub record IsOpen (b : Server) (n : ℕ) (s : Session) : Type 0 where
  pub found : session_of n b ≡ Some s
  pub is_open : s.closed ≡ false

-- a session's next frame is taken from what it was fed, and decided
pub record TakesDecided (old : Server) (n : ℕ) (decided : Decided) (new : Server) : Type 0 where
  pub session : Session
  pub left : Incoming
  pub is_open : IsOpen old n session
  pub takes : DecidesNext session.server session.incoming decided left
  pub changed : new ≡ changing n (with_incoming left) old

-- A session's next frame is handled: it is taken, it has its step, and then messages are dealt until none can be.
pub record Handles (full n : ℕ) (old : Server) (decided : Decided) (new : Server) : Type 0 where
  pub taken : Server
  pub takes : TakesDecided old n decided taken
  pub settles : DealsAll (step full n decided taken) new

-- these frames are handled, one after another
abbrev pub HandlesAll : ℕ → ℕ → Server → List Decided → Server → Type 0
HandlesAll full n old [] new = new ≡ old
HandlesAll full n old (d ∷ frames) new = (mid : Server) × Handles full n old d mid × HandlesAll full n mid frames new

-- No frame is left: the session is closed, or no whole frame has come, or a fault is met.
pub data Ends (old : Server) (n : ℕ) (new : Server) : Type 0 where
  closed : (s : Session) → session_of n old ≡ Some s → s.closed ≡ true → new ≡ old → Ends old n new
  awaits : (s : Session) (left : Incoming) → IsOpen old n s → HasNone s.incoming left
      → new ≡ changing n (with_incoming left) old → Ends old n new
  faulty : (s : Session) (left : Incoming) → IsOpen old n s → MeetsFault s.incoming left
      → new ≡ with_fault n (changing n (with_incoming left) old) → Ends old n new

-- ---- feed

-- a piece is fed to a session; a closed one throws it away
abbrev pub taking : List ℕ → Session → Session
taking piece s = if s.closed then s else record s { incoming = fed piece s.incoming }

-- A piece was fed, these frames were handled, none is left, and messages were dealt until none can be.
pub record Feeds (full : ℕ) (old : Server) (n : ℕ) (piece : List ℕ) (new : Server) (count : ℕ) : Type 0 where
  pub frames : List Decided
  pub handled : Server
  pub ended : Server
  pub there : is_some (session_of n old) ≡ true
  pub handles : HandlesAll full n (changing n (taking piece) old) frames handled
  pub counted : count ≡ length frames
  pub ends : Ends handled n ended
  pub settles : DealsAll ended new

-- Where memory was refused: before a frame was taken; in its step, and it waits; in the deals behind it; as a fault was
-- told; in the deals at the end.
pub data Stops (full n : ℕ) (old new : Server) : Type 0 where
  at_frame : new ≡ old → Stops full n old new
  in_step : (decided : Decided) (s : Session) (left : Incoming) → IsOpen old n s
      → DecidesNext s.server s.incoming decided left
      → new ≡ changing n (with_incoming (with_waiting decided left)) old → Stops full n old new
  in_deals : (decided : Decided) (taken : Server) → TakesDecided old n decided taken
      → Dealing (step full n decided taken) new
      → Stops full n old new
  at_fault : (s : Session) (left : Incoming) → IsOpen old n s → MeetsFault s.incoming left
      → new ≡ changing n (with_incoming left) old → Stops full n old new
  at_end : (ended : Server) → Ends old n ended → Dealing ended new → Stops full n old new

-- A piece was fed, these frames were handled, and then memory was refused.
pub record FeedsPart (full : ℕ) (old : Server) (n : ℕ) (piece : List ℕ) (new : Server) : Type 0 where
  pub frames : List Decided
  pub handled : Server
  pub there : is_some (session_of n old) ≡ true
  pub handles : HandlesAll full n (changing n (taking piece) old) frames handled
  pub stops : Stops full n handled new

-- A piece with an octet wasn't taken, for want of memory, by an open session that has met no fault; nothing has
-- changed.
pub record FeedsNone (old : Server) (n : ℕ) (piece : List ℕ) (new : Server) : Type 0 where
  pub session : Session
  pub is_open : IsOpen old n session
  pub sound : session.incoming.decoder.failed ≡ false
  pub some : piece ≢ []
  pub same : new ≡ old

-- What `feed` answers: the number of frames handled; memory was refused, with the piece taken or with nothing changed;
-- no such session.
abbrev pub FeedAnswer : ℕ → Server → ℕ → List ℕ → Server → Result ℕ BrokerFault → Type 0
FeedAnswer full old n piece new (Ok count) = Feeds full old n piece new count
FeedAnswer full old n piece new (Err (Memory true)) = FeedsPart full old n piece new
FeedAnswer full old n piece new (Err (Memory false)) = FeedsNone old n piece new
FeedAnswer full old n piece new (Err NoSession) = (session_of n old ≡ None) × (new ≡ old)
FeedAnswer full old n piece new (Err TooMany) = ⊥

-- What the parts of `feed` and of the other calls answer.
use Rattle.std.specs.Prelude.{◌≡◌, ◌≢◌, ℕ, ◌+◌, ◌<◌, Bool, true, false, List, [], length, Option, Some, None, is_some}
use Rattle.std.specs.Prelude.{Result, Ok, Err}
use Rattle.stomp_frame.specs.Frames.{Content}
use Rattle.stomp_frame.specs.declared.fault.FrameFault.{FrameFault}
use Rattle.stomp_frame.specs.declared.fault.FrameFault.TheVariants.{Memory}
use Rattle.broker_tx.specs.First.{IsFirstAt, PassesNone}
use Rattle.broker_core.specs.Feeding.{DecidesNext, Ends, FeedsNone, Handles, HandlesAll, HasNone, MeetsFault}
use Rattle.broker_core.specs.Feeding.{DealsAll, Stops}
use Rattle.broker_core.specs.Feeding.{TakesDecided, answer_of, fed, taking, with_incoming, with_waiting}
use Rattle.broker_core.specs.Performing.{Reach, queue_refusal, transaction_refusal}
use Rattle.broker_core.specs.Serving.{Decided, Part, Server, changing, is_session, part, refused, served, session_of}
use Rattle.broker_core.specs.Serving.{step}
use Rattle.broker_core.specs.declared.fault.HandlerFault.{HandlerFault}
use Rattle.broker_core.specs.declared.fault.HandlerFault.TheVariants.{Refused as IsRefused, Memory as HasNoMemory}
use Rattle.broker_core.specs.declared.fault.FrameRefusal.{FrameRefusal}
use Rattle.broker_core.specs.declared.fault.FrameRefusal.TheVariants.{BadFrame}
use Rattle.broker_core.specs.declared.incoming.Incoming.{Incoming}
use Rattle.broker_core.specs.declared.session.Session.{Session}
use Rattle.broker_book.specs.declared.fault.QueueFault.{QueueFault}
use Rattle.broker_book.specs.declared.fault.QueueFault.TheVariants.{Memory as NoRoom}
use Rattle.broker_tx.specs.declared.fault.TransactionFault.{TransactionFault}
use Rattle.broker_tx.specs.declared.fault.TransactionFault.TheVariants.{Memory as NoSpace}

-- ---- handlers

-- a request was done; it was refused, or memory was, and nothing has changed
abbrev pub Performs : Result Reach FrameRefusal → Reach → Reach → Result (Unit {0}) HandlerFault → Type 0
Performs step old new (Ok _) = step ≡ Ok new
Performs step old new (Err (IsRefused refusal)) = (step ≡ Err refusal) × (new ≡ old)
Performs step old new (Err HasNoMemory) = new ≡ old

-- an answer of the queues, as a handler gives it
abbrev pub lifted : Result (Unit {0}) QueueFault → Result (Unit {0}) HandlerFault
lifted (Ok x) = Ok x
lifted (Err NoRoom) = Err HasNoMemory
lifted (Err fault) = Err (IsRefused (queue_refusal fault))

-- an answer of the transactions, as a handler gives it
abbrev pub lifted_transaction : Result (Unit {0}) TransactionFault → Result (Unit {0}) HandlerFault
lifted_transaction (Ok x) = Ok x
lifted_transaction (Err NoSpace) = Err HasNoMemory
lifted_transaction (Err fault) = Err (IsRefused (transaction_refusal fault))

-- ---- what a session was fed

-- a piece was taken; or it has an octet, no fault was met, and memory was refused
abbrev pub PieceAnswer : {E : Type 0} → List ℕ → Incoming → Incoming → Result (Unit {0}) E → Type 0
PieceAnswer piece old new (Ok _) = new ≡ fed piece old
PieceAnswer piece old new (Err _) = (old.decoder.failed ≡ false) × (piece ≢ []) × (new ≡ old)

-- the same of a session
abbrev pub SessionPieceAnswer : {T E : Type 0} → List ℕ → Session → Session → Result T E → Type 0
SessionPieceAnswer piece old new (Ok _) = new ≡ taking piece old
SessionPieceAnswer piece old new (Err _) =
    (old.closed ≡ false) × (old.incoming.decoder.failed ≡ false) × (piece ≢ []) × (new ≡ old)

-- The next frame was taken; or there is none, or a fault. Where memory was refused nothing has changed.
abbrev pub NextAnswer : Bool → Incoming → Incoming → Result (Option Content) FrameFault → Type 0
NextAnswer connected old new (Ok (Some f)) = DecidesNext connected old (answer_of connected f) new
NextAnswer connected old new (Ok None) = HasNone old new
NextAnswer connected old new (Err Memory) = new ≡ old
NextAnswer connected old new (Err fault) = MeetsFault old new

-- whether a fault of the decoder is want of memory
abbrev pub is_memory : FrameFault → Bool
is_memory Memory = true
is_memory _ = false

-- how many frames wait
abbrev pub waiting_count : Option Decided → ℕ
waiting_count None = 0
waiting_count (Some decided) = 1

-- how much is left: the octets, and what waits
abbrev pub left_of : Incoming → ℕ
left_of i = length i.decoder.octets + waiting_count i.waiting

-- what a session was fed, where there is one
abbrev pub incoming_in : Option Session → Option Incoming
incoming_in None = None
incoming_in (Some s) = Some s.incoming

-- how much is left of it
abbrev pub left_at : Option Incoming → ℕ
left_at None = 0
left_at (Some i) = left_of i

-- how much is left to a session
abbrev pub left_in : Option Session → ℕ
left_in s = left_at (incoming_in s)

-- a session for which something waits, as it was decided
abbrev pub keeping : Decided → Session → Session
keeping decided s = with_incoming (with_waiting decided s.incoming) s

-- ---- one turn of a session

-- an open session's next frame was taken, and had its step
pub record PartHandles (full : ℕ) (old new : Part) : Type 0 where
  pub decided : Decided
  pub left : Incoming
  pub is_open : old.session.closed ≡ false
  pub takes : DecidesNext old.session.server old.session.incoming decided left
  pub changed : new ≡ served full decided (part old.book (with_incoming left old.session))

-- no frame is left to a session: it is closed, or no whole frame has come, or a fault is met
pub data PartEnds (old new : Part) : Type 0 where
  was_closed : old.session.closed ≡ true → new ≡ old → PartEnds old new
  has_none : (left : Incoming) → old.session.closed ≡ false → HasNone old.session.incoming left
      → new ≡ part old.book (with_incoming left old.session) → PartEnds old new
  met_fault : (left : Incoming) → old.session.closed ≡ false → MeetsFault old.session.incoming left
      → new ≡ refused BadFrame None (part old.book (with_incoming left old.session)) → PartEnds old new

-- Where memory was refused: before a frame was taken; in its step, and it waits; as a fault was told.
pub data PartStops (old new : Part) : Type 0 where
  before_frame : new ≡ old → PartStops old new
  waits : (decided : Decided) (left : Incoming) → old.session.closed ≡ false
      → DecidesNext old.session.server old.session.incoming decided left
      → new ≡ part old.book (with_incoming (with_waiting decided left) old.session) → PartStops old new
  untold : (left : Incoming) → old.session.closed ≡ false → MeetsFault old.session.incoming left
      → new ≡ part old.book (with_incoming left old.session) → PartStops old new

-- a frame had its step, or none is left, or memory was refused
abbrev pub PartTurn : {E : Type 0} → ℕ → Part → Part → Result Bool E → Type 0
PartTurn full old new (Ok true) = PartHandles full old new
PartTurn full old new (Ok false) = PartEnds old new
PartTurn full old new (Err _) = PartStops old new

-- ---- calls of the sessions

-- where the session of a number stands, if there is one
abbrev pub PlaceAnswer : ℕ → List Session → Option ℕ → Type 0
PlaceAnswer n sessions None = PassesNone (is_session n) sessions
PlaceAnswer n sessions (Some at) = IsFirstAt (is_session n) sessions at

-- a piece was fed to a session, of which fewer frames than this can still be taken; or memory was refused
abbrev pub BegunAnswer : {E : Type 0} → ℕ → List ℕ → Server → Server → Result ℕ E → Type 0
BegunAnswer n piece old new (Ok bound) =
    (is_some (session_of n old) ≡ true) × (new ≡ changing n (taking piece) old) × (left_in (session_of n new) < bound)
BegunAnswer n piece old new (Err _) = FeedsNone old n piece new

-- a session's next frame was taken, and had its step
pub record Stepped (full n : ℕ) (old new : Server) : Type 0 where
  pub frame : Decided
  pub taken : Server
  pub takes : TakesDecided old n frame taken
  pub changed : new ≡ step full n frame taken

-- the same, or none is left
abbrev pub StepsOrEnds : ℕ → ℕ → Server → Server → Bool → Type 0
StepsOrEnds full n old new true = Stepped full n old new
StepsOrEnds full n old new false = Ends old n new

-- the same, or memory was refused
abbrev pub StepAnswer : {E : Type 0} → ℕ → ℕ → Server → Server → Result Bool E → Type 0
StepAnswer full n old new (Ok stepped) = StepsOrEnds full n old new stepped
StepAnswer full n old new (Err _) = Stops full n old new

-- ---- one turn of `feed`

-- a frame was handled, and less is left
pub record Turned (full n : ℕ) (old new : Server) : Type 0 where
  pub frame : Decided
  pub handles : Handles full n old frame new
  pub less : left_in (session_of n new) < left_in (session_of n old)

-- no frame is left, and messages were dealt until none can be
abbrev pub EndsQuiet : Server → ℕ → Server → Type 0
EndsQuiet old n new = (ended : Server) × Ends old n ended × DealsAll ended new

-- a frame was handled, or none is left
abbrev pub TurnsOrEnds : ℕ → ℕ → Server → Server → Bool → Type 0
TurnsOrEnds full n old new true = Turned full n old new
TurnsOrEnds full n old new false = EndsQuiet old n new

-- the same, or memory was refused
abbrev pub TurnAnswer : {E : Type 0} → ℕ → ℕ → Server → Server → Result Bool E → Type 0
TurnAnswer full n old new (Ok turned) = TurnsOrEnds full n old new turned
TurnAnswer full n old new (Err _) = Stops full n old new

-- so many frames were handled
pub record Handled (full n : ℕ) (old : Server) (count : ℕ) (new : Server) : Type 0 where
  pub frames : List Decided
  pub handles : HandlesAll full n old frames new
  pub counted : count ≡ length frames

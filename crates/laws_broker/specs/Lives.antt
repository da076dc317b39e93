-- A broker's life: its calls, one after another, and what they fed, told, dealt and took.
use Rattle.std.specs.Prelude.{◌≡◌, ◌≤◌, ℕ, Bool, true, false, ◌&&◌, ◌==◌, if◌then◌else◌, List, [], ◌∷◌, ◌++◌, length}
use Rattle.std.specs.Prelude.{take, Option, Result}
use Rattle.std.specs.Prelude.{Ok, Err}
use Rattle.std.specs.List.{flat_map}
use Rattle.broker_book.specs.Steps.{Handed}
use Rattle.broker_book.specs.declared.parts.Accepted.{Accepted}
use Rattle.broker_core.specs.Calls.{FreshAnswer, OpenAnswer, dropped, out_in, without_first}
use Rattle.broker_core.specs.Feeding.{Dealing, FeedAnswer, HandlesAll, DealsAll, Stops, at_frame, in_step, in_deals}
use Rattle.broker_core.specs.Feeding.{at_fault, at_end}
use Rattle.broker_core.specs.Serving.{Decided, Server, changing, session_of}
use Rattle.broker_core.specs.Streams.{Fed, stopped_frames}
use Rattle.broker_core.specs.declared.fault.BrokerFault.{BrokerFault}
use Rattle.broker_core.specs.declared.fault.BrokerFault.TheVariants.{Memory, NoSession, TooMany}

-- ---- calls

-- A call of a broker that changes it, with what it was given and what it answered. A `feed` also tells which frames had
-- their step, and `taken` which octets went.
pub data BrokerCall : Type 0 where
  Opened : (answer : Result ℕ BrokerFault) → BrokerCall
  FedTo : (session : ℕ) → (fed : Fed) → (answer : Result ℕ BrokerFault) → BrokerCall
  Dispatched : (whole : Bool) → BrokerCall
  TakenFrom : (session : ℕ) → (octets : List ℕ) → BrokerCall
  Dropped : (session : ℕ) → BrokerCall
  Named : (answer : Option ℕ) → BrokerCall
  Told : (accepted : List Accepted) → BrokerCall

-- the frames that had their step while a piece was fed
abbrev pub frames_feeding : (full : ℕ) (old : Server) (n : ℕ) (piece : List ℕ) (new : Server)
    (answer : Result ℕ BrokerFault)
    → FeedAnswer full old n piece new answer → List Decided
frames_feeding full old n piece new (Ok count) h = h.frames
frames_feeding full old n piece new (Err (Memory true)) h = h.frames ++ stopped_frames h.stops
frames_feeding full old n piece new (Err (Memory false)) h = []
frames_feeding full old n piece new (Err NoSession) h = []
frames_feeding full old n piece new (Err TooMany) h = []

-- a piece was fed and answered so, and these frames had their step
abbrev pub FeedsWith : ℕ → Server → ℕ → Fed → Server → Result ℕ BrokerFault → Type 0
FeedsWith full old n fed new answer =
    (h : FeedAnswer full old n fed.piece new answer) × (fed.frames ≡ frames_feeding full old n fed.piece new answer h)

-- a dispatch dealt until nothing could be dealt, or some deals before memory was refused
abbrev pub Dispatches : Bool → Server → Server → Type 0
Dispatches true old new = DealsAll old new
Dispatches false old new = Dealing old new

-- octets for a session were taken: the first so many
abbrev pub TakesFrom : Server → ℕ → List ℕ → Server → Type 0
TakesFrom old n octets new =
    (count : ℕ) × (count ≤ length (out_in (session_of n old))) × (octets ≡ take count (out_in (session_of n old)))
    × (new ≡ changing n (without_first count) old)

-- what a call does to a broker of which each queue holds so many messages
abbrev pub DoesCall : ℕ → Server → BrokerCall → Server → Type 0
DoesCall full old (Opened answer) new = OpenAnswer old new answer
DoesCall full old (FedTo n fed answer) new = FeedsWith full old n fed new answer
DoesCall full old (Dispatched whole) new = Dispatches whole old new
DoesCall full old (TakenFrom n octets) new = TakesFrom old n octets new
DoesCall full old (Dropped n) new = new ≡ dropped n old (session_of n old)
DoesCall full old (Named answer) new = FreshAnswer old new answer
DoesCall full old (Told accepted) new =
    (accepted ≡ old.book.accepted) × (new ≡ record old { book = record old.book { accepted = [] } })

-- one call after another leads there
abbrev pub Lives : ℕ → Server → List BrokerCall → Server → Type 0
Lives full old [] new = new ≡ old
Lives full old (c ∷ calls) new = (mid : Server) × DoesCall full old c mid × Lives full mid calls new

-- ---- what is told

-- the accepted SENDs that a call tells
abbrev pub told_by : BrokerCall → List Accepted
told_by (Told accepted) = accepted
told_by c = []

-- those that these calls tell, in order
abbrev pub told_in : List BrokerCall → List Accepted
told_in [] = []
told_in (c ∷ calls) = told_by c ++ told_in calls

-- what was told, and then what will be told next: each accepted SEND
abbrev pub accepted_in : List BrokerCall → Server → List Accepted
accepted_in calls b = told_in calls ++ b.book.accepted

-- ---- what is dealt

-- what was dealt behind these frames
abbrev pub dealt_behind : (full n : ℕ) (old new : Server) (frames : List Decided) → HandlesAll full n old frames new
    → List Handed
dealt_behind full n old new [] h = []
dealt_behind full n old new (d ∷ frames) h = h.1.settles.0.handed ++ dealt_behind full n h.0 new frames h.2

-- what was dealt between the last whole frame and the refusal of memory
abbrev pub dealt_before : {full n : ℕ} {old new : Server} → Stops full n old new → List Handed
dealt_before (at_frame same) = []
dealt_before (in_step decided s left is_open takes changed) = []
dealt_before (in_deals decided taken takes deals) = deals.handed
dealt_before (at_fault s left is_open meets changed) = []
dealt_before (at_end ended ends deals) = deals.handed

-- what was dealt while a piece was fed
abbrev pub dealt_feeding : (full : ℕ) (old : Server) (n : ℕ) (piece : List ℕ) (new : Server)
    (answer : Result ℕ BrokerFault)
    → FeedAnswer full old n piece new answer → List Handed
dealt_feeding full old n piece new (Ok count) h =
    dealt_behind full n _ h.handled h.frames h.handles ++ h.settles.0.handed
dealt_feeding full old n piece new (Err (Memory true)) h =
    dealt_behind full n _ h.handled h.frames h.handles ++ dealt_before h.stops
dealt_feeding full old n piece new (Err (Memory false)) h = []
dealt_feeding full old n piece new (Err NoSession) h = []
dealt_feeding full old n piece new (Err TooMany) h = []

-- what was dealt in a dispatch
abbrev pub dealt_dispatching : (whole : Bool) (old new : Server) → Dispatches whole old new → List Handed
dealt_dispatching true old new h = h.0.handed
dealt_dispatching false old new h = h.handed

-- what was dealt in a call
abbrev pub dealt_by : (full : ℕ) (old : Server) (c : BrokerCall) (new : Server) → DoesCall full old c new → List Handed
dealt_by full old (FedTo n fed answer) new h = dealt_feeding full old n fed.piece new answer h.0
dealt_by full old (Dispatched whole) new h = dealt_dispatching whole old new h
dealt_by full old (Opened answer) new h = []
dealt_by full old (TakenFrom n octets) new h = []
dealt_by full old (Dropped n) new h = []
dealt_by full old (Named answer) new h = []
dealt_by full old (Told accepted) new h = []

-- what was dealt in these calls, in order
abbrev pub dealt_in : (full : ℕ) (old : Server) (calls : List BrokerCall) (new : Server) → Lives full old calls new
    → List Handed
dealt_in full old [] new h = []
dealt_in full old (c ∷ calls) new h = dealt_by full old c h.0 h.1 ++ dealt_in full h.0 calls new h.2

-- ---- what is fed

-- whether a piece was taken
abbrev pub was_taken : Result ℕ BrokerFault → Bool
was_taken (Ok count) = true
was_taken (Err (Memory took)) = took
was_taken (Err NoSession) = false
was_taken (Err TooMany) = false

-- the piece that a session took in a call, with its frames that had their step then
abbrev pub fed_by : ℕ → BrokerCall → List Fed
fed_by n (FedTo m fed answer) = if n == m && was_taken answer then fed ∷ [] else []
fed_by n c = []

-- those that it took in these calls, in order
abbrev pub fed_in : ℕ → List BrokerCall → List Fed
fed_in n calls = flat_map (fed_by n) calls

-- all that it was fed in these calls
abbrev pub pieces_in : ℕ → List BrokerCall → List ℕ
pieces_in n calls = flat_map (λ f. f.piece) (fed_in n calls)

-- its frames that were handled in these calls, in order
abbrev pub handled_in : ℕ → List BrokerCall → List Decided
handled_in n calls = flat_map (λ f. f.frames) (fed_in n calls)

-- ---- what is taken

-- the octets that a call took of those for a session
abbrev pub octets_by : ℕ → BrokerCall → List ℕ
octets_by n (TakenFrom m octets) = if n == m then octets else []
octets_by n c = []

-- all that these calls took
abbrev pub octets_in : ℕ → List BrokerCall → List ℕ
octets_in n calls = flat_map (octets_by n) calls

-- what was taken of the octets for a session, and the frames of it that were handled
pub record Account : Type 0 where
  pub taken : List ℕ
  pub handled : List Decided

-- these of a number over calls
abbrev pub account : ℕ → List BrokerCall → Account
account n calls = record { taken = octets_in n calls; handled = handled_in n calls }

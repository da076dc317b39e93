-- What a request, or the refusal of a frame, does to its session and to the broker.
use Rattle.std.specs.Prelude.{ℕ, ◌==◌, ◌||◌, Bool, true, false, is_some, if◌then◌else◌, List, [], ◌++◌, Option, Some}
use Rattle.std.specs.Prelude.{None}
use Rattle.std.specs.Prelude.{Result, Ok, Err}
use Rattle.std.specs.List.{find}
use Rattle.stomp_frame.specs.Frames.{Content, canonical}
use Rattle.stomp_session.specs.Replies.{connected_frame, receipt_frame, receipt_told, error_frame}
use Rattle.stomp_session.specs.Requests.{receipt_of}
use Rattle.stomp_session.specs.declared.request.Request.{Request}
use Rattle.stomp_session.specs.declared.request.Request.TheVariants.{Connect, Disconnect}
use Rattle.stomp_session.specs.declared.session.Refused.{Refused}
use Rattle.broker_book.specs.Books.{Book}
use Rattle.broker_book.specs.Steps.{ended}
use Rattle.broker_tx.specs.First.{first_changed}
use Rattle.broker_core.specs.Faults.{refusal_number, refusal_name}
use Rattle.broker_core.specs.Performing.{Reach, reach, performed}
use Rattle.broker_core.specs.declared.fault.FrameRefusal.{FrameRefusal}
use Rattle.broker_core.specs.declared.fault.FrameRefusal.TheVariants.{BadFrame, Unaccepted}
use Rattle.broker_core.specs.declared.incoming.Incoming.{Incoming}
use Rattle.broker_core.specs.declared.session.Session.{Session}

-- what a frame of a client is decided to be: a request, or a frame that is refused at once
abbrev pub Decided : Type 0
Decided = Result Request Refused

-- ---- replies

-- the answer to a receipt that is asked for
abbrev pub receipt_reply : Option (List ℕ) → Option Content
receipt_reply None = None
receipt_reply (Some receipt) = Some (receipt_frame receipt)

-- whether a request opens the session
abbrev pub is_connect : Request → Bool
is_connect (Connect c) = true
is_connect _ = false

-- the frame that a request is answered by once it is done, if any
abbrev pub reply_of : Request → Option Content
reply_of request = if is_connect request then Some connected_frame else receipt_reply (receipt_of request)

-- the text of a frame, if there is one
abbrev pub text_of : Option Content → List ℕ
text_of None = []
text_of (Some f) = canonical f

-- a frame is written, if there is one: the session has octets to be sent
abbrev pub replied : Option Content → Session → Session
replied f s = record s { out = s.out ++ text_of f; fresh = s.fresh || is_some f }

-- a frame is written
abbrev pub writing : Content → Session → Session
writing f s = record s { out = s.out ++ canonical f; fresh = true }

-- ---- a session and the book

-- a session with the book, which is all that its requests may change
pub record Part : Type 0 where
  pub book : Book
  pub session : Session

-- the same of these two
abbrev pub part : Book → Session → Part
part book session = record { book = book; session = session }

-- nothing was fed, and nothing waits
abbrev pub nothing_incoming : Incoming
nothing_incoming = record { decoder = record { octets = []; failed = false }; waiting = None }

-- a session that is closed: its transactions are aborted, and what was fed is thrown away
abbrev pub closed_of : Session → Session
closed_of s = record s { closed = true; incoming = nothing_incoming; transactions = [] }

-- a session ends: its subscriptions end, and what is out to them is ready again
abbrev pub closing : Part → Part
closing p = record { book = ended p.book p.session.number; session = closed_of p.session }

-- an ERROR is written, and the session ends
abbrev pub refused : FrameRefusal → Option (List ℕ) → Part → Part
refused refusal receipt p =
    closing (record p {
      session = writing (error_frame (refusal_number refusal) (refusal_name refusal) receipt)
          p.session;
    })

-- whether a request is the last of its session
abbrev pub is_last : Request → Bool
is_last (Disconnect d) = true
is_last _ = false

-- the end of a session, after its last request
abbrev pub closing_if : Bool → Part → Part
closing_if last p = if last then closing p else p

-- what a request may change of them
abbrev pub reached : Part → Reach
reached p = reach p.book p.session.transactions

-- a request was done: the session is connected, and the request is answered
abbrev pub confirmed : Request → Part → Reach → Part
confirmed request p r = record {
  book = r.book;
  session = replied (reply_of request) (record p.session { server = true; transactions = r.transactions });
}

-- a request was done, or it was refused
abbrev pub finished : Request → Part → Result Reach FrameRefusal → Part
finished request p (Ok r) = closing_if (is_last request) (confirmed request p r)
finished request p (Err refusal) = refused refusal (receipt_of request) p

-- What a decided frame of a session makes of it and of the book.
abbrev pub served : ℕ → Decided → Part → Part
served full (Ok request) p = finished request p (performed full p.session.number (reached p) request)
served full (Err r) p = refused (Unaccepted r.fault) (receipt_told r.frame) p

-- ---- the broker

-- the sessions, the oldest first, and the last number that one was given
pub record Roster : Type 0 where
  pub sessions : List Session
  pub opened : ℕ

-- a broker: its book and its roster
pub record Server : Type 0 where
  pub book : Book
  pub sessions : List Session
  pub opened : ℕ

-- the broker of these two
abbrev pub broker_of : Book → Roster → Server
broker_of book roster = record { book = book; sessions = roster.sessions; opened = roster.opened }

-- the roster of a broker
abbrev pub roster_of : Server → Roster
roster_of b = record { sessions = b.sessions; opened = b.opened }

-- whether a session has this number
abbrev pub is_session : ℕ → Session → Bool
is_session n s = s.number == n

-- the session of this number
abbrev pub session_of : ℕ → Server → Option Session
session_of n b = find (is_session n) b.sessions

-- the session of this number is changed
abbrev pub with_session : ℕ → (Session → Session) → List Session → List Session
with_session n change sessions = first_changed (is_session n) change sessions

-- the same in a roster
abbrev pub in_roster : ℕ → (Session → Session) → Roster → Roster
in_roster n change r = record r { sessions = with_session n change r.sessions }

-- the same in a broker
abbrev pub changing : ℕ → (Session → Session) → Server → Server
changing n change b = record b { sessions = with_session n change b.sessions }

-- a session and the book are put back
abbrev pub with_part : ℕ → Server → Part → Server
with_part n b p = record b { book = p.book; sessions = with_session n (λ _. p.session) b.sessions }

-- a session and the book are changed
abbrev pub changing_part : ℕ → (Part → Part) → Server → Option Session → Server
changing_part n change b None = b
changing_part n change b (Some s) = with_part n b (change (part b.book s))

-- The step of a decided frame: what it makes of the broker.
abbrev pub step : ℕ → ℕ → Decided → Server → Server
step full n decided b = changing_part n (served full decided) b (session_of n b)

-- the ERROR of a fault of the octets, and the end of the session
abbrev pub with_fault : ℕ → Server → Server
with_fault n b = changing_part n (refused BadFrame None) b (session_of n b)

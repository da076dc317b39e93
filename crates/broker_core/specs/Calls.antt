-- What the other calls of a broker do.
use Rattle.std.specs.Prelude.{◌≡◌, ℕ, ◌+◌, ◌-◌, ◌^◌, Bool, true, false, not, List, [], ◌∷◌, ◌++◌, filter, drop, Option}
use Rattle.std.specs.Prelude.{Some, None}
use Rattle.std.specs.Prelude.{Result, Ok, Err}
use Rattle.std.specs.List.{list_any}
use Rattle.broker_book.specs.Books.{empty_book}
use Rattle.broker_book.specs.Steps.{ended}
use Rattle.broker_core.specs.Serving.{Server, nothing_incoming, session_of, is_session, changing}
use Rattle.broker_core.specs.declared.fault.BrokerFault.{BrokerFault}
use Rattle.broker_core.specs.declared.fault.BrokerFault.TheVariants.{Memory, NoSession, TooMany}
use Rattle.broker_core.specs.declared.session.Session.{Session}

-- a broker with no session and no message
abbrev pub empty : Server
empty = record { book = empty_book; sessions = []; opened = 0 }

-- ---- open

-- a session that isn't connected, and was fed nothing
abbrev pub new_session : ℕ → Session
new_session n = record {
  number = n;
  server = false;
  closed = false;
  fresh = false;
  incoming = nothing_incoming;
  transactions = [];
  out = [];
}

-- one session more, of the next number
abbrev pub with_new_session : Server → Server
with_new_session b = record b { sessions = b.sessions ++ new_session (b.opened + 1) ∷ []; opened = b.opened + 1 }

-- a number that no session has is given to a new one
pub record OpensSession (old : Server) (n : ℕ) (new : Server) : Type 0 where
  pub next : n ≡ old.opened + 1
  pub unused : session_of n old ≡ None
  pub changed : new ≡ with_new_session old
  pub found : session_of n new ≡ Some (new_session n)

-- What `open` answers: a new session's number; no number is left; or memory was refused, and nothing has changed.
abbrev pub OpenAnswer : Server → Server → Result ℕ BrokerFault → Type 0
OpenAnswer old new (Ok n) = OpensSession old n new
OpenAnswer old new (Err (Memory took)) = (took ≡ false) × (new ≡ old)
OpenAnswer old new (Err TooMany) = (old.opened ≡ 2 ^ 64 - 1) × (new ≡ old)
OpenAnswer old new (Err NoSession) = ⊥

-- ---- what a session is seen by

-- the octets for a session that were not taken yet
abbrev pub out_in : Option Session → List ℕ
out_in None = []
out_in (Some s) = s.out

-- whether a session is closed, or there is none
abbrev pub closed_in : Option Session → Bool
closed_in None = true
closed_in (Some s) = s.closed

-- the first octets for a session were taken
abbrev pub without_first : ℕ → Session → Session
without_first count s = record s { out = drop count s.out }

-- ---- drop_session

-- the sessions of other numbers
abbrev pub others : ℕ → List Session → List Session
others n sessions = filter (λ s. not (is_session n s)) sessions

-- A session is away: its subscriptions end, what was out to them is ready, its transactions and octets are gone.
abbrev pub dropped : ℕ → Server → Option Session → Server
dropped n b None = b
dropped n b (Some s) = record b { book = ended b.book n; sessions = others n b.sessions }

-- ---- take_fresh

-- whether octets were written for a session since it was last named
abbrev pub is_fresh : Session → Bool
is_fresh s = s.fresh

-- a session is named
abbrev pub named : Session → Session
named s = record s { fresh = false }

-- a session with fresh octets is named
pub record NamesFresh (old : Server) (n : ℕ) (new : Server) : Type 0 where
  pub session : Session
  pub found : session_of n old ≡ Some session
  pub was_fresh : session.fresh ≡ true
  pub changed : new ≡ changing n named old

-- What `take_fresh` answers: a session with fresh octets, which is named; or that there is none, and nothing has
-- changed.
abbrev pub FreshAnswer : Server → Server → Option ℕ → Type 0
FreshAnswer old new (Some n) = NamesFresh old n new
FreshAnswer old new None = (list_any is_fresh old.sessions ≡ false) × (new ≡ old)

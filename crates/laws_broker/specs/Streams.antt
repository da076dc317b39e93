-- What a broker's calls leave of a session, and what a session was fed in its life.
use Rattle.std.specs.Prelude.{◌≡◌, ℕ, Bool, false, ◌&&◌, ◌==◌, List, Some}
use Rattle.std.specs.List.{list_any}
use Rattle.broker_core.specs.Serving.{Server, nothing_incoming, session_of}
use Rattle.broker_core.specs.Streams.{AreFirst, FedInTurn, Untouched}
use Rattle.broker_core.specs.declared.session.Session.{Session}
use Rattle.laws_broker.specs.Lives.{BrokerCall, DoesCall, Dropped, FedTo, Lives, fed_in, handled_in, pieces_in}
use Rattle.laws_broker.specs.Lives.{was_taken}

-- whether a call takes a session away
abbrev pub drops : ℕ → BrokerCall → Bool
drops n (Dropped m) = n == m
drops n c = false

-- whether it takes it away, or takes a piece for it
abbrev pub touches : ℕ → BrokerCall → Bool
touches n (FedTo m fed answer) = n == m && was_taken answer
touches n c = drops n c

-- any other call leaves it there, with what it was fed, closed or not and connected or not as it was
abbrev pub OtherCallsLeaveIt : Type 0
OtherCallsLeaveIt =
    (full n : ℕ) (old new : Server) (c : BrokerCall) (s : Session) → touches n c ≡ false → DoesCall full old c new
    → session_of n old ≡ Some s → Untouched n old new

-- what a session takes in calls, of which none takes it away, is fed to it in turn
abbrev pub LivesFeedInTurn : Type 0
LivesFeedInTurn = (full n : ℕ) (old new : Server) (calls : List BrokerCall) (s : Session) → Lives full old calls new
    → list_any (drops n) calls ≡ false → session_of n old ≡ Some s → FedInTurn full n old (fed_in n calls) new

-- So from when it was opened until it is taken away: whatever other sessions did, its frames that had their step are
-- the first of all that it was fed, each once and in order.
abbrev pub LivesAreHandledInOrder : Type 0
LivesAreHandledInOrder =
    (full n : ℕ) (old new : Server) (calls : List BrokerCall) (s : Session) → Lives full old calls new
    → list_any (drops n) calls ≡ false → session_of n old ≡ Some s → s.incoming ≡ nothing_incoming
    → AreFirst s.server (handled_in n calls) (pieces_in n calls)

-- What a session was fed in its life among other sessions.
use Rattle.std.proofs.Common.{◌≡◌, ℕ, Bool, true, false, List, [], ◌∷◌, ◌++◌, Option, Some, None, Result, Ok, Err, refl}
use Rattle.std.proofs.Common.{sym, ap, ◌∙◌}
use Rattle.std.proofs.Common.{subst, ◌+◌}
use Rattle.std.specs.Prelude.{◌==◌, ◌&&◌, ◌||◌, if◌then◌else◌, is_some}
use Rattle.std.specs.List.{list_any}
use Rattle.std.proofs.lemmas.Bool.{eqb-true}
use Rattle.std.proofs.lemmas.List.Folds.{find-append}
use Rattle.broker_core.specs.Calls.{FreshAnswer, OpenAnswer, dropped, named, new_session, without_first}
use Rattle.broker_core.specs.Feeding.{FeedAnswer}
use Rattle.broker_core.specs.Serving.{Server, is_session, roster_of, session_of}
use Rattle.broker_core.specs.Streams.{Fed, FedInTurn, Took, whole, part, Untouched}
use Rattle.broker_core.specs.declared.fault.BrokerFault.{BrokerFault}
use Rattle.broker_core.specs.declared.fault.BrokerFault.TheVariants.{Memory, NoSession, TooMany}
use Rattle.broker_core.specs.declared.session.Session.{Session}
use Rattle.broker_core.proofs.Feedings.{handled_first}
use Rattle.broker_core.proofs.Left.{Seen, seen_in, seen_some, seen_taken}
use Rattle.broker_core.proofs.Streams.{same_session}
use Rattle.laws_broker.specs.Lives.{BrokerCall, Opened, FedTo, Dispatched, TakenFrom, Dropped, Named, Told, Dispatches}
use Rattle.laws_broker.specs.Lives.{DoesCall, fed_by}
use Rattle.laws_broker.specs.Lives.{FeedsWith, fed_in, was_taken}
use Rattle.laws_broker.specs.Streams.{drops, touches, OtherCallsLeaveIt, LivesFeedInTurn, LivesAreHandledInOrder}
use Rattle.laws_broker.proofs.Sessions.{others_left, turned}
use Rattle.laws_broker.proofs.Sparing.{Spares, spares_follow, unseen}
use Rattle.laws_broker.proofs.There.{Stays, StaysThere, call_follows, there_follow}

-- ---- what is seen of a session

-- what no call but its own changes of a session was kept
untouched_by : (n : ℕ) (old new : Server) (s : Session) → session_of n old ≡ Some s → Stays n old new
    → Untouched n old new
untouched_by n old new s found h =
    let u = seen_some (session_of n new) s (h ∙ ap seen_in found) in
    record {
      before = s;
      after = u.0;
      was = found;
      is = u.1.0;
      closed = ap (λ (x : Seen). x.closed) u.1.1;
      server = ap (λ (x : Seen). x.server) u.1.1;
      incoming = ap (λ (x : Seen). x.incoming) u.1.1;
    }

still : (n : ℕ) (old new : Server) → new ≡ old → Stays n old new
still n old new e = ap (λ (b : Server). seen_in (session_of n b)) e

-- ---- other calls

opening : (n : ℕ) (old new : Server) (s : Session) (answer : Result ℕ BrokerFault) → session_of n old ≡ Some s
    → OpenAnswer old new answer
    → Stays n old new
opening n old new s (Ok k) found h =
    let more = new_session (old.opened + 1) ∷ [] in
    ap (λ (b : Server). seen_in (session_of n b)) h.changed
    ∙ ap seen_in (find-append (is_session n) old.sessions more ∙ rw found refl)
opening n old new s (Err (Memory took)) found h = still n old new h.1
opening n old new s (Err NoSession) found h = absurd h
opening n old new s (Err TooMany) found h = still n old new h.1

naming : (n : ℕ) (old new : Server) (answer : Option ℕ) → FreshAnswer old new answer → Stays n old new
naming n old new (Some m) h =
    ap (λ (b : Server). seen_in (session_of n b)) h.changed
    ∙ unseen m n named old.sessions (m == n) refl (λ x. refl) (λ x. refl)
naming n old new None h = still n old new h.1

dispatching : (n : ℕ) (old new : Server) (answer : Bool) → Dispatches answer old new → Stays n old new
dispatching n old new true h = seen_taken n (roster_of old) (roster_of new) h.0.handed h.0.taken
dispatching n old new false h = seen_taken n (roster_of old) (roster_of new) h.handed h.taken

-- a session of another number goes away
dropping : (n m : ℕ) (b : Server) (o : Option Session) → (m == n) ≡ false → Stays n b (dropped m b o)
dropping n m b None d = refl
dropping n m b (Some s) d = ap seen_in (others_left m n b.sessions d)

feeding_other : (full n m : ℕ) (old new : Server) (piece : List ℕ) (answer : Result ℕ BrokerFault) → (m == n) ≡ false
    → FeedAnswer full old m piece new answer → Stays n old new
feeding_other full n m old new piece answer d h =
    (call_follows full m (λ frames b c. Spares m n b c) (spares_follow m n full) old piece new answer h).others d

took_only : (b : Bool) → (b && true) ≡ false → b ≡ false
took_only true e = e
took_only false e = refl

feeding : (full n m : ℕ) (old new : Server) (fed : Fed) (answer : Result ℕ BrokerFault)
    → touches n (FedTo m fed answer) ≡ false
    → FeedAnswer full old m fed.piece new answer → Stays n old new
feeding full n m old new fed (Ok count) d h =
    feeding_other full n m old new fed.piece (Ok count) (turned n m (took_only (n == m) d)) h
feeding full n m old new fed (Err (Memory true)) d h =
    feeding_other full n m old new fed.piece (Err (Memory true)) (turned n m (took_only (n == m) d)) h
feeding full n m old new fed (Err (Memory false)) d h = still n old new h.same
feeding full n m old new fed (Err NoSession) d h = still n old new h.1
feeding full n m old new fed (Err TooMany) d h = absurd h

other_stays : (full n : ℕ) (old new : Server) (c : BrokerCall) (s : Session) → touches n c ≡ false
    → DoesCall full old c new
    → session_of n old ≡ Some s → Stays n old new
other_stays full n old new (Opened answer) s d h found = opening n old new s answer found h
other_stays full n old new (FedTo m fed answer) s d h found = feeding full n m old new fed answer d h.0
other_stays full n old new (Dispatched answer) s d h found = dispatching n old new answer h
other_stays full n old new (TakenFrom m octets) s d h found =
    ap (λ (b : Server). seen_in (session_of n b)) h.3
    ∙ unseen m n (without_first h.0) old.sessions (m == n) refl (λ x. refl) (λ x. refl)
other_stays full n old new (Dropped m) s d h found =
    ap (λ (b : Server). seen_in (session_of n b)) h ∙ dropping n m old (session_of m old) (turned n m d)
other_stays full n old new (Named answer) s d h found = naming n old new answer h
other_stays full n old new (Told accepted) s d h found = ap (λ (b : Server). seen_in (session_of n b)) h.1

pub others_leave : OtherCallsLeaveIt
others_leave full n old new c s d h found = untouched_by n old new s found (other_stays full n old new c s d h found)

-- ---- calls, one after another

both : (n : ℕ) (old mid new : Server) → Untouched n old mid → Untouched n mid new → Untouched n old new
both n old mid new h k =
    let m : k.before ≡ h.after = same_session (session_of n mid) k.before h.after k.was h.is in
    record {
      before = h.before;
      after = k.after;
      was = h.was;
      is = k.is;
      closed = k.closed ∙ ap (λ (x : Session). x.closed) m ∙ h.closed;
      server = k.server ∙ ap (λ (x : Session). x.server) m ∙ h.server;
      incoming = k.incoming ∙ ap (λ (x : Session). x.incoming) m ∙ h.incoming;
    }

before : (full n : ℕ) (old mid new : Server) (feeds : List Fed) → Untouched n old mid → FedInTurn full n mid feeds new
    → FedInTurn full n old feeds new
before full n old mid new [] u h = both n old mid new u h
before full n old mid new (f ∷ feeds) u h = (h.0, (h.1.0, (both n old mid h.0 u h.1.1.0, h.1.1.1, h.1.1.2)))

-- what is left of a life behind a call, wherever the session is found then
abbrev Rest : ℕ → ℕ → Server → List Fed → Server → Type 0
Rest full n mid rest new = (t : Session) → session_of n mid ≡ Some t → FedInTurn full n mid rest new

untouched_turn : (full n : ℕ) (old mid new : Server) (rest : List Fed) → Untouched n old mid → Rest full n mid rest new
    → FedInTurn full n old rest new
untouched_turn full n old mid new rest u k = before full n old mid new rest u (k u.after u.is)

some_of : (o : Option Session) → is_some o ≡ true → (t : Session) × (o ≡ Some t)
some_of None e = absurd cc
some_of (Some t) e = (t, refl)

-- a session is still there behind a piece of its own
still_there : (full n : ℕ) (old mid : Server) (piece : List ℕ) (answer : Result ℕ BrokerFault) (s : Session)
    → session_of n old ≡ Some s
    → FeedAnswer full old n piece mid answer → (t : Session) × (session_of n mid ≡ Some t)
still_there full n old mid piece answer s found h =
    some_of (session_of n mid)
    (call_follows full n (λ frames b c. StaysThere n b c) (there_follow full n n) old piece mid answer h
    ∙ ap is_some found)

-- a piece that the session took
took_turn : (full n : ℕ) (old mid new : Server) (f : Fed) (rest : List Fed) (s t : Session) → session_of n old ≡ Some s
    → Took full n old f mid → session_of n mid ≡ Some t → Rest full n mid rest new → FedInTurn full n old (f ∷ rest) new
took_turn full n old mid new f rest s t found took there k =
    (old, (mid, (untouched_by n old old s found refl, took, k t there)))

-- what a session takes of a piece in a call, which may be its own
abbrev own_fed : Fed → Result ℕ BrokerFault → Bool → List Fed
own_fed fed answer b = if b && was_taken answer then fed ∷ [] else []

own_turn : (full n : ℕ) (old mid new : Server) (fed : Fed) (answer : Result ℕ BrokerFault) (s : Session)
    (rest : List Fed)
    → session_of n old ≡ Some s → FeedsWith full old n fed mid answer → Rest full n mid rest new
    → FedInTurn full n old (own_fed fed answer true ++ rest) new
own_turn full n old mid new fed (Ok count) s rest found h k =
    let t = still_there full n old mid fed.piece (Ok count) s found h.0 in
    took_turn full n old mid new fed rest s t.0 found (whole count h.0 h.1) t.1 k
own_turn full n old mid new fed (Err (Memory true)) s rest found h k =
    let t = still_there full n old mid fed.piece (Err (Memory true)) s found h.0 in
    took_turn full n old mid new fed rest s t.0 found (part h.0 h.1) t.1 k
own_turn full n old mid new fed (Err (Memory false)) s rest found h k =
    untouched_turn full n old mid new rest (untouched_by n old mid s found (still n old mid h.0.same)) k
own_turn full n old mid new fed (Err NoSession) s rest found h k =
    untouched_turn full n old mid new rest (untouched_by n old mid s found (still n old mid h.0.1)) k
own_turn full n old mid new fed (Err TooMany) s rest found h k = absurd h.0

-- a piece for a session, which may be this one
piece_turn : (full n m : ℕ) (old mid new : Server) (fed : Fed) (answer : Result ℕ BrokerFault) (s : Session)
    (rest : List Fed)
    (b : Bool) → (n == m) ≡ b → session_of n old ≡ Some s → FeedsWith full old m fed mid answer
    → Rest full n mid rest new
    → FedInTurn full n old (own_fed fed answer b ++ rest) new
piece_turn full n m old mid new fed answer s rest true e found h k =
    own_turn full n old mid new fed answer s rest found
    (subst (λ (x : ℕ). FeedsWith full old x fed mid answer) (sym (eqb-true n m e)) h) k
piece_turn full n m old mid new fed answer s rest false e found h k =
    untouched_turn full n old mid new rest
    (untouched_by n old mid s found (feeding_other full n m old mid fed.piece answer (turned n m e) h.0)) k

quiet_turn : (full n : ℕ) (old mid new : Server) (c : BrokerCall) (s : Session) (rest : List Fed) → touches n c ≡ false
    → session_of n old ≡ Some s → DoesCall full old c mid → Rest full n mid rest new → FedInTurn full n old rest new
quiet_turn full n old mid new c s rest d found h k =
    untouched_turn full n old mid new rest (others_leave full n old mid c s d h found) k

call_turn : (full n : ℕ) (old mid new : Server) (c : BrokerCall) (s : Session) (rest : List Fed) → drops n c ≡ false
    → session_of n old ≡ Some s
    → DoesCall full old c mid → Rest full n mid rest new → FedInTurn full n old (fed_by n c ++ rest) new
call_turn full n old mid new (FedTo m fed answer) s rest d found h k =
    piece_turn full n m old mid new fed answer s rest (n == m) refl found h k
call_turn full n old mid new (Opened answer) s rest d found h k =
    quiet_turn full n old mid new (Opened answer) s rest refl found h k
call_turn full n old mid new (Dispatched b) s rest d found h k =
    quiet_turn full n old mid new (Dispatched b) s rest refl found h k
call_turn full n old mid new (TakenFrom m i) s rest d found h k =
    quiet_turn full n old mid new (TakenFrom m i) s rest refl found h k
call_turn full n old mid new (Dropped m) s rest d found h k =
    quiet_turn full n old mid new (Dropped m) s rest d found h k
call_turn full n old mid new (Named answer) s rest d found h k =
    quiet_turn full n old mid new (Named answer) s rest refl found h k
call_turn full n old mid new (Told a) s rest d found h k = quiet_turn full n old mid new (Told a) s rest refl found h k

neither : (a b : Bool) → (a || b) ≡ false → (a ≡ false) × (b ≡ false)
neither true b e = absurd cc
neither false b e = (refl, e)

pub fed_in_turn : LivesFeedInTurn
fed_in_turn full n old new [] s h d found = untouched_by n old new s found (still n old new h)
fed_in_turn full n old new (c ∷ calls) s h d found =
    let k = neither (drops n c) (list_any (drops n) calls) d in
    call_turn full n old h.0 new c s (fed_in n calls) k.0 found h.1
    (λ t there. fed_in_turn full n h.0 new calls t h.2 k.1 there)

pub handled_in_order : LivesAreHandledInOrder
handled_in_order full n old new calls s h d found e =
    handled_first full n old new (fed_in n calls) s (fed_in_turn full n old new calls s h d found) found e

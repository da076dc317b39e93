-- What a session handled is spelled in what it was fed.
use Rattle.std.proofs.Common.{◌≡◌, ℕ, zero, suc, ◌+◌, ◌<◌, ◌≤◌, Bool, true, false, List, [], ◌∷◌, ◌++◌, Option, Some}
use Rattle.std.proofs.Common.{None, refl}
use Rattle.std.proofs.Common.{sym, ap}
use Rattle.std.proofs.Common.{◌∙◌, subst, append_assoc, inr, arith}
use Rattle.std.specs.Prelude.{◌==◌, is_some, Result, Ok, Err}
use Rattle.std.specs.List.{flat_map}
use Rattle.std.proofs.lemmas.Bool.{eqb-true, eqb-false}
use Rattle.std.proofs.lemmas.List.{append-nil}
use Rattle.std.proofs.lemmas.List.Concat.{flat_map-append}
use Rattle.broker_core.specs.Calls.{OpensSession, dropped, empty, named, new_session, without_first}
use Rattle.broker_core.specs.Feeding.{Dealing}
use Rattle.broker_core.specs.Serving.{Decided, Server, roster_of, session_of}
use Rattle.broker_core.specs.Streams.{AreFirst, Fed, Took, part, whole}
use Rattle.broker_core.specs.declared.session.Session.{Session}
use Rattle.broker_core.proofs.Feedings.{Is, held, moved, took}
use Rattle.broker_core.proofs.Left.{Seen, seen_in, seen_some, seen_taken}
use Rattle.broker_core.specs.declared.fault.BrokerFault.{BrokerFault}
use Rattle.broker_core.specs.declared.fault.BrokerFault.TheVariants.{Memory, NoSession, TooMany}
use Rattle.laws_broker.specs.Lives.{BrokerCall, Opened, FedTo, Dispatched, TakenFrom, Dropped, Named, Told, DoesCall}
use Rattle.laws_broker.specs.Lives.{FeedsWith, Lives, fed_by}
use Rattle.laws_broker.specs.Lives.{fed_in, handled_in, pieces_in, was_taken}
use Rattle.laws_broker.proofs.Sessions.{new_other, none_left, others_left, turned}
use Rattle.laws_broker.proofs.Sparing.{same_opened, took_spares, unseen}

-- ---- what one call adds

-- the frames that a session handled in a call
abbrev pub handled_by : ℕ → BrokerCall → List Decided
handled_by m c = flat_map (λ f. f.frames) (fed_by m c)

-- what it was fed in it
abbrev pub pieces_by : ℕ → BrokerCall → List ℕ
pieces_by m c = flat_map (λ f. f.piece) (fed_by m c)

pub handled_more : (m : ℕ) (c : BrokerCall) (calls : List BrokerCall)
    → handled_in m (c ∷ calls) ≡ handled_by m c ++ handled_in m calls
handled_more m c calls = flat_map-append (λ (f : Fed). f.frames) (fed_by m c) (fed_in m calls)

pieces_more : (m : ℕ) (c : BrokerCall) (calls : List BrokerCall)
    → pieces_in m (c ∷ calls) ≡ pieces_by m c ++ pieces_in m calls
pieces_more m c calls = flat_map-append (λ (f : Fed). f.piece) (fed_by m c) (fed_in m calls)

-- a piece was taken; or none was, and nothing has changed
pub data Answered (full n : ℕ) (old : Server) (fed : Fed) (new : Server) (answer : Result ℕ BrokerFault) : Type 0 where
  taken : was_taken answer ≡ true → Took full n old fed new → Answered full n old fed new answer
  thrown : was_taken answer ≡ false → new ≡ old → fed.frames ≡ [] → Answered full n old fed new answer

pub answered : (full n : ℕ) (old : Server) (fed : Fed) (new : Server) (answer : Result ℕ BrokerFault)
    → FeedsWith full old n fed new answer
    → Answered full n old fed new answer
answered full n old fed new (Ok count) h = taken refl (whole count h.0 h.1)
answered full n old fed new (Err (Memory true)) h = taken refl (part h.0 h.1)
answered full n old fed new (Err (Memory false)) h = thrown refl h.0.same h.1
answered full n old fed new (Err NoSession) h = thrown refl h.0.1 h.1
answered full n old fed new (Err TooMany) h = absurd h.0

-- ---- what was heard

-- What a number handled and was fed: its session is still to come; or it is there; or it is gone.
pub data Heard (m : ℕ) (h : List Decided) (t : List ℕ) (b : Server) : Type 0 where
  never : b.opened < m → session_of m b ≡ None → h ≡ [] → t ≡ [] → Heard m h t b
  there : m ≤ b.opened → Is false h t m b → Heard m h t b
  gone : m ≤ b.opened → session_of m b ≡ None → AreFirst false h t → Heard m h t b

first_of_is : (m : ℕ) (h : List Decided) (t : List ℕ) (b : Server) → Is false h t m b → AreFirst false h t
first_of_is m h t b i =
    record { front = i.state.text; rest = i.state.rest; spells = i.state.spells; whole = i.state.whole }

first_of_none : (h : List Decided) (t : List ℕ) → h ≡ [] → t ≡ [] → AreFirst false h t
first_of_none h t e k = rw (e, k) (record { front = []; rest = []; spells = refl; whole = refl })

pub heard_first : (m : ℕ) (h : List Decided) (t : List ℕ) (b : Server) → Heard m h t b → AreFirst false h t
heard_first m h t b (never low none e k) = first_of_none h t e k
heard_first m h t b (there low i) = first_of_is m h t b i
heard_first m h t b (gone low none f) = f

-- ---- what isn't for it

unseen_none : (o : Option Session) → seen_in o ≡ None → o ≡ None
unseen_none None e = refl
unseen_none (Some s) e = absurd cc

seen_is : (m : ℕ) (h : List Decided) (t : List ℕ) (old new : Server)
    → seen_in (session_of m new) ≡ seen_in (session_of m old)
    → Is false h t m old → Is false h t m new
seen_is m h t old new e i =
    let u = seen_some (session_of m new) i.session (e ∙ ap seen_in i.found) in
    record {
      session = u.0;
      found = u.1.0;
      state = moved false h t i.session u.0 i.state (ap (λ (x : Seen). x.closed) u.1.1)
          (ap (λ (x : Seen). x.server) u.1.1)
          (ap (λ (x : Seen). x.incoming) u.1.1);
    }

none_still : (m : ℕ) (old new : Server) → seen_in (session_of m new) ≡ seen_in (session_of m old)
    → session_of m old ≡ None
    → session_of m new ≡ None
none_still m old new e none = unseen_none (session_of m new) (e ∙ ap seen_in none)

heard_on : (m : ℕ) (h : List Decided) (t : List ℕ) (old new : Server)
    → seen_in (session_of m new) ≡ seen_in (session_of m old)
    → old.opened ≤ new.opened → (old.opened < m → new.opened < m) → Heard m h t old → Heard m h t new
heard_on m h t old new e more still (never low none a c) = never (still low) (none_still m old new e none) a c
heard_on m h t old new e more still (there low i) = there (omega (arith, low, more)) (seen_is m h t old new e i)
heard_on m h t old new e more still (gone low none f) = gone (omega (arith, low, more)) (none_still m old new e none) f

heard_same : (m : ℕ) (h : List Decided) (t : List ℕ) (old new : Server)
    → seen_in (session_of m new) ≡ seen_in (session_of m old)
    → new.opened ≡ old.opened → Heard m h t old → Heard m (h ++ []) (t ++ []) new
heard_same m h t old new e k g =
    rw (append-nil h, append-nil t) (heard_on m h t old new e (omega (arith, k)) (λ low. omega (arith, k, low)) g)

heard_still : (m : ℕ) (h : List Decided) (t : List ℕ) (old new : Server) → new ≡ old → Heard m h t old
    → Heard m (h ++ []) (t ++ []) new
heard_still m h t old new e g = rw (append-nil h, append-nil t, e) g

-- ---- a session is opened

new_is : (m : ℕ) (new : Server) → session_of m new ≡ Some (new_session m) → Is false [] [] m new
new_is m new found = record {
  session = new_session m;
  found = found;
  state = record {
    text = [];
    rest = [];
    spells = refl;
    whole = refl;
    next = inr (record { server = refl; incoming = held [] (0, refl) refl refl refl });
  };
}

opened_here : (m : ℕ) (h : List Decided) (t : List ℕ) (old new : Server) → OpensSession old m new → Heard m h t old
    → Heard m h t new
opened_here m h t old new o (never low none a c) =
    let k : new.opened ≡ old.opened + 1 = ap (λ (b : Server). b.opened) o.changed in
    let next = o.next in
    rw (a, c) (there (omega (arith, k, next)) (new_is m new o.found))
opened_here m h t old new o (there low i) = absurd (let next = o.next in omega (arith, next, low))
opened_here m h t old new o (gone low none f) = absurd (let next = o.next in omega (arith, next, low))

opened_step : (k m : ℕ) (h : List Decided) (t : List ℕ) (old new : Server) (v : Bool) → (m == k) ≡ v
    → OpensSession old k new
    → Heard m h t old → Heard m h t new
opened_step k m h t old new true e o g = opened_here m h t old new (rw (eqb-true m k e) o) g
opened_step k m h t old new false e o g =
    let more : new.opened ≡ old.opened + 1 = ap (λ (b : Server). b.opened) o.changed in
    let next : k ≡ old.opened + 1 = o.next in
    let apart : (m == old.opened + 1) ≡ false = ap (λ i. m == i) (sym next) ∙ e in
    heard_on m h t old new
    (ap (λ b. seen_in (session_of m b)) o.changed
    ∙ ap seen_in (new_other m (old.opened + 1) old.sessions (session_of m old) refl apart))
    (omega (arith, more)) (λ low. above low (λ z. eqb-false m (old.opened + 1) apart z) more) g
  where
    above : old.opened < m → (m ≡ old.opened + 1 → ⊥) → new.opened ≡ old.opened + 1 → new.opened < m
    above low differs k = omega (arith, low, differs, k)

-- ---- a session is fed

none_there : (o : Option Session) (P : Type 0) → o ≡ None → is_some o ≡ true → P
none_there None P e k = absurd cc
none_there (Some s) P e k = absurd cc

was_there : (full m : ℕ) (old : Server) (f : Fed) (new : Server) → Took full m old f new
    → is_some (session_of m old) ≡ true
was_there full m old f new (whole count h e) = h.there
was_there full m old f new (part h e) = h.there

fed_here : (full m : ℕ) (h : List Decided) (t : List ℕ) (old new : Server) (f : Fed) → Took full m old f new
    → Heard m h t old
    → Heard m (h ++ f.frames) (t ++ f.piece) new
fed_here full m h t old new f k (never low none a c) =
    none_there (session_of m old) _ none (was_there full m old f new k)
fed_here full m h t old new f k (there low i) =
    let same = (took_spares m m full old f new k).opened in
    there (omega (arith, low, same)) (took full m false h t old new f i k)
fed_here full m h t old new f k (gone low none x) = none_there (session_of m old) _ none (was_there full m old f new k)

fed_step : (full k m : ℕ) (h : List Decided) (t : List ℕ) (old new : Server) (f : Fed) (answer : Result ℕ BrokerFault)
    (v : Bool)
    → (m == k) ≡ v → Answered full k old f new answer → Heard m h t old
    → Heard m (h ++ handled_by m (FedTo k f answer)) (t ++ pieces_by m (FedTo k f answer)) new
fed_step full k m h t old new f answer true e (taken was o) g =
    rw (e, was, append-nil f.frames, append-nil f.piece) (fed_here full m h t old new f (rw (eqb-true m k e) o) g)
fed_step full k m h t old new f answer true e (thrown was same none) g = rw (e, was) (heard_still m h t old new same g)
fed_step full k m h t old new f answer false e (taken was o) g =
    let s = took_spares k m full old f new o in
    rw e (heard_same m h t old new (s.others (turned m k e)) s.opened g)
fed_step full k m h t old new f answer false e (thrown was same none) g = rw e (heard_still m h t old new same g)

-- ---- a session is dropped

dropped_here : (m : ℕ) (h : List Decided) (t : List ℕ) (b : Server) (o : Option Session) → session_of m b ≡ o
    → Heard m h t b
    → Heard m h t (dropped m b o)
dropped_here m h t b None e g = g
dropped_here m h t b (Some s) e (never low none a c) = never low (none_left m b.sessions) a c
dropped_here m h t b (Some s) e (there low i) = gone low (none_left m b.sessions) (first_of_is m h t b i)
dropped_here m h t b (Some s) e (gone low none f) = gone low (none_left m b.sessions) f

dropped_there : (k m : ℕ) (h : List Decided) (t : List ℕ) (b : Server) (o : Option Session) → (k == m) ≡ false
    → Heard m h t b
    → Heard m (h ++ []) (t ++ []) (dropped k b o)
dropped_there k m h t b None d g = heard_same m h t b b refl refl g
dropped_there k m h t b (Some s) d g =
    heard_same m h t b (dropped k b (Some s)) (ap seen_in (others_left k m b.sessions d)) refl g

dropped_step : (k m : ℕ) (h : List Decided) (t : List ℕ) (b : Server) (v : Bool) → (m == k) ≡ v → Heard m h t b
    → Heard m (h ++ []) (t ++ []) (dropped k b (session_of k b))
dropped_step k m h t b true e g =
    rw (append-nil h, append-nil t, ← eqb-true m k e) (dropped_here m h t b (session_of m b) refl g)
dropped_step k m h t b false e g = dropped_there k m h t b (session_of k b) (turned m k e) g

-- ---- each call

dealt_call : (m : ℕ) (h : List Decided) (t : List ℕ) (old new : Server) → Dealing old new → Heard m h t old
    → Heard m (h ++ []) (t ++ []) new
dealt_call m h t old new d g =
    heard_same m h t old new (seen_taken m (roster_of old) (roster_of new) d.handed d.taken)
    (same_opened m m d.handed (roster_of old) (roster_of new) d.taken) g

pub heard_call : (full m : ℕ) (h : List Decided) (t : List ℕ) (c : BrokerCall) (old new : Server)
    → DoesCall full old c new
    → Heard m h t old
    → Heard m (h ++ handled_by m c) (t ++ pieces_by m c) new
heard_call full m h t (Opened (Ok k)) old new d g =
    rw (append-nil h, append-nil t) (opened_step k m h t old new (m == k) refl d g)
heard_call full m h t (Opened (Err (Memory took))) old new d g = heard_still m h t old new d.1 g
heard_call full m h t (Opened (Err NoSession)) old new d g = absurd d
heard_call full m h t (Opened (Err TooMany)) old new d g = heard_still m h t old new d.1 g
heard_call full m h t (FedTo k f answer) old new d g =
    fed_step full k m h t old new f answer (m == k) refl (answered full k old f new answer d) g
heard_call full m h t (Dispatched true) old new d g = dealt_call m h t old new d.0 g
heard_call full m h t (Dispatched false) old new d g = dealt_call m h t old new d g
heard_call full m h t (TakenFrom k octets) old new d g = heard_same m h t old new
    (ap (λ b. seen_in (session_of m b)) d.3
    ∙ unseen k m (without_first d.0) old.sessions (k == m) refl (λ s. refl) (λ s. refl))
    (ap (λ (b : Server). b.opened) d.3) g
heard_call full m h t (Dropped k) old new d g = rw d (dropped_step k m h t old (m == k) refl g)
heard_call full m h t (Named (Some k)) old new d g = heard_same m h t old new
    (ap (λ b. seen_in (session_of m b)) d.changed ∙ unseen k m named old.sessions (k == m) refl (λ s. refl) (λ s. refl))
    (ap (λ (b : Server). b.opened) d.changed) g
heard_call full m h t (Named None) old new d g = heard_still m h t old new d.1 g
heard_call full m h t (Told accepted) old new d g =
    heard_same m h t old new (ap (λ b. seen_in (session_of m b)) d.1) (ap (λ (b : Server). b.opened) d.1) g

heard_calls : (full m : ℕ) (h : List Decided) (t : List ℕ) (calls : List BrokerCall) (old new : Server)
    → Lives full old calls new
    → Heard m h t old
    → Heard m (h ++ handled_in m calls) (t ++ pieces_in m calls) new
heard_calls full m h t [] old new d g = rw (append-nil h, append-nil t, d) g
heard_calls full m h t (c ∷ calls) old new d g =
    subst (λ l. Heard m l (t ++ pieces_in m (c ∷ calls)) new)
    (append_assoc h (handled_by m c) (handled_in m calls) ∙ ap (λ l. h ++ l) (sym (handled_more m c calls)))
    (subst (λ l. Heard m ((h ++ handled_by m c) ++ handled_in m calls) l new)
    (append_assoc t (pieces_by m c) (pieces_in m calls) ∙ ap (λ l. t ++ l) (sym (pieces_more m c calls)))
    (heard_calls full m (h ++ handled_by m c) (t ++ pieces_by m c) calls d.0 new d.2
    (heard_call full m h t c old d.0 d.1 g)))

pub nothing_heard : (m : ℕ) → Heard m [] [] empty
nothing_heard zero = gone (omega arith) refl (first_of_none [] [] refl refl)
nothing_heard (suc m) = never (omega arith) refl refl refl

-- what calls handled of a session is spelled at the front of what they fed to it
pub handled_are_fed : (full m : ℕ) (calls : List BrokerCall) (b : Server) → Lives full empty calls b
    → AreFirst false (handled_in m calls) (pieces_in m calls)
handled_are_fed full m calls b d =
    heard_first m (handled_in m calls) (pieces_in m calls) b (heard_calls full m [] [] calls empty b d
    (nothing_heard m))

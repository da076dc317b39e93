-- What the steps of one session leave of another.
use Rattle.std.proofs.Common.{◌≡◌, ℕ, Bool, true, false, cond, List, [], ◌∷◌, ◌++◌, Option, Some, None, Result, Ok, Err}
use Rattle.std.proofs.Common.{refl, sym, ap}
use Rattle.std.proofs.Common.{◌∙◌, subst}
use Rattle.std.proofs.Common.{arith, append-nil}
use Rattle.std.specs.Prelude.{◌==◌, is_some}
use Rattle.std.specs.List.{find}
use Rattle.std.proofs.lemmas.Bool.{eqb-true}
use Rattle.std.proofs.lemmas.Bool.Decides.{nat_tests}
use Rattle.broker_core.specs.Feeding.{Dealing, Ends, closed, awaits, faulty, FeedAnswer, Handles, HandlesAll, Stops}
use Rattle.broker_core.specs.Feeding.{TakesDecided, fed}
use Rattle.broker_core.specs.Feeding.{taking}
use Rattle.broker_core.specs.Feeding.{at_frame, in_step, in_deals, at_fault, at_end, with_incoming, with_waiting}
use Rattle.broker_core.specs.Serving.{Decided, Part, Server, changing, changing_part, is_session, part, refused}
use Rattle.broker_core.specs.Serving.{roster_of, served}
use Rattle.broker_core.specs.Serving.{session_of}
use Rattle.broker_core.specs.Serving.{step, with_fault, with_session}
use Rattle.broker_core.specs.declared.fault.BrokerFault.{BrokerFault}
use Rattle.broker_core.specs.declared.fault.BrokerFault.TheVariants.{Memory, NoSession, TooMany}
use Rattle.broker_core.specs.declared.fault.FrameRefusal.TheVariants.{BadFrame}
use Rattle.broker_core.specs.declared.incoming.Incoming.{Incoming}
use Rattle.broker_core.specs.declared.session.Session.{Session}
use Rattle.broker_core.specs.Streams.{stopped_frames}
use Rattle.laws_broker.specs.Lives.{frames_feeding}
use Rattle.broker_core.proofs.Left.{seen_in, seen_taken, served_number}

-- ---- a relation that each part of a call keeps

-- a change of a session that leaves its number and its transactions
pub record Spares (f : Session → Session) : Type 0 where
  pub number : (s : Session) → (f s).number ≡ s.number
  pub transactions : (s : Session) → (f s).transactions ≡ s.transactions

-- a relation of brokers and of the frames that had their step between them, which each part of a session's calls keeps
pub record Follows (full m : ℕ) (R : List Decided → Server → Server → Type 0) : Type 0 where
  pub same : (b : Server) → R [] b b
  pub after : (frames more : List Decided) (a b c : Server) → R frames a b → R more b c → R (frames ++ more) a c
  pub changes : (f : Session → Session) (b : Server) → Spares f → R [] b (changing m f b)
  pub steps : (d : Decided) (b : Server) → R (d ∷ []) b (step full m d b)
  pub faults : (b : Server) → R [] b (with_fault m b)
  pub deals : (old new : Server) → Dealing old new → R [] old new

abbrev pub spares_left : (left : Incoming) → Spares (with_incoming left)
spares_left left = record { number = λ s. refl; transactions = λ s. refl }

spares_if : (b : Bool) (s : Session) (i : Incoming)
    → ((cond b s (record s { incoming = i })).number ≡ s.number)
    × ((cond b s (record s { incoming = i })).transactions ≡ s.transactions)
spares_if true s i = (refl, refl)
spares_if false s i = (refl, refl)

pub spares_piece : (piece : List ℕ) → Spares (taking piece)
spares_piece piece = record {
  number = λ s. (spares_if s.closed s (fed piece s.incoming)).0;
  transactions = λ s. (spares_if s.closed s (fed piece s.incoming)).1;
}

module _ (full m : ℕ) (R : List Decided → Server → Server → Type 0) (k : Follows full m R) where
  still : (old new : Server) → new ≡ old → R [] old new
  still old new e = subst (λ (b : Server). R [] old b) (sym e) (k.same old)

  changed : (f : Session → Session) (old new : Server) → Spares f → new ≡ changing m f old → R [] old new
  changed f old new n e = subst (λ (b : Server). R [] old b) (sym e) (k.changes f old n)

  then_more : (frames : List Decided) (a b c : Server) → R frames a b → R [] b c → R frames a c
  then_more frames a b c h j = subst (λ l. R l a c) (append-nil frames) (k.after frames [] a b c h j)

  framed : (old mid : Server) (d : Decided) → TakesDecided old m d mid → R (d ∷ []) old (step full m d mid)
  framed old mid d t =
      k.after [] (d ∷ []) old mid (step full m d mid)
      (changed (with_incoming t.left) old mid (spares_left t.left) t.changed) (k.steps d mid)

  handled : (old new : Server) (d : Decided) → Handles full m old d new → R (d ∷ []) old new
  handled old new d h =
      k.after (d ∷ []) [] old (step full m d h.taken) new (framed old h.taken d h.takes)
      (k.deals (step full m d h.taken) new h.settles.0)

  all_handled : (old new : Server) (frames : List Decided) → HandlesAll full m old frames new → R frames old new
  all_handled old new [] h = still old new h
  all_handled old new (d ∷ frames) h =
      k.after (d ∷ []) frames old h.0 new (handled old h.0 d h.1) (all_handled h.0 new frames h.2)

  at_end_of : (old new : Server) → Ends old m new → R [] old new
  at_end_of old new (closed s f c e) = still old new e
  at_end_of old new (awaits s left o h e) = changed (with_incoming left) old new (spares_left left) e
  at_end_of old new (faulty s left o h e) =
      let mid = changing m (with_incoming left) old in
      k.after [] [] old mid new (k.changes (with_incoming left) old (spares_left left))
      (subst (λ (b : Server). R [] mid b) (sym e) (k.faults mid))

  stopped : (old new : Server) (h : Stops full m old new) → R (stopped_frames h) old new
  stopped old new (at_frame e) = still old new e
  stopped old new (in_step d s left o t e) =
      changed (with_incoming (with_waiting d left)) old new (spares_left (with_waiting d left)) e
  stopped old new (in_deals d mid t deals) =
      k.after (d ∷ []) [] old (step full m d mid) new (framed old mid d t) (k.deals (step full m d mid) new deals)
  stopped old new (at_fault s left o h e) = changed (with_incoming left) old new (spares_left left) e
  stopped old new (at_end mid h deals) = k.after [] [] old mid new (at_end_of old mid h) (k.deals mid new deals)

  begun : (old new : Server) (piece : List ℕ) (frames : List Decided)
      → HandlesAll full m (changing m (taking piece) old) frames new
      → R frames old new
  begun old new piece frames h =
      let mid = changing m (taking piece) old in
      k.after [] frames old mid new (k.changes (taking piece) old (spares_piece piece)) (all_handled mid new frames h)

  pub call_follows : (old : Server) (piece : List ℕ) (new : Server) (answer : Result ℕ BrokerFault)
      → (h : FeedAnswer full old m piece new answer) → R (frames_feeding full old m piece new answer h) old new
  call_follows old piece new (Ok count) h =
      then_more h.frames old h.ended new
      (then_more h.frames old h.handled h.ended (begun old h.handled piece h.frames h.handles)
      (at_end_of h.handled h.ended h.ends))
      (k.deals h.ended new h.settles.0)
  call_follows old piece new (Err (Memory true)) h =
      k.after h.frames (stopped_frames h.stops) old h.handled new (begun old h.handled piece h.frames h.handles)
      (stopped h.handled new h.stops)
  call_follows old piece new (Err (Memory false)) h = still old new h.same
  call_follows old piece new (Err NoSession) h = still old new h.1
  call_follows old piece new (Err TooMany) h = absurd h

-- ---- numbers

same_number : (a b m : ℕ) → (a == m) ≡ true → (b == m) ≡ true → a ≡ b
same_number a b m h k = grind (arith, nat_tests)

passes_step : (p : Session → Bool) (x : Session) (xs : List Session) (s : Session) (b : Bool) → p x ≡ b
    → (find p xs ≡ Some s → p s ≡ true) → find p (x ∷ xs) ≡ Some s → p s ≡ true
passes_step p x xs s true e ih h =
    let k : Some x ≡ Some s = rw e at h in
    let l : x ≡ s = cc in
    ap p (sym l) ∙ e
passes_step p x xs s false e ih h = ih (rw e at h)

pub found_passes : (p : Session → Bool) (xs : List Session) (s : Session) → find p xs ≡ Some s → p s ≡ true
found_passes p [] s h = cc
found_passes p (x ∷ xs) s h = passes_step p x xs s (p x) refl (found_passes p xs s) h

-- a session that is found has the number
pub found_number : (n : ℕ) (xs : List Session) (s : Session) → find (is_session n) xs ≡ Some s → s.number ≡ n
found_number n xs s h = eqb-true s.number n (found_passes (is_session n) xs s h)

-- ---- a session of another number

-- what is seen of a session stays
abbrev pub Stays : ℕ → Server → Server → Type 0
Stays n old new = seen_in (session_of n new) ≡ seen_in (session_of n old)

-- ---- a session that is there

-- a change of the sessions of one number keeps it
abbrev Same : ℕ → ℕ → (Session → Session) → Type 0
Same n m f = (s : Session) → is_session m s ≡ true → is_session n (f s) ≡ is_session n s

there_step : (n m : ℕ) (f : Session → Session) (s : Session) (ss : List Session) (t u : Bool) → is_session n s ≡ t
    → is_session m s ≡ u
    → Same n m f → is_some (find (is_session n) (with_session m f ss)) ≡ is_some (find (is_session n) ss)
    → is_some (find (is_session n) (with_session m f (s ∷ ss))) ≡ is_some (find (is_session n) (s ∷ ss))
there_step n m f s ss true true k e a ih = let p = a s e ∙ k in rw (e, p, k) refl
there_step n m f s ss false true k e a ih = let p = a s e ∙ k in rw (e, p, k) refl
there_step n m f s ss true false k e a ih = rw (e, k) refl
there_step n m f s ss false false k e a ih = rw (e, k) ih

there_found : (n m : ℕ) (f : Session → Session) → Same n m f → (ss : List Session)
    → is_some (find (is_session n) (with_session m f ss)) ≡ is_some (find (is_session n) ss)
there_found n m f a [] = refl
there_found n m f a (s ∷ ss) =
    there_step n m f s ss (is_session n s) (is_session m s) refl refl a (there_found n m f a ss)

-- a session stays there
abbrev pub StaysThere : ℕ → Server → Server → Type 0
StaysThere n old new = is_some (session_of n new) ≡ is_some (session_of n old)

part_there : (n m : ℕ) (g : Part → Part) (b : Server) → ((p : Part) → (g p).session.number ≡ p.session.number)
    → (o : Option Session) → session_of m b ≡ o → StaysThere n b (changing_part m g b o)
part_there n m g b k None e = refl
part_there n m g b k (Some s) e =
    let t = (g (part b.book s)).session in
    let own : (s.number == m) ≡ true = found_passes (is_session m) b.sessions s e in
    there_found n m (λ _. t) (λ x h. ap (λ j. j == n) (k (part b.book s) ∙ same_number s.number x.number m own h))
    b.sessions

some_seen : (o : Option Session) → is_some (seen_in o) ≡ is_some o
some_seen None = refl
some_seen (Some s) = refl

-- the calls of any session leave each one there
pub there_follow : (full n m : ℕ) → Follows full m (λ frames old new. StaysThere n old new)
there_follow full n m = record {
  same = λ b. refl;
  after = λ frames more a b c h k. k ∙ h;
  changes = λ f b k. there_found n m f (λ s h. ap (λ j. j == n) (k.number s)) b.sessions;
  steps = λ frame b. part_there n m (served full frame) b (served_number full frame) (session_of m b) refl;
  faults = λ b. part_there n m (refused BadFrame None) b (λ p. refl) (session_of m b) refl;
  deals = λ old new h. sym (some_seen (session_of n new))
      ∙ ap is_some (seen_taken n (roster_of old) (roster_of new) h.handed h.taken) ∙ some_seen (session_of n old);
}

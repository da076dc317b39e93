-- What stands of a broker behind each call of `feed`.
use Rattle.std.proofs.Common.{◌≡◌, ℕ, Bool, true, false, List, [], ◌∷◌, ◌++◌, Option, Some, refl, subst}
use Rattle.std.proofs.Common.{append_assoc}
use Rattle.std.specs.Prelude.{◌==◌, if◌then◌else◌}
use Rattle.std.specs.List.{AllByRecursion}
use Rattle.std.proofs.lemmas.List.{append-nil}
use Rattle.broker_book.specs.declared.parts.Sent.{Sent}
use Rattle.broker_book.specs.declared.parts.Subscription.{Subscription}
use Rattle.broker_core.specs.Feeding.{Ends, HandlesAll, Stops, TakesDecided, at_end, at_fault}
use Rattle.broker_core.specs.Feeding.{at_frame, awaits, closed, faulty, in_deals, in_step, with_incoming, with_waiting}
use Rattle.broker_core.specs.Serving.{Decided, Server, changing, session_of, step}
use Rattle.broker_core.specs.Streams.{stopped_frames}
use Rattle.broker_core.specs.declared.incoming.Incoming.{Incoming}
use Rattle.broker_core.specs.declared.session.Session.{Session}
use Rattle.broker_core.proofs.Left.{find_with}
use Rattle.laws_broker.specs.Lives.{Account}
use Rattle.laws_broker.proofs.Dealing.{dealing_stands}
use Rattle.laws_broker.proofs.Deciding.{WaitingFits, meets_none, none_fits, takes_fit}
use Rattle.laws_broker.proofs.Living.{Knows, SessionFits, Stands, Touches, fault_stands, handling, step_stands, touched}

-- the account of the one session after one of a number handled some frames
abbrev pub handling_all : ℕ → ℕ → Account → List Decided → Account
handling_all n m a ds = if n == m then record a { handled = a.handled ++ ds } else a

pub none_more : (n m : ℕ) (a : Account) (v : Bool) → (n == m) ≡ v → handling_all n m a [] ≡ a
none_more n m a true e = rw (e, append-nil a.handled) refl
none_more n m a false e = rw e refl

one_more : (n m : ℕ) (a : Account) (d : Decided) (ds : List Decided) (v : Bool) → (n == m) ≡ v
    → handling_all n m (handling n m a d) ds ≡ handling_all n m a (d ∷ ds)
one_more n m a d ds true e = rw (e, append_assoc a.handled (d ∷ []) ds) refl
one_more n m a d ds false e = rw e refl

module _ (R : Sent → Type 0) (Q : Subscription → Type 0) (n : ℕ) where
  left_touches : (s : Session) (left : Incoming) → WaitingFits s.server left.waiting → SessionFits R s
      → Touches R s (with_incoming left s)
  left_touches s left w h = record {
    number = refl;
    server = refl;
    closed = refl;
    out = refl;
    fits = record { waits = w; transactions = h.transactions };
  }

  same_some : (o : Option Session) (x y : Session) → o ≡ Some x → o ≡ Some y → y ≡ x
  same_some o x y p q = cc

  left_stands : (a : Account) (m : ℕ) (left : Incoming) (s : Session) (b : Server) → session_of m b ≡ Some s
      → WaitingFits s.server left.waiting → Stands R Q n a b → Stands R Q n a (changing m (with_incoming left) b)
  left_stands a m left s b found w h = touched R Q n a m (with_incoming left) b
      (λ x e. left_touches x left (rw (same_some (session_of m b) s x found e) w) (h.sessions m x e)) h

  left_found : (m : ℕ) (left : Incoming) (s : Session) (b : Server) → session_of m b ≡ Some s
      → session_of m (changing m (with_incoming left) b) ≡ Some (with_incoming left s)
  left_found m left s b found = find_with m (with_incoming left) b.sessions s refl found

  -- ---- a frame

  -- a frame was taken, has its step, and stands
  taken_step : (full m : ℕ) (a : Account) (old : Server) (d : Decided) (taken : Server) → TakesDecided old m d taken
      → Knows R Q m d
      → Stands R Q n a old → Stands R Q n (handling n m a d) (step full m d taken)
  taken_step full m a old d taken t k h =
      let s = t.session in
      let fits = takes_fit s.server s.incoming t.left d t.takes (h.sessions m s t.is_open.found).waits in
      rw t.changed (step_stands R Q n full m d a (changing m (with_incoming t.left) old) (with_incoming t.left s)
      (left_found m t.left s old t.is_open.found) t.is_open.is_open fits.1 fits.0 k
      (left_stands a m t.left s old t.is_open.found (none_fits s.server t.left.waiting fits.1) h))

  pub handled_stands : (full m : ℕ) (a : Account) (old : Server) (ds : List Decided) (new : Server)
      → HandlesAll full m old ds new
      → AllByRecursion (Knows R Q m) ds → Stands R Q n a old → Stands R Q n (handling_all n m a ds) new
  handled_stands full m a old [] new t k h = rw (none_more n m a (n == m) refl, t) h
  handled_stands full m a old (d ∷ ds) new t k h =
      let one = dealing_stands R Q n (handling n m a d) (step full m d t.1.taken) t.0 t.1.settles.0
      (taken_step full m a old d t.1.taken t.1.takes k.0 h) in
      subst (λ x. Stands R Q n x new) (one_more n m a d ds (n == m) refl)
      (handled_stands full m (handling n m a d) t.0 ds new t.2 k.1 one)

  pub ends_stand : (m : ℕ) (a : Account) (old new : Server) → Ends old m new → Stands R Q n a old → Stands R Q n a new
  ends_stand m a old new (closed s found is k) h = rw k h
  ends_stand m a old new (awaits s left is none k) h =
      rw k (left_stands a m left s old is.found (none_fits s.server left.waiting none.still_none) h)
  ends_stand m a old new (faulty s left is meets k) h =
      rw k (fault_stands R Q n m a (changing m (with_incoming left) old) (with_incoming left s)
      (left_found m left s old is.found) is.is_open
      (left_stands a m left s old is.found (none_fits s.server left.waiting (meets_none s.incoming left meets)) h))

  pub stops_stand : (full m : ℕ) (a : Account) (old new : Server) (t : Stops full m old new)
      → AllByRecursion (Knows R Q m) (stopped_frames t)
      → Stands R Q n a old → Stands R Q n (handling_all n m a (stopped_frames t)) new
  stops_stand full m a old new (at_frame k) g h = rw (none_more n m a (n == m) refl, k) h
  stops_stand full m a old new (in_step d s left is takes k) g h =
      let fits = takes_fit s.server s.incoming left d takes (h.sessions m s is.found).waits in
      rw (none_more n m a (n == m) refl, k) (left_stands a m (with_waiting d left) s old is.found fits.0 h)
  stops_stand full m a old new (in_deals d taken takes deals) g h =
      dealing_stands R Q n (handling n m a d) (step full m d taken) new deals
      (taken_step full m a old d taken takes g.0 h)
  stops_stand full m a old new (at_fault s left is meets k) g h = rw (none_more n m a (n == m) refl, k)
      (left_stands a m left s old is.found (none_fits s.server left.waiting (meets_none s.incoming left meets)) h)
  stops_stand full m a old new (at_end ended ends deals) g h = rw (none_more n m a (n == m) refl)
      (dealing_stands R Q n a ended new deals (ends_stand m a old ended ends h))

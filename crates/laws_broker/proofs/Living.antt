-- What stands of a broker and of one of its sessions, over any step.
use Rattle.std.proofs.Common.{◌≡◌, ℕ, Bool, true, false, List, Option, Some, None, Result, Ok, Err}
use Rattle.std.proofs.Common.{refl, sym, ap, ◌∙◌, subst}
use Rattle.std.specs.Prelude.{◌⊎◌, ◌==◌, ◌&&◌, if◌then◌else◌, not}
use Rattle.std.specs.List.{AllByRecursion, find}
use Rattle.std.proofs.lemmas.Bool.{eqb-true, eq-eqb}
use Rattle.std.proofs.lemmas.List.{append-nil}
use Rattle.stomp_frame.specs.Frames.{Content}
use Rattle.stomp_session.proofs.Accepting.{told_receipts_fit}
use Rattle.stomp_session.specs.Fitting.{Fits}
use Rattle.stomp_session.specs.Replies.{IsEchoed, error_frame, receipt_frame, receipt_told}
use Rattle.stomp_session.specs.Requests.{ack_mode, receipt_of}
use Rattle.stomp_session.specs.declared.request.Request.{Request}
use Rattle.stomp_session.specs.declared.request.Request.TheVariants.{Connect, Send, Subscribe, Unsubscribe, Ack, Nack}
use Rattle.stomp_session.specs.declared.request.Request.TheVariants.{Begin, Commit}
use Rattle.stomp_session.specs.declared.request.Request.TheVariants.{Abort, Disconnect}
use Rattle.broker_book.specs.Books.{Book}
use Rattle.broker_book.specs.Steps.{ended}
use Rattle.broker_book.specs.declared.parts.Mode.{Mode}
use Rattle.broker_book.specs.declared.parts.Sent.{Sent}
use Rattle.broker_book.specs.declared.parts.Subscription.{Subscription}
use Rattle.broker_core.specs.Faults.{refusal_number, refusal_name}
use Rattle.broker_core.specs.Performing.{Reach, performed, sent_of}
use Rattle.broker_core.specs.Serving.{Decided, Part, Server, changing, closing, closing_if, confirmed}
use Rattle.broker_core.specs.Serving.{finished}
use Rattle.broker_core.specs.Serving.{changing_part, is_last, is_session, part, reached, refused as refusing, served}
use Rattle.broker_core.specs.Serving.{session_of, step}
use Rattle.broker_core.specs.Serving.{with_fault, with_part, with_session, writing}
use Rattle.broker_core.specs.Words.{mode_of}
use Rattle.broker_core.specs.declared.fault.FrameRefusal.{FrameRefusal}
use Rattle.broker_core.specs.declared.fault.FrameRefusal.TheVariants.{BadFrame, Unaccepted}
use Rattle.broker_core.specs.declared.session.Session.{Session}
use Rattle.broker_core.proofs.Left.{find_with}
use Rattle.laws_broker.specs.Lives.{Account}
use Rattle.laws_broker.specs.Written.{IsLater, receipt, Speaks, receipts_asked}
use Rattle.laws_broker.proofs.Deciding.{DecidedFits, WaitingFits, none_fits}
use Rattle.laws_broker.specs.Fitting.{BookFits, TransactionFits}
use Rattle.laws_broker.proofs.Fitting.{DoneFits, Brings, book_weaker}
use Rattle.laws_broker.proofs.Fitting.{ended_fits}
use Rattle.laws_broker.proofs.Fitting.{performed_fits}
use Rattle.laws_broker.proofs.Lists.{found_passes}
use Rattle.laws_broker.proofs.Sessions.{Each, Keeps, each_changed, none_changed, other_found}
use Rattle.laws_broker.proofs.Speaking.{IsFresh, IsRunning, fresh_or_running, finished_speaks, refused_speaks}
use Rattle.laws_broker.proofs.Speaking.{asked_more, with_handled}

-- ---- what stands

-- whether a session is there, connected and open
abbrev pub is_live : Option Session → Bool
is_live None = false
is_live (Some s) = s.server && not s.closed

-- A subscription's name can be told, it was asked for, and where it is of the one session, that is live.
pub record SubscriptionFits (Q : Subscription → Type 0) (n : ℕ) (u : Bool) (s : Subscription) : Type 0 where
  pub echoed : IsEchoed s.id
  pub asked : Q s
  pub live : s.session ≡ n → u ≡ true

-- What waits was decided by what the session is, and what is kept can be carried.
pub record SessionFits (R : Sent → Type 0) (s : Session) : Type 0 where
  pub waits : WaitingFits s.server s.incoming.waiting
  pub transactions : AllByRecursion (TransactionFits R) s.transactions

-- All that a broker has can be told, and the one session speaks so.
pub record Stands (R : Sent → Type 0) (Q : Subscription → Type 0) (n : ℕ) (a : Account) (b : Server) : Type 0 where
  pub book : BookFits R (SubscriptionFits Q n (is_live (session_of n b))) b.book
  pub sessions : Each (SessionFits R) b.sessions
  pub speaks : Speaks (IsLater R Q n) a (session_of n b)

-- what a handled frame brings and asks for
abbrev pub Knows : (Sent → Type 0) → (Subscription → Type 0) → ℕ → Decided → Type 0
Knows R Q m (Ok (Send s)) = R (sent_of s)
Knows R Q m (Ok (Subscribe s)) = (mode : Mode) → mode_of (ack_mode s.ack) ≡ Some mode
    → Q (record { session = m; id = s.id; destination = s.destination; mode = mode })
Knows R Q m _ = Unit {0}

-- the account of the one session after one of a number handled a frame
abbrev pub handling : ℕ → ℕ → Account → Decided → Account
handling n m a d = if n == m then with_handled a d else a

-- an ERROR is written
abbrev pub telling : FrameRefusal → Option (List ℕ) → Part → Part
telling x asked p = record p { session = writing (error_frame (refusal_number x) (refusal_name x) asked) p.session }

-- ---- alike sessions

-- both are there and alike in what is told of them, or none is
abbrev pub AreAlike : Option Session → Option Session → Type 0
AreAlike None None = Unit {0}
AreAlike None (Some t) = ⊥
AreAlike (Some s) None = ⊥
AreAlike (Some s) (Some t) = (t.server ≡ s.server) × (t.closed ≡ s.closed) × (t.out ≡ s.out)

pub alike_live : (o p : Option Session) → AreAlike o p → is_live p ≡ is_live o
alike_live None None h = refl
alike_live None (Some t) h = absurd h
alike_live (Some s) None h = absurd h
alike_live (Some s) (Some t) h = rw (h.0, h.1) refl

pub alike_speaks : (later : Content → Type 0) (a : Account) (o p : Option Session) → AreAlike o p → Speaks later a o
    → Speaks later a p
alike_speaks later a None None h k = k
alike_speaks later a None (Some t) h k = absurd h
alike_speaks later a (Some s) None h k = absurd h
alike_speaks later a (Some s) (Some t) h k = record {
  frames = k.frames;
  left = k.left;
  wrote = k.wrote;
  connected = k.connected;
  closed = k.closed;
  told = k.told;
  confirms = k.confirms;
  now = (h.0 ∙ k.now.0, h.1 ∙ k.now.1, h.2 ∙ k.now.2);
}

pub same_alike : (o p : Option Session) → p ≡ o → AreAlike o p
same_alike None None e = tt
same_alike None (Some t) e = absurd cc
same_alike (Some s) None e = absurd cc
same_alike (Some s) (Some t) e =
    let k : t ≡ s = cc in
    (ap (λ (x : Session). x.server) k, ap (λ (x : Session). x.closed) k, ap (λ (x : Session). x.out) k)

-- a change that leaves what is told of a session
pub record Touches (R : Sent → Type 0) (s t : Session) : Type 0 where
  pub number : t.number ≡ s.number
  pub server : t.server ≡ s.server
  pub closed : t.closed ≡ s.closed
  pub out : t.out ≡ s.out
  pub fits : SessionFits R t

touched_here : (R : Sent → Type 0) (n : ℕ) (f : Session → Session) (ss : List Session) (o : Option Session)
    → find (is_session n) ss ≡ o
    → ((s : Session) → find (is_session n) ss ≡ Some s → Touches R s (f s))
    → AreAlike o (find (is_session n) (with_session n f ss))
touched_here R n f ss None e k = same_alike None _ (ap (find (is_session n)) (none_changed n f ss e) ∙ e)
touched_here R n f ss (Some s) e k =
    let t = k s e in
    subst (λ p. AreAlike (Some s) p) (sym (find_with n f ss s t.number e)) (t.server, t.closed, t.out)

touched_there : (R : Sent → Type 0) (n m : ℕ) (f : Session → Session) (ss : List Session) (u : Bool) → (m == n) ≡ u
    → ((s : Session) → find (is_session m) ss ≡ Some s → Touches R s (f s))
    → AreAlike (find (is_session n) ss) (find (is_session n) (with_session m f ss))
touched_there R n m f ss true e k =
    subst (λ i. AreAlike (find (is_session i) ss) (find (is_session i) (with_session m f ss))) (eqb-true m n e)
    (touched_here R m f ss (find (is_session m) ss) refl k)
touched_there R n m f ss false e k = same_alike _ _ (other_found m n f ss e (λ s q. (k s q).number))

module _ (R : Sent → Type 0) (Q : Subscription → Type 0) (n : ℕ) where
  pub stands_alike : (a : Account) (old new : Server) → Stands R Q n a old
      → AreAlike (session_of n old) (session_of n new)
      → BookFits R (SubscriptionFits Q n (is_live (session_of n old))) new.book → Each (SessionFits R) new.sessions
      → Stands R Q n a new
  stands_alike a old new h like book sessions = record {
    book = subst (λ u. BookFits R (SubscriptionFits Q n u) new.book) (sym
        (alike_live (session_of n old) (session_of n new) like)) book;
    sessions = sessions;
    speaks = alike_speaks (IsLater R Q n) a (session_of n old) (session_of n new) like h.speaks;
  }

  pub touched : (a : Account) (m : ℕ) (f : Session → Session) (b : Server)
      → ((s : Session) → session_of m b ≡ Some s → Touches R s (f s))
      → Stands R Q n a b → Stands R Q n a (changing m f b)
  touched a m f b k h = stands_alike a b (changing m f b) h (touched_there R n m f b.sessions (m == n) refl k) h.book
      (each_changed (SessionFits R) m f b.sessions (λ s e. (k s e).number) h.sessions (λ s e. (k s e).fits))

  -- ---- a session and the book

  -- what a step makes of a session and the book, where subscriptions pass a test
  pub record Steps (P : Subscription → Type 0) (p q : Part) : Type 0 where
    pub number : q.session.number ≡ p.session.number
    pub book : BookFits R P q.book
    pub ended : q.session.closed ≡ true → BookFits R (λ s. P s × ((s.session == p.session.number) ≡ false)) q.book
    pub connected : q.session.closed ≡ false → q.session.server ≡ true
    pub fits : SessionFits R q.session

  closing_steps : (P : Subscription → Type 0) (p q : Part) → q.session.number ≡ p.session.number → BookFits R P q.book
      → Steps P p (closing q)
  closing_steps P p q number h =
      let k : BookFits R (λ s. P s × ((s.session == p.session.number) ≡ false)) (ended q.book q.session.number) =
      rw number (ended_fits R P q.book p.session.number h) in
      record {
        number = number;
        book = book_weaker R _ P (ended q.book q.session.number) (λ s g. g.0) k;
        ended = λ e. k;
        connected = λ e. absurd (let z : true ≡ false = e in cc);
        fits = record { waits = tt; transactions = tt };
      }

  closed_steps : (P : Subscription → Type 0) (last : Bool) (p q : Part) → q.session.number ≡ p.session.number
      → q.session.closed ≡ false
      → q.session.server ≡ true → SessionFits R q.session → BookFits R P q.book → Steps P p (closing_if last q)
  closed_steps P true p q number unclosed server fits h = closing_steps P p q number h
  closed_steps P false p q number unclosed server fits h = record {
    number = number;
    book = h;
    ended = λ e. absurd (let z : true ≡ false = sym e ∙ unclosed in cc);
    connected = λ e. server;
    fits = fits;
  }

  finished_steps : (P : Subscription → Type 0) (q : Request) (p : Part) (o : Result Reach FrameRefusal)
      → p.session.closed ≡ false
      → p.session.incoming.waiting ≡ None → DoneFits R P o → BookFits R P p.book → Steps P p (finished q p o)
  finished_steps P q p (Ok r) unclosed none g h = closed_steps P (is_last q) p (confirmed q p r) refl unclosed refl
      (record { waits = none_fits true p.session.incoming.waiting none; transactions = g.transactions }) g.book
  finished_steps P q p (Err x) unclosed none g h = closing_steps P p (telling x (receipt_of q) p) refl h

  served_steps : (P : Subscription → Type 0) (full : ℕ) (d : Decided) (p : Part) → p.session.closed ≡ false
      → p.session.incoming.waiting ≡ None → ((q : Request) → d ≡ Ok q → Brings R P p.session.number q)
      → SessionFits R p.session → BookFits R P p.book → Steps P p (served full d p)
  served_steps P full (Ok q) p unclosed none brings fits h =
      finished_steps P q p (performed full p.session.number (reached p) q) unclosed none
      (performed_fits R P full p.session.number (reached p) q (brings q refl)
      (record { book = h; transactions = fits.transactions })) h
  served_steps P full (Err r) p unclosed none brings fits h =
      closing_steps P p (telling (Unaccepted r.fault) (receipt_told r.frame) p) refl h

  brings_of : (u : Bool) (m : ℕ) (q : Request) → (m ≡ n → u ≡ true) → Fits q → Knows R Q m (Ok q)
      → Brings R (SubscriptionFits Q n u) m q
  brings_of u m (Send s) live is k = record { carried = is.0; brought = k }
  brings_of u m (Subscribe s) live is k = λ mode e. record { echoed = is.0; asked = k mode e; live = live }
  brings_of u m (Connect _) live is k = tt
  brings_of u m (Unsubscribe _) live is k = tt
  brings_of u m (Ack _) live is k = tt
  brings_of u m (Nack _) live is k = tt
  brings_of u m (Begin _) live is k = tt
  brings_of u m (Commit _) live is k = tt
  brings_of u m (Abort _) live is k = tt
  brings_of u m (Disconnect _) live is k = tt

  -- ---- the session and the book are put back

  live_part : (p q : Part) (u : Bool) → q.session.closed ≡ u → p.session.number ≡ n
      → Steps (SubscriptionFits Q n true) p q
      → BookFits R (SubscriptionFits Q n (is_live (Some q.session))) q.book
  live_part p q true e number h = book_weaker R _ (SubscriptionFits Q n (is_live (Some q.session))) q.book
      (λ x g. record {
        echoed = g.0.echoed;
        asked = g.0.asked;
        live = λ k. absurd (let z : true ≡ false = sym (eq-eqb x.session p.session.number (k ∙ sym number)) ∙ g.1
            in cc);
      }) (h.ended e)
  live_part p q false e number h = rw (h.connected e, e) h.book

  kept_number : (m : ℕ) (b : Server) (s t : Session) → session_of m b ≡ Some s → t.number ≡ s.number
      → Keeps m (λ _. t) b.sessions
  kept_number m b s t found number x e = let k : s ≡ x = same_some (session_of m b) s x found e in number
      ∙ ap (λ (y : Session). y.number) k
    where
      same_some : (o : Option Session) (x y : Session) → o ≡ Some x → o ≡ Some y → x ≡ y
      same_some o x y e k = cc

  all_live : (u : Bool) (b : Book) → BookFits R (SubscriptionFits Q n u) b → BookFits R (SubscriptionFits Q n true) b
  all_live u b h = book_weaker R _ (SubscriptionFits Q n true) b (λ x g. record
      { echoed = g.echoed; asked = g.asked; live = λ k. refl }) h

  -- what a step has to show of a session and the book
  abbrev pub StepsWell : ℕ → Server → Session → Part → Type 0
  StepsWell m b s q = (u : Bool) → (m ≡ n → u ≡ true) → BookFits R (SubscriptionFits Q n u) b.book
      → Steps (SubscriptionFits Q n u) (part b.book s) q

  put_step : (m : ℕ) (a c : Account) (b : Server) (s : Session) (q : Part) (v : Bool) → (m == n) ≡ v
      → session_of m b ≡ Some s
      → StepsWell m b s q → (m ≡ n → Speaks (IsLater R Q n) c (Some q.session)) → ((m == n) ≡ false → c ≡ a)
      → Stands R Q n a b
      → Stands R Q n c (with_part m b q)
  put_step m a c b s q true e found steps speaks other h =
      let z : m ≡ n = eqb-true m n e in
      let k = steps true (λ y. refl) (all_live (is_live (session_of n b)) b.book h.book) in
      let sessions : List Session = with_session m (λ _. q.session) b.sessions in
      let keeps = kept_number m b s q.session found k.number in
      let is : find (is_session n) sessions ≡ Some q.session =
      subst (λ i. find (is_session i) sessions ≡ Some q.session) z (find_with m (λ _. q.session) b.sessions s k.number
      found) in
      let number : s.number ≡ n = eqb-true s.number m (found_passes (is_session m) b.sessions s found) ∙ z in
      record {
        book = subst (λ o. BookFits R (SubscriptionFits Q n (is_live o)) q.book) (sym is)
            (live_part (part b.book s) q q.session.closed refl number k);
        sessions = each_changed (SessionFits R) m (λ _. q.session) b.sessions keeps h.sessions (λ x y. k.fits);
        speaks = subst (λ o. Speaks (IsLater R Q n) c o) (sym is) (speaks z);
      }
  put_step m a c b s q false e found steps speaks other h =
      let k = steps (is_live (session_of n b))
      (λ y. absurd (let z : true ≡ false = sym (eq-eqb m n y) ∙ e in cc)) h.book in
      let sessions : List Session = with_session m (λ _. q.session) b.sessions in
      let keeps = kept_number m b s q.session found k.number in
      let is : find (is_session n) sessions ≡ session_of n b = other_found m n (λ _. q.session) b.sessions e keeps in
      record {
        book = subst (λ o. BookFits R (SubscriptionFits Q n (is_live o)) q.book) (sym is) k.book;
        sessions = each_changed (SessionFits R) m (λ _. q.session) b.sessions keeps h.sessions (λ x y. k.fits);
        speaks = subst (λ o. Speaks (IsLater R Q n) c o) (sym is)
            (subst (λ x. Speaks (IsLater R Q n) x (session_of n b)) (sym (other e)) h.speaks);
      }

  later_receipt : (v : List ℕ) → IsLater R Q n (receipt_frame v)
  later_receipt v = receipt v refl

  found_here : (m : ℕ) (b : Server) (s : Session) → session_of m b ≡ Some s → m ≡ n → session_of n b ≡ Some s
  found_here m b s found z = ap (λ i. session_of i b) (sym z) ∙ found

  -- the session that stands is fresh or runs
  so_far : (m : ℕ) (a : Account) (b : Server) (s : Session) → session_of m b ≡ Some s → s.closed ≡ false → m ≡ n
      → Stands R Q n a b
      → IsFresh a s ⊎ IsRunning (IsLater R Q n) a s
  so_far m a b s found unclosed z h =
      fresh_or_running (IsLater R Q n) a s (subst (λ o. Speaks (IsLater R Q n) a o) (found_here m b s found z) h.speaks)
      unclosed

  served_speaks : (full : ℕ) (d : Decided) (a : Account) (p : Part) → DecidedFits p.session.server d
      → IsFresh a p.session ⊎ IsRunning (IsLater R Q n) a p.session
      → Speaks (IsLater R Q n) (with_handled a d) (Some (served full d p).session)
  served_speaks full (Ok q) a p is h =
      finished_speaks (IsLater R Q n) a q p (performed full p.session.number (reached p) q) later_receipt is.0 is.1 h
  served_speaks full (Err r) a p is h = refused_speaks (IsLater R Q n) a (with_handled a (Err r)) (Unaccepted r.fault)
      (receipt_told r.frame) None p (told_receipts_fit r.frame is) refl (asked_more a.handled (Err r)) h

  handled_here : (m : ℕ) (a : Account) (d : Decided) (s : Option Session) → m ≡ n
      → Speaks (IsLater R Q n) (with_handled a d) s
      → Speaks (IsLater R Q n) (handling n m a d) s
  handled_here m a d s z h = rw (eq-eqb n m (sym z)) h

  handled_there : (m : ℕ) (a : Account) (d : Decided) → (m == n) ≡ false → handling n m a d ≡ a
  handled_there m a d e = rw (not_equal (n == m) refl) refl
    where
      not_equal : (v : Bool) → (n == m) ≡ v → (n == m) ≡ false
      not_equal true k = absurd (let z : true ≡ false = sym (eq-eqb m n (sym (eqb-true n m k))) ∙ e in cc)
      not_equal false k = k

  knows_brings : (u : Bool) (m : ℕ) (c : Bool) (d : Decided) → (m ≡ n → u ≡ true) → DecidedFits c d → Knows R Q m d
      → (q : Request)
      → d ≡ Ok q
      → Brings R (SubscriptionFits Q n u) m q
  knows_brings u m c (Ok x) live is k q e = let z : x ≡ q = cc in rw (← z) (brings_of u m x live is.0 k)
  knows_brings u m c (Err r) live is k q e = absurd cc

  -- a decided frame has its step
  pub step_stands : (full m : ℕ) (d : Decided) (a : Account) (b : Server) (s : Session) → session_of m b ≡ Some s
      → s.closed ≡ false
      → s.incoming.waiting ≡ None → DecidedFits s.server d → Knows R Q m d → Stands R Q n a b
      → Stands R Q n (handling n m a d) (step full m d b)
  step_stands full m d a b s found unclosed none is k h =
      let number : s.number ≡ m = eqb-true s.number m (found_passes (is_session m) b.sessions s found) in
      subst (λ o. Stands R Q n (handling n m a d) (changing_part m (served full d) b o)) (sym found)
      (put_step m a (handling n m a d) b s (served full d (part b.book s)) (m == n) refl found
      (λ u live g. served_steps (SubscriptionFits Q n u) full d (part b.book s) unclosed none
      (λ q e. rw number (knows_brings u m s.server d live is k q e)) (h.sessions m s found) g)
      (λ z. handled_here m a d _ z (served_speaks full d a (part b.book s) is (so_far m a b s found unclosed z h)))
      (handled_there m a d) h)

  -- a fault of the octets is told
  pub fault_stands : (m : ℕ) (a : Account) (b : Server) (s : Session) → session_of m b ≡ Some s → s.closed ≡ false
      → Stands R Q n a b
      → Stands R Q n a (with_fault m b)
  fault_stands m a b s found unclosed h =
      let q : Part = refusing BadFrame None (part b.book s) in
      subst (λ o. Stands R Q n a (changing_part m (refusing BadFrame None) b o)) (sym found)
      (put_step m a a b s q (m == n) refl found (λ u live g. closing_steps (SubscriptionFits Q n u) (part b.book s)
      (telling BadFrame None (part b.book s)) refl g)
      (λ z. refused_speaks (IsLater R Q n) a a BadFrame None None (part b.book s) tt refl
      (sym (append-nil (receipts_asked a.handled)))
      (so_far m a b s found unclosed z h)) (λ e. refl) h)

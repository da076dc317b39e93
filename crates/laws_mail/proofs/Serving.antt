-- What the step of a frame makes of what is good.
use Rattle.std.proofs.Common.{◌≡◌, ℕ, Bool, true, false, cond, List, ◌++◌, Option, Some, None, Result, Ok, Err, refl}
use Rattle.std.proofs.Common.{ap, ◌∙◌, subst}
use Rattle.std.proofs.Common.{append-nil, sym}
use Rattle.std.specs.List.{find}
use Rattle.base.specs.declared.limits.TheConstants.{MAX_BODY}
use Rattle.stomp_frame.specs.Frames.{Content, canonical, IsFrame}
use Rattle.stomp_session.specs.Fitting.{Fits}
use Rattle.stomp_session.specs.Replies.{IsEchoedIfAny, connected_frame, error_frame, receipt_told}
use Rattle.stomp_session.specs.Requests.{receipt_of}
use Rattle.stomp_session.specs.declared.request.Request.{Request}
use Rattle.stomp_session.specs.declared.request.Request.TheVariants.{Connect, Send, Subscribe, Unsubscribe, Ack, Nack}
use Rattle.stomp_session.specs.declared.request.Request.TheVariants.{Begin, Commit, Abort}
use Rattle.stomp_session.specs.declared.request.Request.TheVariants.{Disconnect}
use Rattle.stomp_session.proofs.Accepting.{told_receipts_fit}
use Rattle.stomp_session.proofs.Framing.{connected_is_a_frame, receipt_is_a_frame}
use Rattle.broker_book.specs.Books.{Book}
use Rattle.broker_book.specs.Steps.{ended}
use Rattle.broker_core.specs.Faults.{refusal_number, refusal_name}
use Rattle.broker_core.specs.Performing.{Reach, performed}
use Rattle.broker_core.specs.Serving.{Decided, Part, Server, changing_part, closing, closing_if, confirmed, finished}
use Rattle.broker_core.specs.Serving.{is_connect}
use Rattle.broker_core.specs.Serving.{is_last, is_session, part, reached, receipt_reply, refused, reply_of, served}
use Rattle.broker_core.specs.Serving.{session_of, step}
use Rattle.broker_core.specs.Serving.{text_of, with_fault, writing}
use Rattle.broker_core.specs.declared.fault.FrameRefusal.{FrameRefusal}
use Rattle.broker_core.specs.declared.fault.FrameRefusal.TheVariants.{BadFrame, Unaccepted}
use Rattle.broker_core.specs.declared.session.Session.{Session}
use Rattle.broker_core.proofs.Left.{served_number}
use Rattle.laws_broker.proofs.Fitting.{Brings, DoneFits, book_weaker, ended_fits, performed_fits}
use Rattle.laws_broker.proofs.Replies.{error_fits, receipt_fits}
use Rattle.envelope.specs.declared.message.Envelope.{Envelope}
use Rattle.laws_mail.specs.Passing.{carries, Brought, HasName, GoodBook, GoodDecided, GoodFrame, GoodNext, GoodRequest}
use Rattle.laws_mail.specs.Passing.{GoodServer}
use Rattle.laws_mail.specs.Passing.{GoodSession, Spelled}
use Rattle.laws_mail.proofs.Sessions.{EachAt, each_changed, same_some}
use Rattle.laws_mail.proofs.Spelling.{behind_both, spelled_more}

module _ (ok : Envelope → Type 0) where
  -- ---- replies

  no_longer : (P : Type 0) (b : Bool) → b ≡ false → b ≡ true → P
  no_longer P b e k = absurd (let z : true ≡ false = sym k ∙ e in cc)

  -- a frame that carries no envelope
  pub not_carrying_good : (f : Content) → carries f.command ≡ false → IsFrame MAX_BODY f → GoodFrame ok f
  not_carrying_good f none is = record { fits = is; means = λ some. no_longer _ (carries f.command) none some }

  receipt_good : (o : Option (List ℕ)) → IsEchoedIfAny o → GoodNext ok (receipt_reply o)
  receipt_good None h = tt
  receipt_good (Some receipt) h = not_carrying_good _ refl (receipt_is_a_frame receipt h)

  reply_if : (b : Bool) (o : Option Content) → GoodNext ok o → GoodNext ok (cond b (Some connected_frame) o)
  reply_if true o h = not_carrying_good connected_frame refl connected_is_a_frame
  reply_if false o h = h

  reply_good : (q : Request) → Fits q → GoodNext ok (reply_of q)
  reply_good q h =
      reply_if (is_connect q) (receipt_reply (receipt_of q)) (receipt_good (receipt_of q) (receipt_fits q h))

  spelled_reply : (text : List ℕ) (o : Option Content) → Spelled ok text → GoodNext ok o
      → Spelled ok (text ++ text_of o)
  spelled_reply text None h g = subst (Spelled ok) (sym (append-nil text)) h
  spelled_reply text (Some f) h g = spelled_more ok text f h g

  pub error_good : (x : FrameRefusal) (receipt : Option (List ℕ)) → IsEchoedIfAny receipt
      → GoodFrame ok (error_frame (refusal_number x) (refusal_name x) receipt)
  error_good x receipt h = not_carrying_good _ refl (error_fits x receipt h)

  -- ---- requests

  pub fits_of : (q : Request) → GoodRequest ok q → Fits q
  fits_of (Connect c) h = h
  fits_of (Send s) h = h.0
  fits_of (Subscribe s) h = h
  fits_of (Unsubscribe u) h = h
  fits_of (Ack a) h = h
  fits_of (Nack a) h = h
  fits_of (Begin d) h = h
  fits_of (Commit d) h = h
  fits_of (Abort d) h = h
  fits_of (Disconnect d) h = h

  brings_of : (n : ℕ) (q : Request) → GoodRequest ok q → Brings (Brought ok) (HasName ok) n q
  brings_of n (Connect c) h = tt
  brings_of n (Send s) h = record { carried = h.0.0; brought = h.1 }
  brings_of n (Subscribe s) h = λ mode e. h.0
  brings_of n (Unsubscribe u) h = tt
  brings_of n (Ack a) h = tt
  brings_of n (Nack a) h = tt
  brings_of n (Begin d) h = tt
  brings_of n (Commit d) h = tt
  brings_of n (Abort d) h = tt
  brings_of n (Disconnect d) h = tt

  -- ---- a session and the book

  pub ended_good : (b : Book) (n : ℕ) → GoodBook ok b → GoodBook ok (ended b n)
  ended_good b n h =
      book_weaker (Brought ok) _ (HasName ok) (ended b n) (λ s g. g.0) (ended_fits (Brought ok) (HasName ok) b n h)

  pub writes_good : (up down : List ℕ) (s : Session) (f : Content) → GoodSession ok up down s → GoodFrame ok f
      → GoodSession ok up down (writing f s)
  writes_good up down s f h g = record {
    waits = h.waits;
    comes = h.comes;
    transactions = h.transactions;
    goes = behind_both ok down s.out (canonical f) (spelled_more ok (down ++ s.out) f h.goes g);
  }

  record GoodPart (up down : List ℕ) (p : Part) : Type 0 where
    book : GoodBook ok p.book
    session : GoodSession ok up down p.session

  closing_good : (up down : List ℕ) (p : Part) → GoodPart up down p → GoodPart up down (closing p)
  closing_good up down p h = record {
    book = ended_good p.book p.session.number h.book;
    session = record { waits = tt; comes = λ (e : true ≡ false). absurd cc; transactions = tt; goes = h.session.goes };
  }

  closing_step : (up down : List ℕ) (p : Part) (last : Bool) → GoodPart up down p → GoodPart up down (closing_if last p)
  closing_step up down p true h = closing_good up down p h
  closing_step up down p false h = h

  refused_good : (up down : List ℕ) (p : Part) (x : FrameRefusal) (receipt : Option (List ℕ)) → IsEchoedIfAny receipt
      → GoodPart up down p
      → GoodPart up down (refused x receipt p)
  refused_good up down p x receipt e h =
      closing_good up down (record p {
        session =
            writing (error_frame (refusal_number x) (refusal_name x) receipt) p.session;
      })
      (record { book = h.book; session = writes_good up down p.session _ h.session (error_good x receipt e) })

  confirmed_good : (up down : List ℕ) (q : Request) (p : Part) (r : Reach) → Fits q
      → DoneFits (Brought ok) (HasName ok) (Ok r)
      → GoodPart up down p → GoodPart up down (confirmed q p r)
  confirmed_good up down q p r fits g h = record {
    book = g.book;
    session = record {
      waits = h.session.waits;
      comes = h.session.comes;
      transactions = g.transactions;
      goes = behind_both ok down p.session.out (text_of (reply_of q))
          (spelled_reply (down ++ p.session.out) (reply_of q) h.session.goes (reply_good q fits));
    };
  }

  finished_good : (up down : List ℕ) (q : Request) (p : Part) (o : Result Reach FrameRefusal) → Fits q
      → DoneFits (Brought ok) (HasName ok) o
      → GoodPart up down p → GoodPart up down (finished q p o)
  finished_good up down q p (Ok r) fits g h =
      closing_step up down (confirmed q p r) (is_last q) (confirmed_good up down q p r fits g h)
  finished_good up down q p (Err x) fits g h = refused_good up down p x (receipt_of q) (receipt_fits q fits) h

  served_good : (up down : List ℕ) (full : ℕ) (d : Decided) (p : Part) → GoodDecided ok d → GoodPart up down p
      → GoodPart up down (served full d p)
  served_good up down full (Ok q) p g h =
      finished_good up down q p (performed full p.session.number (reached p) q) (fits_of q g)
      (performed_fits (Brought ok) (HasName ok) full p.session.number (reached p) q (brings_of p.session.number q g)
      (record { book = h.book; transactions = h.session.transactions })) h
  served_good up down full (Err r) p g h =
      refused_good up down p (Unaccepted r.fault) (receipt_told r.frame) (told_receipts_fit r.frame g) h

  -- ---- the broker

  module _ (up down : ℕ → List ℕ) where
    -- the sessions of a broker, each with what is on its way
    abbrev pub GoodSessions : List Session → Type 0
    GoodSessions ss = EachAt (λ n s. GoodSession ok (up n) (down n) s) (λ n. Spelled ok (down n)) ss

    pub sessions_of : (b : Server) → GoodServer ok up down b → GoodSessions b.sessions
    sessions_of b h = record { found = h.sessions; none = h.gone }

    part_good : (n : ℕ) (change : Part → Part) (b : Server) (o : Option Session) → session_of n b ≡ o
        → ((p : Part) → (change p).session.number ≡ p.session.number)
        → ((p : Part) → GoodPart (up n) (down n) p → GoodPart (up n) (down n) (change p))
        → GoodServer ok up down b → GoodServer ok up down (changing_part n change b o)
    part_good n change b None e number keeps h = h
    part_good n change b (Some s) e number keeps h =
        let g = keeps (part b.book s) (record { book = h.book; session = h.sessions n s e }) in
        let all = each_changed _ _ n (λ _. (change (part b.book s)).session) b.sessions
        (λ x found. number (part b.book s)
        ∙ ap (λ (y : Session). y.number) (same_some (find (is_session n) b.sessions) s x e found))
        (sessions_of b h) (λ x found. g.session) in
        record { book = g.book; sessions = all.found; gone = all.none }

    pub step_good : (full n : ℕ) (d : Decided) (b : Server) → GoodDecided ok d → GoodServer ok up down b
        → GoodServer ok up down (step full n d b)
    step_good full n d b g h =
        part_good n (served full d) b (session_of n b) refl (served_number full d)
        (λ p k. served_good (up n) (down n) full d p g k) h

    pub fault_good : (n : ℕ) (b : Server) → GoodServer ok up down b → GoodServer ok up down (with_fault n b)
    fault_good n b h =
        part_good n (refused BadFrame None) b (session_of n b) refl (λ p. refl)
        (λ p k. refused_good (up n) (down n) p BadFrame None tt k) h

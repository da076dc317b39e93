-- What a repeat makes of what is good.
use Rattle.std.proofs.Common.{◌≡◌, ℕ, zero, suc, ◌+◌, Bool, true, false, List, [], ◌∷◌, ◌++◌, codes, Option, Some, None}
use Rattle.std.proofs.Common.{Result, Ok, Err}
use Rattle.std.proofs.Common.{refl, sym, ap, ◌∙◌, subst, append-nil, append_assoc, arith}
use Rattle.std.specs.Prelude.{◌==◌, slice_get}
use Rattle.std.specs.List.{AllByRecursion}
use Rattle.std.proofs.lemmas.Bool.{eqb-true}
use Rattle.base.specs.declared.limits.TheConstants.{MAX_QUEUED}
use Rattle.stomp_frame.specs.Frames.{Header, IsOwn, canonical, header}
use Rattle.stomp_frame.specs.declared.command.Command.TheVariants.{Message, Send}
use Rattle.stomp_frame.proofs.Escapes.{owned_alike}
use Rattle.stomp_client.specs.Frames.{connect_frame}
use Rattle.broker_book.specs.declared.parts.Accepted.{Accepted}
use Rattle.broker_book.specs.declared.parts.Sent.{Sent}
use Rattle.broker_core.specs.Calls.{dropped}
use Rattle.broker_core.specs.Feeding.{FeedAnswer}
use Rattle.broker_core.specs.Serving.{Server, session_of}
use Rattle.broker_core.specs.declared.fault.BrokerFault.{BrokerFault}
use Rattle.broker_core.specs.declared.fault.BrokerFault.TheVariants.{Memory, NoSession, TooMany}
use Rattle.laws_broker.specs.Fitting.{AcceptedFits, SentFits}
use Rattle.envelope.specs.declared.message.Envelope.{Envelope}
use Rattle.envelope.proofs.Headers.{read_envelope-before}
use Rattle.schedule_mail.specs.Accepted.{sent_at, sent_in}
use Rattle.schedule_mail.specs.Mails.{Mail, collected, taken_from}
use Rattle.schedule_mail.specs.Repeating.{FailsToRepeat, Repeats, SentAgain, refused, uncollected, unfound, unsent}
use Rattle.schedule_mail.specs.Texts.{again_text, send_frame}
use Rattle.schedule_mail.specs.declared.repeat_fault.RepeatFault.{RepeatFault}
use Rattle.laws_mail.specs.Passing.{Brought, GoodFrame, GoodMail, GoodServer, Spelled, at}
use Rattle.laws_mail.proofs.Feeding.{GoodFed, feed_good}
use Rattle.laws_mail.proofs.Frames.{connect_good}
use Rattle.laws_mail.proofs.Moving.{dropped_good, new_session_good}
use Rattle.laws_mail.proofs.Mails.{all_accepted_good}
use Rattle.laws_mail.proofs.Rising.{again_opened, unsent_same}
use Rattle.laws_mail.proofs.Spelling.{spelled_more}
use Rattle.laws_mail.proofs.Texts.{apart, here, retold, retold_at, same_down, same_up}

all_got : {X : Type 0} (P : X → Type 0) (xs : List X) (i : ℕ) (x : X) → AllByRecursion P xs → slice_get xs i ≡ Some x
    → P x
all_got P [] i x h e = absurd cc
all_got P (y ∷ ys) zero x h e = let k : y ≡ x = cc in subst P k h.0
all_got P (y ∷ ys) (suc i) x h e = all_got P ys i x h.1 e

-- in commands whose headers are escaped they are the same
sent_own : (hs : List Header) → AllByRecursion (IsOwn Message) hs → AllByRecursion (IsOwn Send) hs
sent_own [] h = tt
sent_own (x ∷ hs) h = (owned_alike Message Send x refl h.0, sent_own hs h.1)

module _ (ok : Envelope → Type 0) where
  -- ---- what was accepted

  sent_of_some : (o : Option Accepted) (sent : Sent) → ((a : Accepted) → o ≡ Some a → AcceptedFits (Brought ok) a)
      → sent_in o ≡ Some sent
      → SentFits (Brought ok) sent
  sent_of_some None sent h e = absurd cc
  sent_of_some (Some a) sent h e = let k : a.sent ≡ sent = cc in subst (SentFits (Brought ok)) k (h a refl)

  sent_found : (place : ℕ) (accepted : List Accepted) (sent : Sent)
      → AllByRecursion (AcceptedFits (Brought ok)) accepted
      → sent_at place accepted ≡ Some sent → SentFits (Brought ok) sent
  sent_found zero accepted sent h e = absurd cc
  sent_found (suc index) accepted sent h e =
      sent_of_some (slice_get accepted index) sent (λ a k. all_got (AcceptedFits (Brought ok)) accepted index a h k) e

  -- as it is sent again
  send_frame_good : (s : Sent) → SentFits (Brought ok) s → GoodFrame ok (send_frame s)
  send_frame_good s h = record {
    fits = record {
      headers = (
        owned_alike Message Send (header (codes "destination") s.destination) refl h.carried.destination,
        sent_own s.headers h.carried.headers,
      );
      count = omega (arith, h.carried.count);
      body = h.carried.body;
    };
    means = λ _ e k. h.brought e
        (sym (read_envelope-before (header (codes "destination") s.destination ∷ []) s.headers s.body (refl, tt)) ∙ k);
  }

  again_spelled : (s : Sent) (held : List ℕ) → SentFits (Brought ok) s → Spelled ok held
      → Spelled ok (held ++ again_text s)
  again_spelled s held h k =
      subst (Spelled ok) (append_assoc held (canonical connect_frame) (canonical (send_frame s)))
      (spelled_more ok (held ++ canonical connect_frame) (send_frame s) (spelled_more ok held connect_frame k
      (connect_good ok))
      (send_frame_good s h))

  taken_from_good : (up down : ℕ → List ℕ) (b : Server) → GoodServer ok up down b → GoodServer ok up down (taken_from b)
  taken_from_good up down b h = record {
    book = record { living = h.book.living; subscriptions = h.book.subscriptions; accepted = tt };
    sessions = h.sessions;
    gone = h.gone;
  }

  collected_good : (up down : ℕ → List ℕ) (o : Mail) → GoodMail ok up down o → GoodMail ok up down (collected o)
  collected_good up down o h = record {
    server = taken_from_good up down o.broker h.server;
    earlier = all_accepted_good ok up down o h;
    above = h.above;
  }

module _ (ok : Envelope → Type 0) (up down : ℕ → List ℕ) where
  -- ---- a session of its own

  module _ (n : ℕ) (nothing_up : up n ≡ []) (nothing_down : down n ≡ []) where
    -- CONNECT and the SEND are on their way to it
    asked_good : (s : Sent) (b : Server) → SentFits (Brought ok) s → GoodServer ok up down b
        → GoodServer ok (at n (again_text s) up) (at n (down n) down) b
    asked_good s b h g = retold_at ok up down n (again_text s) (down n) b
        (λ held k. again_spelled ok s held h (subst (Spelled ok) (ap (λ l. held ++ l) nothing_up ∙ append-nil held) k))
        (λ out k. k) g

    text_there : (m : ℕ) (text : List ℕ) (on : ℕ → List ℕ) → ((n == m) ≡ false → text ≡ on m) → on n ≡ []
        → (b : Bool) → (n == m) ≡ b → at n [] (λ k. text) m ≡ on m
    text_there m text on other none true e =
        here n m [] (λ k. text) (eqb-true n m e) ∙ sym (ap on (sym (eqb-true n m e)) ∙ none)
    text_there m text on other none false e = apart n m [] (λ k. text) e ∙ other e

    -- it is dropped, with whatever was on its way
    again_dropped : (x y : ℕ → List ℕ) (b : Server) → ((m : ℕ) → (n == m) ≡ false → x m ≡ up m)
        → ((m : ℕ) → (n == m) ≡ false → y m ≡ down m) → GoodServer ok x y b
        → GoodServer ok up down (dropped n b (session_of n b))
    again_dropped x y b u d g =
        retold ok (at n [] x) up (at n [] y) down (dropped n b (session_of n b))
        (λ m. same_up ok (at n [] x m) (up m) (sym (text_there m (x m) up (u m) nothing_up (n == m) refl)))
        (λ m. same_down ok (at n [] y m) (down m) (sym (text_there m (y m) down (d m) nothing_down (n == m) refl)))
        (dropped_good ok x y n b (session_of n b) refl g)

    others_same : (m : ℕ) (text : List ℕ) → (n == m) ≡ false → at n [] (at n text up) m ≡ up m
    others_same m text e = apart n m [] (at n text up) e ∙ apart n m text up e

    pub again_good : (s : Sent) (b fed : Server) (r : Result ℕ BrokerFault) → SentFits (Brought ok) s
        → GoodServer ok up down b
        → FeedAnswer MAX_QUEUED b n (again_text s) fed r
        → GoodServer ok up down (dropped n (taken_from fed) (session_of n fed))
    again_good s b fed r h g a =
        by_answer r (feed_good ok (at n (again_text s) up) (at n (down n) down) MAX_QUEUED b n (again_text s) []
        fed r
        (here n n (again_text s) up refl ∙ sym (append-nil (again_text s))) a (asked_good s b h g))
      where
        gone : GoodServer ok (at n [] (at n (again_text s) up)) (at n (down n) down) fed
            → GoodServer ok up down (dropped n (taken_from fed) (session_of n fed))
        gone k = again_dropped (at n [] (at n (again_text s) up)) (at n (down n) down) (taken_from fed)
            (λ m e. others_same m (again_text s) e)
            (λ m e. apart n m (down n) down e) (taken_from_good ok _ _ fed k)

        stays : GoodServer ok (at n (again_text s) up) (at n (down n) down) fed
            → GoodServer ok up down (dropped n (taken_from fed) (session_of n fed))
        stays k = again_dropped (at n (again_text s) up) (at n (down n) down) (taken_from fed)
            (λ m e. apart n m (again_text s) up e)
            (λ m e. apart n m (down n) down e) (taken_from_good ok _ _ fed k)

        by_answer : (r : Result ℕ BrokerFault) → GoodFed ok (at n (again_text s) up) (at n (down n) down) n [] fed r
            → GoodServer ok up down (dropped n (taken_from fed) (session_of n fed))
        by_answer (Ok count) k = gone k
        by_answer (Err (Memory true)) k = gone k
        by_answer (Err (Memory false)) k = stays k
        by_answer (Err NoSession) k = stays k
        by_answer (Err TooMany) k = stays k

  -- ---- each answer

  sent_again_good : (sent : Sent) (old new : Mail) (r : Result (Option ℕ) RepeatFault) → SentAgain sent old new r
      → SentFits (Brought ok) sent → GoodMail ok up down old → GoodMail ok up down new
  sent_again_good sent old new r h s g =
      let n = h.session in
      let none = g.above n (omega (arith, h.opens.next)) in
      let next = g.above (old.broker.opened + 1) (omega arith) in
      let opened = subst (GoodServer ok up down) (sym h.opens.changed) (new_session_good ok up down old.broker next.0
      next.1 g.server) in
      let last = again_opened sent old new r h in
      let server = again_good n none.0 none.1 sent h.opened.broker h.feeds.fed h.feeds.answer s opened h.feeds.feeds in
      record {
        server = subst (λ (o : Mail). GoodServer ok up down o.broker) (sym h.feeds.left) server;
        earlier = subst (λ l. AllByRecursion (AcceptedFits (Brought ok)) l)
            (sym (ap (λ (o : Mail). o.earlier) h.feeds.left ∙ h.earlier)) g.earlier;
        above = λ m lt. g.above m (omega (arith, last, lt));
      }

  fails_good : (place : ℕ) (old new : Mail) (fault : RepeatFault) → FailsToRepeat place old new fault
      → GoodMail ok up down old
      → GoodMail ok up down new
  fails_good place old new fault (uncollected e k) g = subst (GoodMail ok up down) (sym k) g
  fails_good place old new fault (unfound e k) g =
      subst (GoodMail ok up down) (sym k) (collected_good ok up down old g)
  fails_good place old new fault (unsent sent found k) g =
      subst (GoodMail ok up down) (sym (unsent_same (collected old) new fault k)) (collected_good ok up down old g)
  fails_good place old new fault (refused sent found k) g =
      sent_again_good sent (collected old) new (Err fault) k
      (sent_found ok place (old.earlier ++ old.broker.book.accepted) sent (all_accepted_good ok up down old g) found)
      (collected_good ok up down old g)

  pub repeated_good : (place : ℕ) (old new : Mail) (r : Result (Option ℕ) RepeatFault) → Repeats place old new r
      → GoodMail ok up down old → GoodMail ok up down new
  repeated_good place old new (Ok (Some number)) h g =
      sent_again_good h.sent (collected old) new (Ok (Some number)) h.again
      (sent_found ok place (old.earlier ++ old.broker.book.accepted) h.sent (all_accepted_good ok up down old g)
      h.found)
      (collected_good ok up down old g)
  repeated_good place old new (Ok None) h g = subst (GoodMail ok up down) (sym h.1) (collected_good ok up down old g)
  repeated_good place old new (Err fault) h g = fails_good place old new fault h g

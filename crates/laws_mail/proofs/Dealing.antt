-- What deals make of what is good.
use Rattle.std.proofs.Common.{◌≡◌, ℕ, List, [], ◌∷◌, Result, Ok, Err, refl, sym, subst}
use Rattle.stomp_session.specs.Replies.{message_frame, leading_headers}
use Rattle.envelope.specs.Reading.{is_read}
use Rattle.envelope.proofs.Headers.{read_envelope-before}
use Rattle.std.specs.List.{AllByRecursion}
use Rattle.std.proofs.Common.{false, Option, Some, None, ◌∙◌}
use Rattle.stomp_session.specs.Replies.{ack_headers}
use Rattle.broker_book.specs.Books.{Book}
use Rattle.broker_book.specs.Steps.{Deals, Handed, Taken}
use Rattle.broker_core.specs.Feeding.{Dealing, DispatchAnswer, Hands, delivery_of}
use Rattle.broker_core.specs.Serving.{Roster, Server, roster_of, writing}
use Rattle.laws_broker.proofs.Dealing.{HandsOut, hands_out}
use Rattle.envelope.specs.declared.message.Envelope.{Envelope}
use Rattle.laws_mail.specs.Passing.{Brought, HasName, GoodBook, GoodFrame, GoodServer}
use Rattle.laws_mail.proofs.Serving.{GoodSessions, sessions_of, writes_good}
use Rattle.laws_mail.proofs.Sessions.{each_changed}

-- no header that a broker puts before those of a SEND is read
acks_unread : (o : Option ℕ) → AllByRecursion (λ h. is_read h ≡ false) (ack_headers o)
acks_unread None = tt
acks_unread (Some n) = (refl, tt)

module _ (ok : Envelope → Type 0) where
  handed_good : (d : Handed) (new : Book) → HandsOut (Brought ok) (HasName ok) d new
      → GoodFrame ok (message_frame (delivery_of d))
  handed_good d new h = record {
    fits = h.frame;
    means = λ _ e k. h.brought e
        (sym (read_envelope-before (leading_headers (delivery_of d)) d.sent.headers d.sent.body
        (refl, (refl, (refl, acks_unread d.ack)))) ∙ k);
  }

  module _ (up down : ℕ → List ℕ) where
    deals_good : (ds : List Handed) (old new : Book) (from to : Roster) → Deals old ds new → Taken Hands from ds to
        → GoodBook ok old
        → GoodSessions ok up down from.sessions → GoodBook ok new × GoodSessions ok up down to.sessions
    deals_good [] old new from to h t g s = (rw h g, rw t s)
    deals_good (d ∷ ds) old new from to h t g s =
        let one = hands_out (Brought ok) (HasName ok) (λ s k. k) old d h.0 h.1 g in
        let wrote =
        each_changed _ _ d.to.session (writing (message_frame (delivery_of d))) from.sessions (λ x e. refl) s
        (λ x e. writes_good ok (up d.to.session) (down d.to.session) x _ (s.found d.to.session x e)
        (handed_good d h.0 one)) in
        deals_good ds h.0 new t.0 to h.2 t.2 one.book (subst (λ (r : Roster). GoodSessions ok up down r.sessions)
        (sym t.1) wrote)

    pub dealing_good : (old new : Server) → Dealing old new → GoodServer ok up down old → GoodServer ok up down new
    dealing_good old new h g =
        let r = deals_good h.handed old.book new.book (roster_of old) (roster_of new) h.deals h.taken g.book
        (sessions_of ok up down old g) in
        record { book = r.0; sessions = r.1.found; gone = r.1.none }

    pub dispatch_good : {E : Type 0} (old new : Server) (r : Result (Unit {0}) E) → DispatchAnswer old new r
        → GoodServer ok up down old
        → GoodServer ok up down new
    dispatch_good old new (Ok _) h g = dealing_good old new h.0 g
    dispatch_good old new (Err _) h g = dealing_good old new h g

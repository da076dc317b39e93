-- What stands of a broker while messages are dealt.
use Rattle.std.proofs.Common.{◌≡◌, ℕ, ◌+◌, ◌<◌, Bool, true, false, cond, List, [], ◌∷◌, ◌++◌, Option, Some, None, refl}
use Rattle.std.proofs.Common.{sym, ap, ◌∙◌}
use Rattle.std.proofs.Common.{subst}
use Rattle.std.proofs.Common.{inl, inr, arith}
use Rattle.std.specs.Prelude.{◌==◌, ◌&&◌, ◌^◌, ◌-◌, ◌||◌, not, nat_lt, is_some}
use Rattle.std.specs.List.{AllByRecursion, find}
use Rattle.std.specs.Str.{bytes_eq}
use Rattle.std.proofs.lemmas.Bool.{eqb-true, ltb-true}
use Rattle.std.proofs.lemmas.List.{append-nil}
use Rattle.base.specs.declared.limits.TheConstants.{MAX_BODY, MAX_UNANSWERED}
use Rattle.stomp_frame.specs.Frames.{IsFrame}
use Rattle.stomp_session.proofs.Framing.{message_is_a_frame}
use Rattle.stomp_session.proofs.Owning.{all_append}
use Rattle.stomp_session.proofs.Taking.{same_text}
use Rattle.stomp_session.specs.Replies.{IsEchoed, IsGivenIfAny, message_frame}
use Rattle.broker_book.specs.Books.{Book, QueuedMessage, has_credit, is_auto, may_take, unanswered}
use Rattle.broker_book.specs.Steps.{Deal, Deals, Handed, Taken, left_of, next_ack}
use Rattle.broker_book.specs.declared.parts.Sent.{Sent}
use Rattle.broker_book.specs.declared.parts.Subscription.{Subscription}
use Rattle.broker_core.specs.Feeding.{Dealing, Hands, delivery_of}
use Rattle.broker_core.specs.Serving.{Roster, Server, broker_of, in_roster, is_session, roster_of, with_session}
use Rattle.broker_core.specs.Serving.{writing}
use Rattle.broker_core.specs.declared.session.Session.{Session}
use Rattle.broker_core.proofs.Left.{find_with}
use Rattle.laws_broker.specs.Lives.{Account}
use Rattle.laws_broker.specs.Written.{IsLater, message, Speaks, receipts_asked}
use Rattle.laws_broker.specs.Fitting.{BookFits, MessageFits}
use Rattle.laws_broker.proofs.Living.{SessionFits, Stands, SubscriptionFits, is_live}
use Rattle.laws_broker.proofs.Lists.{all_found, all_split, found_passes}
use Rattle.laws_broker.proofs.Sessions.{Each, each_changed, other_found}
use Rattle.laws_broker.proofs.Speaking.{fresh_or_running, running_more, running_speaks}

-- ---- the number of a delivery

both : (a b : Bool) → (a && b) ≡ true → (a ≡ true) × (b ≡ true)
both true b e = (refl, e)
both false b e = absurd cc

room : (auto few left : Bool) → (auto || (few && left)) ≡ true → auto ≡ false → left ≡ true
room true few left e k = absurd cc
room false few left e k = (both few left e).1

below : (n : ℕ) → nat_lt n (2 ^ 64 - 1) ≡ true → n + 1 < 2 ^ 64
below n e = let k : n < 2 ^ 64 - 1 = ltb-true n (2 ^ 64 - 1) e in omega (arith, k)

ack_step : (given : ℕ) (auto : Bool) → (auto ≡ false → given + 1 < 2 ^ 64)
    → IsGivenIfAny (cond auto None (Some (given + 1)))
ack_step given true h = tt
ack_step given false h = h refl

ack_given : (b : Book) (s : Subscription) → has_credit b s ≡ true → IsGivenIfAny (next_ack b s)
ack_given b s h = ack_step b.given (is_auto s.mode)
    (λ e. below b.given (room (is_auto s.mode) (nat_lt (unanswered b s) MAX_UNANSWERED) (nat_lt b.given (2 ^ 64 - 1)) h
    e))

ack_some : (given : ℕ) (auto : Bool) → is_some (cond auto None (Some (given + 1))) ≡ not auto
ack_some given true = refl
ack_some given false = refl

-- ---- one message is handed out

live_session : (o : Option Session) → is_live o ≡ true → (s : Session) × (o ≡ Some s) × (s.server ≡ true)
    × (s.closed ≡ false)
live_session None e = absurd cc
live_session (Some s) e = let k = both s.server (not s.closed) e in (s, refl, k.0, not_true s.closed k.1)
  where
    not_true : (b : Bool) → not b ≡ true → b ≡ false
    not_true true e = absurd cc
    not_true false e = refl

module _ (R : Sent → Type 0) (P : Subscription → Type 0) where
  left_fits : (m : QueuedMessage) (s : Subscription) (o : Option ℕ) (back : List QueuedMessage) → MessageFits R m
      → AllByRecursion (MessageFits R) back
      → AllByRecursion (MessageFits R) (left_of m s o ++ back)
  left_fits m s None back g h = h
  left_fits m s (Some k) back g h = (record { sent = g.sent; number = g.number }, h)

  -- what is handed out, and the book then
  pub record HandsOut (d : Handed) (new : Book) : Type 0 where
    pub frame : IsFrame MAX_BODY (message_frame (delivery_of d))
    pub brought : R d.sent
    pub to : P d.to
    pub destination : d.to.destination ≡ d.sent.destination
    pub ack : is_some d.ack ≡ not (is_auto d.to.mode)
    pub book : BookFits R P new

  pub hands_out : ((s : Subscription) → P s → IsEchoed s.id) → (old : Book) (d : Handed) (new : Book) → Deal old d new
      → BookFits R P old
      → HandsOut d new
  hands_out echoed old d new h g =
      let living = all_split (MessageFits R) h.front (h.message ∷ h.back)
      (subst (λ l. AllByRecursion (MessageFits R) l) h.found g.living) in
      let m = living.1.0 in
      let passes = both (bytes_eq d.to.destination h.message.sent.destination) (has_credit old d.to)
      (found_passes (may_take old h.message) old.subscriptions d.to h.oldest) in
      let to = all_found P (may_take old h.message) d.to old.subscriptions g.subscriptions h.oldest in
      record {
        frame = message_is_a_frame (delivery_of d) (record {
          carried = rw h.sent m.sent.carried;
          subscription = echoed d.to to;
          number = rw h.number m.number;
          ack = rw h.ack (ack_given old d.to passes.1);
        });
        brought = rw h.sent m.sent.brought;
        to = to;
        destination = same_text d.to.destination h.message.sent.destination passes.0
            ∙ ap (λ (x : Sent). x.destination) (sym h.sent);
        ack = rw h.ack (ack_some old.given (is_auto d.to.mode));
        book = rw h.changed (record {
          living = all_append (MessageFits R) h.front _ living.0 (left_fits h.message d.to d.ack h.back m living.1.1);
          subscriptions = g.subscriptions;
          accepted = g.accepted;
        });
      }

module _ (R : Sent → Type 0) (Q : Subscription → Type 0) (n : ℕ) where
  -- a MESSAGE is written to a session that is connected and open
  message_speaks : (a : Account) (s : Session) (d : Handed) (u : Bool) (new : Book)
      → HandsOut R (SubscriptionFits Q n u) d new
      → d.to.session ≡ n → s.server ≡ true
      → s.closed ≡ false → Speaks (IsLater R Q n) a (Some s)
      → Speaks (IsLater R Q n) a (Some (writing (message_frame (delivery_of d)) s))
  message_speaks a s d u new h z server unclosed k = elim (fresh_or_running (IsLater R Q n) a s k unclosed) [
    | inl g ↦ absurd (let y : true ≡ false = sym server ∙ g.connected in cc)
    | inr runs ↦ running_speaks (IsLater R Q n) a (writing (message_frame (delivery_of d)) s)
        (running_more (IsLater R Q n) a a s (writing (message_frame (delivery_of d)) s) (message_frame (delivery_of d))
        runs h.frame
        (message d h.brought h.to.asked z h.destination h.ack refl) refl (sym (append-nil (receipts_asked a.handled)))
        server refl)
  ]

  written_sessions : (m : ℕ) (f : Session → Session) (from : List Session) → ((s : Session) → (f s).number ≡ s.number)
      → ((s : Session) → SessionFits R s → SessionFits R (f s)) → Each (SessionFits R) from
      → Each (SessionFits R) (with_session m f from)
  written_sessions m f from number fits all =
      each_changed (SessionFits R) m f from (λ s e. number s) all (λ s e. fits s (all m s e))

  deal_step : (a : Account) (old new : Book) (from : Roster) (d : Handed) (v : Bool) → (d.to.session == n) ≡ v
      → HandsOut R (SubscriptionFits Q n (is_live (find (is_session n) from.sessions))) d new
      → Stands R Q n a (broker_of old from)
      → Stands R Q n a (broker_of new (in_roster d.to.session (writing (message_frame (delivery_of d))) from))
  deal_step a old new from d true e h k =
      let z : d.to.session ≡ n = eqb-true d.to.session n e in
      let live = live_session (find (is_session n) from.sessions) (h.to.live z) in
      let f : Session → Session = writing (message_frame (delivery_of d)) in
      let sessions : List Session = with_session d.to.session f from.sessions in
      let is : find (is_session n) sessions ≡ Some (f live.0) =
      subst (λ i. find (is_session n) (with_session i f from.sessions) ≡ Some (f live.0)) (sym z)
      (find_with n f from.sessions live.0 refl live.1) in
      let same : is_live (find (is_session n) from.sessions) ≡ is_live (find (is_session n) sessions) =
      ap is_live live.1 ∙ sym (ap is_live is) in
      record {
        book = subst (λ u. BookFits R (SubscriptionFits Q n u) new) same h.book;
        sessions = written_sessions d.to.session f from.sessions (λ s. refl)
            (λ s g. record { waits = g.waits; transactions = g.transactions }) k.sessions;
        speaks = subst (λ o. Speaks (IsLater R Q n) a o) (sym is)
            (message_speaks a live.0 d _ new h z live.2 live.3 (subst (λ o. Speaks (IsLater R Q n) a o) live.1
            k.speaks));
      }
  deal_step a old new from d false e h k =
      let f : Session → Session = writing (message_frame (delivery_of d)) in
      let sessions : List Session = with_session d.to.session f from.sessions in
      let is : find (is_session n) sessions ≡ find (is_session n) from.sessions =
      other_found d.to.session n f from.sessions e (λ s q. refl) in
      record {
        book = subst (λ o. BookFits R (SubscriptionFits Q n (is_live o)) new) (sym is) h.book;
        sessions = written_sessions d.to.session f from.sessions (λ s. refl)
            (λ s g. record { waits = g.waits; transactions = g.transactions }) k.sessions;
        speaks = subst (λ o. Speaks (IsLater R Q n) a o) (sym is) k.speaks;
      }

  deals_stand : (a : Account) (ds : List Handed) (old new : Book) (from to : Roster) → Deals old ds new
      → Taken Hands from ds to
      → Stands R Q n a (broker_of old from) → Stands R Q n a (broker_of new to)
  deals_stand a [] old new from to h t k = rw (h, t) k
  deals_stand a (d ∷ ds) old new from to h t k =
      let one = deal_step a old h.0 from d (d.to.session == n) refl
      (hands_out R (SubscriptionFits Q n (is_live (find (is_session n) from.sessions))) (λ s g. g.echoed) old d h.0 h.1
      k.book) k in
      deals_stand a ds h.0 new t.0 to h.2 t.2 (subst (λ r. Stands R Q n a (broker_of h.0 r)) (sym t.1) one)

  -- deals leave what stands
  pub dealing_stands : (a : Account) (old new : Server) → Dealing old new → Stands R Q n a old → Stands R Q n a new
  dealing_stands a old new h k =
      deals_stand a h.handed old.book new.book (roster_of old) (roster_of new) h.deals h.taken k

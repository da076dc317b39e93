-- What the calls of the mail and of a connection make of what is good.
use Rattle.std.proofs.Common.{◌≡◌, ℕ, ◌+◌, ◌≤◌, true, false, List, [], ◌∷◌, ◌++◌, take, drop, Option, Some, None}
use Rattle.std.proofs.Common.{Result, Ok, Err, refl, sym, ap, ◌∙◌, subst, append-nil, arith}
use Rattle.std.specs.List.{AllByRecursion}
use Rattle.std.proofs.lemmas.List.{take-append-drop}
use Rattle.base.specs.declared.limits.TheConstants.{MAX_BODY, MAX_QUEUED}
use Rattle.stomp_frame.specs.Decoding.{Held, Nexts}
use Rattle.stomp_frame.specs.Frames.{Content, canonical}
use Rattle.stomp_frame.specs.declared.fault.FrameFault.{FrameFault}
use Rattle.stomp_frame.specs.declared.fault.FrameFault.TheVariants.{Memory as NoMemory}
use Rattle.stomp_session.proofs.Owning.{all_append}
use Rattle.stomp_client.specs.Clients.{Client}
use Rattle.stomp_client.specs.Frames.{connect_frame}
use Rattle.broker_core.specs.Feeding.{DispatchAnswer}
use Rattle.broker_core.specs.Serving.{Server, session_of}
use Rattle.broker_core.specs.declared.fault.BrokerFault.{BrokerFault}
use Rattle.broker_core.specs.declared.fault.BrokerFault.TheVariants.{Memory, NoSession, TooMany}
use Rattle.envelope.specs.declared.message.Envelope.{Envelope}
use Rattle.schedule_mail.specs.Connecting.{CarriesDown, CarriesUp, Cuts, Opens, TakesNext, carried, falling, piece_of}
use Rattle.schedule_mail.specs.Connecting.{without_session}
use Rattle.channel.specs.Calls.{GivesNextOf}
use Rattle.channel.specs.declared.channel.Channel.{Channel}
use Rattle.schedule_mail.specs.Connecting.{SendsOctets}
use Rattle.schedule_mail.specs.Mails.{Mail, new_mail, restarted}
use Rattle.schedule_mail.specs.declared.connection.Connection.{Connection}
use Rattle.schedule_mail.specs.declared.fault.OpenFault.{OpenFault}
use Rattle.schedule_mail.specs.declared.fault.OpenFault.TheVariants.{Client as OfClient, Broker as OfBroker}
use Rattle.laws_broker.specs.Fitting.{AcceptedFits}
use Rattle.laws_mail.specs.Laws.{TakenGood}
use Rattle.laws_mail.specs.Passing.{AreOf, Brought, GoodConnection, GoodFrame, GoodNext, GoodMail, GoodServer}
use Rattle.laws_mail.specs.Passing.{GoodWith, HasWritten}
use Rattle.laws_mail.specs.Passing.{Spelled, at, coming, going}
use Rattle.laws_mail.proofs.Dealing.{dispatch_good}
use Rattle.laws_mail.proofs.Feeding.{feed_good}
use Rattle.laws_mail.proofs.Frames.{connect_good}
use Rattle.laws_mail.proofs.Moving.{awaited_good, dropped_good, empty_good, given_good, new_session_good, taken_good}
use Rattle.laws_mail.proofs.Placing.{AreEmpty, above_at, mail_with, unchanged}
use Rattle.laws_mail.proofs.Rising.{carried_up_opened, cut_opened, dispatched_opened, opened_number}
use Rattle.laws_mail.proofs.Spelling.{spelled_more}
use Rattle.laws_mail.proofs.Texts.{at_each, retold, retold_at, same_down, same_up}
use Rattle.laws_mail.proofs.Writing.{less_written}

-- a text of which nothing is on its way has no end
rest_empty : (piece rest : List ℕ) → piece ++ rest ≡ [] → rest ≡ []
rest_empty [] rest e = e
rest_empty (x ∷ piece) rest e = absurd (let z : x ∷ (piece ++ rest) ≡ [] = e in cc)

-- a decoder that held nothing holds nothing
given_empty : (f : Content) (old new : Held) → Nexts MAX_BODY old new (Ok (Some f)) → old.octets ≡ [] → new.octets ≡ []
given_empty f old new (was, sound, front, s, e) none = rest_empty front new.octets (sym e ∙ none)

awaited_empty : (old new : Held) → Nexts MAX_BODY old new (Ok None) → old.octets ≡ [] → new.octets ≡ []
awaited_empty old new (was, sound, unseen, fine, few, gap, is, e) none = rest_empty gap new.octets (sym e ∙ none)

-- octets that came down changed the decoder alone
fed_same : (most : ℕ) (old : Connection) (from : Mail) (new : Connection) (to : Mail) (count : ℕ)
    → CarriesDown most old from new to (Ok count)
    → new ≡ record old { channel = record old.channel { decoder = new.channel.decoder } }
fed_same most old from new to count h = h.same ∙ ap (λ (k : Channel). record old { channel = k }) h.feeds.1

module _ (ok : Envelope → Type 0) where
  -- ---- the first one, and one that is started again

  pub new_mail_good : GoodMail ok (λ _. []) (λ _. []) new_mail
  new_mail_good = record { server = empty_good ok; earlier = tt; above = λ n lt. (refl, refl) }

  -- all that was accepted
  pub all_accepted_good : (up down : ℕ → List ℕ) (o : Mail) → GoodMail ok up down o
      → AllByRecursion (AcceptedFits (Brought ok)) (o.earlier ++ o.broker.book.accepted)
  all_accepted_good up down o h =
      all_append (AcceptedFits (Brought ok)) o.earlier o.broker.book.accepted h.earlier h.server.book.accepted

  pub restarted_good : (up down : ℕ → List ℕ) (o : Mail) → GoodMail ok up down o
      → GoodMail ok (λ _. []) (λ _. []) (restarted o)
  restarted_good up down o h = record {
    server = empty_good ok;
    earlier = all_accepted_good up down o h;
    above = λ n lt. (refl, refl);
  }

module _ (ok : Envelope → Type 0) (up down : ℕ → List ℕ) where
  empty_above : (from to : ℕ) → to ≡ from → AreEmpty up down from → AreEmpty up down to
  empty_above from to e h n lt = h n (omega (arith, e, lt))

  -- ---- open

  -- a text is the only one at a number where nothing was on its way
  first_text : (n : ℕ) (rise fall : List ℕ) (b : Server) → up n ≡ [] → down n ≡ [] → rise ≡ canonical connect_frame
      → fall ≡ []
      → GoodServer ok up down b → GoodServer ok (at n rise up) (at n fall down) b
  first_text n rise fall b u d r f h = retold_at ok up down n rise fall b
      (λ held k. subst (λ l. Spelled ok (held ++ l)) (sym r)
      (spelled_more ok held connect_frame (subst (Spelled ok) (ap (λ l. held ++ l) u ∙ append-nil held) k)
      (connect_good ok)))
      (same_down ok (down n) fall (f ∙ sym d)) h

  pub opened_good : (from : Mail) (c : Connection) (to : Mail) → Opens from to (Ok c) → GoodMail ok up down from
      → GoodWith ok c up down to
  opened_good from c to h g =
      let n = from.broker.opened + 1 in
      let number = opened_number from c to h in
      let none = g.above n (omega arith) in
      let started = new_session_good ok up down from.broker none.0 none.1 g.server in
      let out : going c ≡ canonical connect_frame = ap (λ (k : Client ℕ). k.out) h.client in
      let octets : coming c ≡ [] = ap (λ (k : Held). k.octets) h.decoder in
      let server = first_text n (going c) (coming c) to.broker none.0 none.1 out octets
      (subst (GoodServer ok up down) (sym h.session.changed) started) in
      mail_with ok up down n (going c) (coming c) c to number.0 refl refl (record {
        server = server;
        earlier = subst (λ l. AllByRecursion (AcceptedFits (Brought ok)) l) (sym h.earlier) g.earlier;
        above = above_at up down n (going c) (coming c) to.broker.opened (λ m lt. g.above m
            (omega (arith, number.1, lt)))
            (λ lt. absurd (omega (arith, number.1, lt))) (λ lt. octets);
      })

  -- ---- the mail

  pub dispatched_good : {E : Type 0} (from to : Mail) (r : Result (Unit {0}) E)
      → DispatchAnswer from.broker to.broker r
      → to.earlier ≡ from.earlier → GoodMail ok up down from → GoodMail ok up down to
  dispatched_good from to r h e g = record {
    server = dispatch_good ok up down from.broker to.broker r h g.server;
    earlier = subst (λ l. AllByRecursion (AcceptedFits (Brought ok)) l) (sym e) g.earlier;
    above = empty_above from.broker.opened to.broker.opened (dispatched_opened from to r h) g.above;
  }

  pub cut_good : {E : Type 0} (c : Connection) (from to : Mail) (r : Result (Unit {0}) E) → Cuts c from to r
      → GoodMail ok up down from
      → GoodMail ok (at c.session [] up) (at c.session [] down) to
  cut_good c from to r h g = record {
    server = dispatch_good ok (at c.session [] up) (at c.session [] down) (without_session c.session from).broker
        to.broker r h.deals
        (dropped_good ok up down c.session from.broker (session_of c.session from.broker) refl g.server);
    earlier = subst (λ l. AllByRecursion (AcceptedFits (Brought ok)) l) (sym h.earlier) g.earlier;
    above = λ n lt. above_at up down c.session [] [] to.broker.opened
        (empty_above from.broker.opened to.broker.opened (cut_opened c from to r h) g.above) (λ _. refl) (λ _. refl) n
        lt;
  }

  -- nothing has changed
  stays_good : (old : Connection) (from : Mail) (new : Connection) (to : Mail) → to ≡ from → new ≡ old
      → AreOf old up down
      → GoodMail ok up down from → GoodWith ok new up down to
  stays_good old from new to e k are g =
      rw (e, k) (unchanged ok up down old.session (going old) (coming old) from are.0 are.1 g)

  -- ---- carry_up

  split_text : (most : ℕ) (text : List ℕ) → text ≡ piece_of most text ++ drop (carried most text) text
  split_text most text = sym (take-append-drop (carried most text) text)

  sent_good : (old : Connection) (from : Mail) (new : Connection) (to : Mail) (count : ℕ) (piece : List ℕ)
      → going old ≡ piece ++ drop count (going old) → SendsOctets count old new → AreOf old up down
      → to.broker.opened ≡ from.broker.opened
      → GoodMail ok up down from
      → AllByRecursion (AcceptedFits (Brought ok)) to.earlier
      → GoodServer ok (at old.session (drop count (going old)) up) down to.broker → GoodWith ok new up down to
  sent_good old from new to count piece split sends are last g earlier server =
      let rest = drop count (going old) in
      mail_with ok up down old.session rest (coming old) new to sends.session
      (ap (λ (k : Client ℕ). k.out) sends.channel.client) (ap (λ (k : Held). k.octets) sends.channel.decoder) (record {
        server = retold ok (at old.session rest up) (at old.session rest up) down (at old.session (coming old) down)
            to.broker
            (λ m held k. k)
            (at_each (λ m text. (out : List ℕ) → Spelled ok (down m ++ out) → Spelled ok (text ++ out)) old.session
            (coming old) down
            (same_down ok (down old.session) (coming old) (sym are.1)) (λ m e out k. k)) server;
        earlier = earlier;
        above = above_at up down old.session rest (coming old) to.broker.opened
            (empty_above from.broker.opened to.broker.opened last g.above)
            (λ lt. rest_empty piece rest (sym split ∙ sym are.0 ∙ (g.above old.session (omega (arith, last, lt))).0))
            (λ lt. sym are.1 ∙ (g.above old.session (omega (arith, last, lt))).1);
      })

  pub carried_up_good : (most : ℕ) (old : Connection) (from : Mail) (new : Connection) (to : Mail)
      (r : Result ℕ BrokerFault)
      → CarriesUp most old from new to r → AreOf old up down → GoodMail ok up down from → GoodWith ok new up down to
  carried_up_good most old from new to (Ok count) h are g =
      let rest = drop (carried most (going old)) (going old) in
      sent_good old from new to (carried most (going old)) (piece_of most (going old)) (split_text most (going old))
      (subst (λ k. SendsOctets k old new) h.counted h.sends) are (carried_up_opened most old from new to (Ok count) h) g
      (subst (λ l. AllByRecursion (AcceptedFits (Brought ok)) l) (sym h.earlier) g.earlier)
      (feed_good ok up down MAX_QUEUED from.broker old.session (piece_of most (going old)) rest to.broker (Ok h.handled)
      (are.0 ∙ split_text most (going old)) h.feeds g.server)
  carried_up_good most old from new to (Err (Memory true)) h are g =
      let rest = drop (carried most (going old)) (going old) in
      sent_good old from new to (carried most (going old)) (piece_of most (going old)) (split_text most (going old))
      h.sends are (carried_up_opened most old from new to (Err (Memory true)) h) g
      (subst (λ l. AllByRecursion (AcceptedFits (Brought ok)) l) (sym h.earlier) g.earlier)
      (feed_good ok up down MAX_QUEUED from.broker old.session (piece_of most (going old)) rest to.broker
      (Err (Memory true))
      (are.0 ∙ split_text most (going old)) h.feeds g.server)
  carried_up_good most old from new to (Err (Memory false)) h are g = stays_good old from new to h.1 h.2 are g
  carried_up_good most old from new to (Err NoSession) h are g = stays_good old from new to h.1 h.2 are g
  carried_up_good most old from new to (Err TooMany) h are g = stays_good old from new to h.1 h.2 are g

  -- ---- carry_down

  falls_good : (most : ℕ) (old : Connection) (from : Mail) (new : Connection) (to : Mail) (count : ℕ)
      → old.session ≤ from.broker.opened
      → CarriesDown most old from new to (Ok count) → AreOf old up down → GoodMail ok up down from
      → GoodMail ok (at old.session (going old) up) (at old.session (down old.session
      ++ take count (falling old from)) down) to
  falls_good most old from new to count there h are g =
      let n = old.session in
      let low = down n ++ take count (falling old from) in
      let server = taken_good ok up down n count from.broker g.server in
      let raised = retold ok up (at n (going old) up) (at n low down) (at n low down) _
      (at_each (λ m text. (held : List ℕ) → Spelled ok (held ++ up m) → Spelled ok (held ++ text)) n (going old) up
      (same_up ok (up n) (going old) (sym are.0)) (λ m e held k. k)) (λ m out k. k) server in
      subst (GoodMail ok (at n (going old) up) (at n low down)) (sym h.left) (record {
        server = raised;
        earlier = g.earlier;
        above = above_at up down n (going old) low from.broker.opened g.above (λ lt. absurd (omega (arith, there, lt)))
            (λ lt. absurd (omega (arith, there, lt)));
      })

  pub carried_down_good : (most : ℕ) (old : Connection) (from : Mail) (new : Connection) (to : Mail)
      (r : Result ℕ FrameFault)
      → CarriesDown most old from new to r → old.session ≤ from.broker.opened → AreOf old up down
      → GoodMail ok up down from
      → GoodWith ok new up down to
  carried_down_good most old from new to (Ok count) h there are g =
      let low = down old.session ++ take count (falling old from) in
      let octets : coming new ≡ low = h.feeds.0.2 ∙ ap (λ k. coming old ++ take k (falling old from)) (sym h.counted)
      ∙ ap (λ l. l ++ take count (falling old from)) (sym are.1) in
      mail_with ok up down old.session (going old) low new to (ap (λ (c : Connection). c.session) h.same)
      (ap (λ (c : Connection). going c) (fed_same most old from new to count h)) octets
      (falls_good most old from new to count there h are g)
  carried_down_good most old from new to (Err fault) h there are g = stays_good old from new to h.1 h.2 are g

  -- ---- next

  module _ (old new : Connection) (o : Mail) (are : AreOf old up down) (c : GoodConnection ok old)
      (g : GoodMail ok up down o) where
    -- the frame that waited is given
    waited_good : (f : Content) → old.channel.waiting ≡ Some f
        → new ≡ record old { channel = record old.channel { waiting = None } }
        → GoodFrame ok f × (GoodConnection ok new × GoodWith ok new up down o)
    waited_good f e k = (
      subst (GoodNext ok) e c.waits,
      (
        subst (GoodConnection ok) (sym k) (record { waits = tt; wrote = c.wrote }),
        subst (λ (x : Connection). GoodWith ok x up down o) (sym k)
            (unchanged ok up down old.session (going old) (coming old) o are.0 are.1 g),
      ),
    )

    -- the decoder was asked
    decoded : old.channel.waiting ≡ None
        → new ≡ record old { channel = record old.channel { decoder = new.channel.decoder } } → GoodConnection ok new
    decoded e k = subst (GoodConnection ok) (sym k) (record { waits = c.waits; wrote = c.wrote })

    rest_mail : (r : Result (Option Content) FrameFault)
        → new ≡ record old { channel = record old.channel { decoder = new.channel.decoder } }
        → (down old.session ≡ [] → coming new ≡ [])
        → GoodServer ok (at old.session (up old.session) up) (at old.session (coming new) down) o.broker
        → GoodWith ok new up down o
    rest_mail r k none server =
        mail_with ok up down old.session (up old.session) (coming new) new o (ap (λ (x : Connection). x.session) k)
        (ap (λ (x : Connection). going x) k ∙ sym are.0) refl (record {
          server = server;
          earlier = g.earlier;
          above = above_at up down old.session (up old.session) (coming new) o.broker.opened g.above
              (λ lt. (g.above old.session lt).0) (λ lt. none (g.above old.session lt).1);
        })

    decoder_good : (r : Result (Option Content) FrameFault) → old.channel.waiting ≡ None
        → Nexts MAX_BODY old.channel.decoder new.channel.decoder r
        → new ≡ record old { channel = record old.channel { decoder = new.channel.decoder } }
        → TakenGood ok up down old new o r
    decoder_good (Ok (Some f)) e h k =
        let x = given_good ok up down old.session f old.channel.decoder new.channel.decoder o.broker are.1 h g.server
        in (
          x.0,
          (
            decoded e k,
            rest_mail (Ok (Some f)) k
                (λ none. given_empty f old.channel.decoder new.channel.decoder h (sym are.1 ∙ none)) x.1,
          ),
        )
    decoder_good (Ok None) e h k =
        let x = awaited_good ok up down old.session old.channel.decoder new.channel.decoder o.broker are.1 h g.server
        in (
          decoded e k,
          rest_mail (Ok None) k
              (λ none. awaited_empty old.channel.decoder new.channel.decoder h (sym are.1 ∙ none)) x,
        )
    decoder_good (Err NoMemory) e h k =
        k ∙ ap (λ (d : Held). record old { channel = record old.channel { decoder = d } }) h.1
    decoder_good (Err _) e h k = tt

    next_by : (w : Option Content) (r : Result (Option Content) FrameFault) → old.channel.waiting ≡ w
        → GivesNextOf w old.channel new.channel r → new ≡ record old { channel = new.channel }
        → TakenGood ok up down old new o r
    next_by (Some f) r e h k =
        subst (TakenGood ok up down old new o) (sym h.0) (waited_good f e
        (k ∙ ap (λ (x : Channel). record old { channel = x }) h.1))
    next_by None r e h k = decoder_good r e h.0 (k ∙ ap (λ (x : Channel). record old { channel = x }) h.1)

  pub next_good : (old new : Connection) (o : Mail) (r : Result (Option Content) FrameFault) → TakesNext old new r
      → AreOf old up down
      → GoodConnection ok old → GoodMail ok up down o → TakenGood ok up down old new o r
  next_good old new o r h are c g = next_by old new o are c g old.channel.waiting r refl h.0 h.1

-- ---- what else holds of a connection

pub unopened_same : (from to : Mail) (fault : OpenFault) → Opens from to (Err fault) → to ≡ from
unopened_same from to (OfClient fault) h = h.1
unopened_same from to (OfBroker fault) h = h.1

pub carried_up_session : (most : ℕ) (old : Connection) (from : Mail) (new : Connection) (to : Mail)
    (r : Result ℕ BrokerFault)
    → CarriesUp most old from new to r → new.session ≡ old.session
carried_up_session most old from new to (Ok count) h = h.sends.session
carried_up_session most old from new to (Err (Memory true)) h = h.sends.session
carried_up_session most old from new to (Err (Memory false)) h = ap (λ (c : Connection). c.session) h.2
carried_up_session most old from new to (Err NoSession) h = ap (λ (c : Connection). c.session) h.2
carried_up_session most old from new to (Err TooMany) h = ap (λ (c : Connection). c.session) h.2

pub carried_down_session : (most : ℕ) (old : Connection) (from : Mail) (new : Connection) (to : Mail)
    (r : Result ℕ FrameFault)
    → CarriesDown most old from new to r → new.session ≡ old.session
carried_down_session most old from new to (Ok count) h = ap (λ (c : Connection). c.session) h.same
carried_down_session most old from new to (Err fault) h = ap (λ (c : Connection). c.session) h.2

pub next_session : (old new : Connection) (r : Result (Option Content) FrameFault) → TakesNext old new r
    → new.session ≡ old.session
next_session old new r h = ap (λ (c : Connection). c.session) h.1

module _ (ok : Envelope → Type 0) where
  pub opened_connection : (from : Mail) (c : Connection) (to : Mail) → Opens from to (Ok c) → GoodConnection ok c
  opened_connection from c to h = record {
    waits = subst (GoodNext ok) (sym h.waiting) tt;
    wrote = record {
      frames = connect_frame ∷ [];
      each = (connect_good ok, tt);
      gone = [];
      wrote = record {
        each = (h.is_frame, tt);
        whole = ap (λ (k : Client ℕ). k.out) h.client ∙ sym (append-nil (canonical connect_frame));
      };
    };
  }

  sent_connection : (count : ℕ) (old new : Connection) → SendsOctets count old new → GoodConnection ok old
      → GoodConnection ok new
  sent_connection count old new sends c = record {
    waits = subst (GoodNext ok) (sym sends.channel.waiting) c.waits;
    wrote = subst (HasWritten ok) (sym (ap (λ (k : Client ℕ). k.out) sends.channel.client))
        (less_written ok (going old) count c.wrote);
  }

  pub carried_up_connection : (most : ℕ) (old : Connection) (from : Mail) (new : Connection) (to : Mail)
      (r : Result ℕ BrokerFault)
      → CarriesUp most old from new to r → GoodConnection ok old → GoodConnection ok new
  carried_up_connection most old from new to (Ok count) h c = sent_connection count old new h.sends c
  carried_up_connection most old from new to (Err (Memory true)) h c =
      sent_connection (carried most (going old)) old new h.sends c
  carried_up_connection most old from new to (Err (Memory false)) h c = subst (GoodConnection ok) (sym h.2) c
  carried_up_connection most old from new to (Err NoSession) h c = subst (GoodConnection ok) (sym h.2) c
  carried_up_connection most old from new to (Err TooMany) h c = subst (GoodConnection ok) (sym h.2) c

  pub carried_down_connection : (most : ℕ) (old : Connection) (from : Mail) (new : Connection) (to : Mail)
      (r : Result ℕ FrameFault)
      → CarriesDown most old from new to r → GoodConnection ok old → GoodConnection ok new
  carried_down_connection most old from new to (Ok count) h c =
      subst (GoodConnection ok) (sym (fed_same most old from new to count h))
      (record { waits = c.waits; wrote = c.wrote })
  carried_down_connection most old from new to (Err fault) h c = subst (GoodConnection ok) (sym h.2) c

  pub put_back_good : (c : Connection) (f : Content) → GoodFrame ok f → GoodConnection ok c
      → GoodConnection ok (record c { channel = record c.channel { waiting = Some f } })
  put_back_good c f g h = record { waits = g; wrote = h.wrote }

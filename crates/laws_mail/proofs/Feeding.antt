-- What feeding a session makes of what is good.
use Rattle.std.proofs.Common.{◌≡◌, ℕ, Bool, true, false, cond, List, [], ◌∷◌, ◌++◌, Some, Result, Ok, Err, refl, sym}
use Rattle.std.proofs.Common.{ap, ◌∙◌}
use Rattle.std.proofs.Common.{subst, append_assoc}
use Rattle.broker_core.specs.Feeding.{DecidesNext, waited, read, HasNone, MeetsFault, now, before, TakesDecided}
use Rattle.broker_core.specs.Feeding.{Handles, HandlesAll, Ends}
use Rattle.broker_core.specs.Feeding.{closed}
use Rattle.broker_core.specs.Feeding.{awaits, faulty, Stops, at_frame, in_step, in_deals, at_fault, at_end, FeedAnswer}
use Rattle.broker_core.specs.Feeding.{fed, taking}
use Rattle.broker_core.specs.Feeding.{with_incoming, with_waiting}
use Rattle.broker_core.specs.Serving.{Decided, Server, changing, session_of, step}
use Rattle.broker_core.specs.declared.fault.BrokerFault.{BrokerFault}
use Rattle.broker_core.specs.declared.fault.BrokerFault.TheVariants.{Memory, NoSession, TooMany}
use Rattle.broker_core.specs.declared.incoming.Incoming.{Incoming}
use Rattle.broker_core.specs.declared.session.Session.{Session}
use Rattle.envelope.specs.declared.message.Envelope.{Envelope}
use Rattle.laws_mail.specs.Passing.{GoodDecided, GoodServer, GoodSession, GoodWaiting, Spelled, at}
use Rattle.laws_mail.proofs.Deciding.{decided_good}
use Rattle.laws_mail.proofs.Dealing.{dealing_good}
use Rattle.laws_mail.proofs.Serving.{fault_good, sessions_of, step_good}
use Rattle.laws_mail.proofs.Sessions.{each_changed, found_changed, none_before, same_some}
use Rattle.laws_mail.proofs.Spelling.{behind_gap, first_good}
use Rattle.laws_mail.proofs.Texts.{apart, here, session_texts}

-- two tests that don't agree
no_longer : (P : Type 0) (b : Bool) → b ≡ true → b ≡ false → P
no_longer P b e k = absurd (let z : true ≡ false = sym e ∙ k in cc)

module _ (ok : Envelope → Type 0) where
  -- ---- what a session was fed

  module _ (up down : List ℕ) (s : Session) where
    takes_good : (d : Decided) (left : Incoming) → s.closed ≡ false → GoodSession ok up down s
        → DecidesNext s.server s.incoming d left
        → GoodDecided ok d × GoodSession ok up down (with_incoming left s)
    takes_good d left unclosed h (waited e k) = (
      subst (GoodWaiting ok) e h.waits,
      record {
        waits = subst (λ (i : Incoming). GoodWaiting ok i.waiting) (sym k) tt;
        comes = subst (λ (i : Incoming). s.closed ≡ false → i.decoder.failed ≡ false
            → Spelled ok (i.decoder.octets ++ up)) (sym k) h.comes;
        transactions = h.transactions;
        goes = h.goes;
      },
    )
    takes_good d left unclosed h (read f front none sound spells octets still w answers) =
        let r = first_good ok f front (left.decoder.octets ++ up) (s.incoming.decoder.octets ++ up)
        (h.comes unclosed sound) spells
        (ap (λ l. l ++ up) octets ∙ append_assoc front left.decoder.octets up) in (
          subst (GoodDecided ok) (sym answers) (decided_good ok s.server f r.0),
          record {
            waits = subst (GoodWaiting ok) (sym w) tt;
            comes = λ _ _. r.1;
            transactions = h.transactions;
            goes = h.goes;
          },
        )

    none_good : (left : Incoming) → s.closed ≡ false → GoodSession ok up down s → HasNone s.incoming left
        → GoodSession ok up down (with_incoming left s)
    none_good left unclosed h k = record {
      waits = subst (GoodWaiting ok) (sym k.still_none) tt;
      comes = λ _ _. behind_gap ok k.gap (left.decoder.octets ++ up) (s.incoming.decoder.octets ++ up)
          (h.comes unclosed k.sound) k.is_gap
          (ap (λ l. l ++ up) k.octets ∙ append_assoc k.gap left.decoder.octets up);
      transactions = h.transactions;
      goes = h.goes;
    }

    meets_good : (left : Incoming) → GoodSession ok up down s → MeetsFault s.incoming left
        → GoodSession ok up down (with_incoming left s)
    meets_good left h (now fault none sound bad w failed) = record {
      waits = subst (GoodWaiting ok) (sym w) tt;
      comes = λ _ k. no_longer _ left.decoder.failed failed k;
      transactions = h.transactions;
      goes = h.goes;
    }
    meets_good left h (before none failed k) = record {
      waits = subst (λ (i : Incoming). GoodWaiting ok i.waiting) (sym k) h.waits;
      comes = subst (λ (i : Incoming). s.closed ≡ false → i.decoder.failed ≡ false
          → Spelled ok (i.decoder.octets ++ up)) (sym k) h.comes;
      transactions = h.transactions;
      goes = h.goes;
    }

    waits_good : (d : Decided) (left : Incoming) → GoodDecided ok d → GoodSession ok up down (with_incoming left s)
        → GoodSession ok up down (with_incoming (with_waiting d left) s)
    waits_good d left g h = record { waits = g; comes = h.comes; transactions = h.transactions; goes = h.goes }

  -- ---- one frame after another

  module _ (up down : ℕ → List ℕ) where
    -- the session of a number has this left
    left_good : (n : ℕ) (s : Session) (left : Incoming) (b : Server) → GoodServer ok up down b → session_of n b ≡ Some s
        → GoodSession ok (up n) (down n) (with_incoming left s)
        → GoodServer ok up down (changing n (with_incoming left) b)
    left_good n s left b h found k =
        let all = each_changed _ _ n (with_incoming left) b.sessions (λ x e. refl) (sessions_of ok up down b h)
        (λ x e. subst (λ (y : Session). GoodSession ok (up n) (down n) (with_incoming left y))
        (same_some (session_of n b) s x found e) k) in
        record { book = h.book; sessions = all.found; gone = all.none }

    taken_good : (old : Server) (n : ℕ) (d : Decided) (new : Server) → TakesDecided old n d new
        → GoodServer ok up down old
        → GoodDecided ok d × GoodServer ok up down new
    taken_good old n d new t h =
        let k = takes_good (up n) (down n) t.session d t.left t.is_open.is_open (h.sessions n t.session t.is_open.found)
        t.takes in
        (k.0, rw t.changed (left_good n t.session t.left old h t.is_open.found k.1))

    handles_good : (full n : ℕ) (old : Server) (d : Decided) (new : Server) → Handles full n old d new
        → GoodServer ok up down old
        → GoodServer ok up down new
    handles_good full n old d new t h =
        let k = taken_good old n d t.taken t.takes h in
        dealing_good ok up down (step full n d t.taken) new t.settles.0 (step_good ok up down full n d t.taken k.0 k.1)

    all_good : (full n : ℕ) (old : Server) (ds : List Decided) (new : Server) → HandlesAll full n old ds new
        → GoodServer ok up down old
        → GoodServer ok up down new
    all_good full n old [] new t h = rw t h
    all_good full n old (d ∷ ds) new t h = all_good full n t.0 ds new t.2 (handles_good full n old d t.0 t.1 h)

    ends_good : (old : Server) (n : ℕ) (new : Server) → Ends old n new → GoodServer ok up down old
        → GoodServer ok up down new
    ends_good old n new (closed s found is k) h = rw k h
    ends_good old n new (awaits s left unclosed none k) h =
        rw k (left_good n s left old h unclosed.found
        (none_good (up n) (down n) s left unclosed.is_open (h.sessions n s unclosed.found) none))
    ends_good old n new (faulty s left unclosed meets k) h =
        rw k (fault_good ok up down n (changing n (with_incoming left) old)
        (left_good n s left old h unclosed.found (meets_good (up n) (down n) s left (h.sessions n s unclosed.found)
        meets)))

    stops_good : (full n : ℕ) (old new : Server) → Stops full n old new → GoodServer ok up down old
        → GoodServer ok up down new
    stops_good full n old new (at_frame k) h = rw k h
    stops_good full n old new (in_step d s left unclosed takes k) h =
        let t = takes_good (up n) (down n) s d left unclosed.is_open (h.sessions n s unclosed.found) takes in
        rw k (left_good n s (with_waiting d left) old h unclosed.found (waits_good (up n) (down n) s d left t.0 t.1))
    stops_good full n old new (in_deals d taken takes deals) h =
        let k = taken_good old n d taken takes h in
        dealing_good ok up down (step full n d taken) new deals (step_good ok up down full n d taken k.0 k.1)
    stops_good full n old new (at_fault s left unclosed meets k) h =
        rw k (left_good n s left old h unclosed.found (meets_good (up n) (down n) s left (h.sessions n s unclosed.found)
        meets))
    stops_good full n old new (at_end ended ends deals) h =
        dealing_good ok up down ended new deals (ends_good old n ended ends h)

  -- ---- a piece is fed

  waits_fed : (piece : List ℕ) (i : Incoming) (failed : Bool) → GoodWaiting ok i.waiting
      → GoodWaiting ok (cond failed i (record i {
        decoder =
            record i.decoder { octets = i.decoder.octets ++ piece };
      })).waiting
  waits_fed piece i true h = h
  waits_fed piece i false h = h

  comes_fed : (piece rest : List ℕ) (i : Incoming) (failed : Bool) → i.decoder.failed ≡ failed
      → (i.decoder.failed ≡ false → Spelled ok (i.decoder.octets ++ (piece ++ rest)))
      → (cond failed i (record i { decoder = record i.decoder { octets = i.decoder.octets ++ piece } })).decoder.failed
      ≡ false
      → Spelled ok ((cond failed i (record i {
        decoder =
            record i.decoder { octets = i.decoder.octets ++ piece };
      })).decoder.octets ++ rest)
  comes_fed piece rest i true e h k = no_longer _ i.decoder.failed e k
  comes_fed piece rest i false e h k = subst (Spelled ok) (sym (append_assoc i.decoder.octets piece rest)) (h e)

  taking_step : (piece rest down : List ℕ) (s : Session) (shut : Bool) → s.closed ≡ shut
      → GoodSession ok (piece ++ rest) down s
      → GoodSession ok rest down (cond shut s (record s { incoming = fed piece s.incoming }))
  taking_step piece rest down s true e h = record {
    waits = h.waits;
    comes = λ k _. no_longer _ s.closed e k;
    transactions = h.transactions;
    goes = h.goes;
  }
  taking_step piece rest down s false e h = record {
    waits = waits_fed piece s.incoming s.incoming.decoder.failed h.waits;
    comes = λ k. comes_fed piece rest s.incoming s.incoming.decoder.failed refl (h.comes e);
    transactions = h.transactions;
    goes = h.goes;
  }

  taking_number : (piece : List ℕ) (s : Session) (shut : Bool)
      → (cond shut s (record s { incoming = fed piece s.incoming })).number ≡ s.number
  taking_number piece s true = refl
  taking_number piece s false = refl

  module _ (up down : ℕ → List ℕ) where
    fed_good : (n : ℕ) (piece rest : List ℕ) (b : Server) → up n ≡ piece ++ rest → GoodServer ok up down b
        → GoodServer ok (at n rest up) down (changing n (taking piece) b)
    fed_good n piece rest b e h = record {
      book = h.book;
      sessions =
          λ m t. found_changed (λ m s. GoodSession ok (at n rest up m) (down m) s) n (taking piece) b.sessions m t
          (λ s q. taking_number piece s s.closed)
          (λ s q. session_texts ok _ _ _ _ (taking piece s) (here n n rest up refl) refl
          (taking_step piece rest (down n) s s.closed refl
          (session_texts ok _ _ _ _ s (sym e) refl (h.sessions n s q))))
          (λ other q. session_texts ok _ _ _ _ t (apart n m rest up other) refl (h.sessions m t q));
      gone = λ m none. h.gone m (none_before n (taking piece) b.sessions m (λ s q. taking_number piece s s.closed)
          none);
    }

    -- what is good after a `feed`: the piece isn't on its way any more, unless nothing was taken
    abbrev pub GoodFed : ℕ → List ℕ → Server → Result ℕ BrokerFault → Type 0
    GoodFed n rest new (Ok count) = GoodServer ok (at n rest up) down new
    GoodFed n rest new (Err (Memory true)) = GoodServer ok (at n rest up) down new
    GoodFed n rest new (Err fault) = GoodServer ok up down new

    pub feed_good : (full : ℕ) (old : Server) (n : ℕ) (piece rest : List ℕ) (new : Server) (r : Result ℕ BrokerFault)
        → up n ≡ piece ++ rest
        → FeedAnswer full old n piece new r → GoodServer ok up down old → GoodFed n rest new r
    feed_good full old n piece rest new (Ok count) e a h =
        let start = fed_good n piece rest old e h in
        let handled =
        all_good (at n rest up) down full n (changing n (taking piece) old) a.frames a.handled a.handles start in
        dealing_good ok (at n rest up) down a.ended new a.settles.0 (ends_good (at n rest up) down a.handled n a.ended
        a.ends handled)
    feed_good full old n piece rest new (Err (Memory true)) e a h =
        let start = fed_good n piece rest old e h in
        let handled =
        all_good (at n rest up) down full n (changing n (taking piece) old) a.frames a.handled a.handles start in
        stops_good (at n rest up) down full n a.handled new a.stops handled
    feed_good full old n piece rest new (Err (Memory false)) e a h = rw a.same h
    feed_good full old n piece rest new (Err NoSession) e a h = rw a.1 h
    feed_good full old n piece rest new (Err TooMany) e a h = absurd a

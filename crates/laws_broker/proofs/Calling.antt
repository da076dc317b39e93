-- What stands of a broker behind each of its calls.
use Rattle.std.proofs.Common.{◌≡◌, ℕ, ◌+◌, Bool, true, false, cond, List, [], ◌∷◌, ◌++◌, take, drop, Option, Some, None}
use Rattle.std.proofs.Common.{refl, sym, ap}
use Rattle.std.proofs.Common.{◌∙◌, subst}
use Rattle.std.proofs.Common.{append_assoc}
use Rattle.std.specs.Prelude.{◌==◌, if◌then◌else◌, Result, Ok, Err}
use Rattle.std.specs.List.{AllByRecursion, find}
use Rattle.std.proofs.lemmas.Bool.{eqb-true, eq-eqb}
use Rattle.std.proofs.lemmas.List.{append-nil, take-append-drop}
use Rattle.std.proofs.Math.Seq.{take-nil}
use Rattle.broker_book.specs.Steps.{ended}
use Rattle.broker_core.specs.Serving.{with_session}
use Rattle.broker_core.proofs.Left.{find_with}
use Rattle.stomp_frame.specs.Frames.{Content}
use Rattle.stomp_client.specs.Written.{Wrote}
use Rattle.broker_book.specs.declared.parts.Sent.{Sent}
use Rattle.broker_book.specs.declared.parts.Subscription.{Subscription}
use Rattle.broker_core.specs.Calls.{OpensSession, dropped, empty, named, new_session, others, out_in, with_new_session}
use Rattle.broker_core.specs.Calls.{without_first}
use Rattle.broker_core.specs.Feeding.{fed, taking}
use Rattle.broker_core.specs.Serving.{Decided, Server, changing, is_session, session_of}
use Rattle.broker_core.specs.Streams.{Fed, Took, part, stopped_frames, whole}
use Rattle.broker_core.specs.declared.incoming.Incoming.{Incoming}
use Rattle.broker_core.specs.declared.session.Session.{Session}
use Rattle.broker_core.specs.declared.fault.BrokerFault.{BrokerFault}
use Rattle.broker_core.specs.declared.fault.BrokerFault.TheVariants.{Memory, NoSession, TooMany}
use Rattle.laws_broker.specs.Lives.{Account, BrokerCall, Opened, FedTo, Dispatched, TakenFrom, Dropped, Named, Told}
use Rattle.laws_broker.specs.Lives.{DoesCall, Lives}
use Rattle.laws_broker.proofs.Hearing.{Answered, answered, taken, thrown}
use Rattle.laws_broker.specs.Written.{IsLater, Speaks, nothing}
use Rattle.laws_broker.proofs.Dealing.{dealing_stands}
use Rattle.laws_broker.proofs.Deciding.{WaitingFits}
use Rattle.laws_broker.proofs.Feeding.{ends_stand, handled_stands, handling_all, none_more, stops_stand}
use Rattle.laws_broker.specs.Fitting.{BookFits}
use Rattle.laws_broker.proofs.Fitting.{book_weaker, ended_fits}
use Rattle.laws_broker.proofs.Lists.{all_split}
use Rattle.laws_broker.proofs.Living.{Knows, SessionFits, Stands, SubscriptionFits, Touches, is_live, same_alike}
use Rattle.laws_broker.proofs.Living.{stands_alike, touched}
use Rattle.laws_broker.proofs.Sessions.{Each, each_changed, new_found, new_other, none_changed, none_left, old_found}
use Rattle.laws_broker.proofs.Sessions.{other_found}
use Rattle.laws_broker.proofs.Sessions.{others_left, turned}

-- ---- the account of a session from when it was opened

-- nothing was taken or handled
abbrev pub no_account : Account
no_account = record { taken = []; handled = [] }

-- the account of a session after one call more
abbrev pub after : ℕ → Account → BrokerCall → Account
after n a (Opened (Ok m)) = if n == m then no_account else a
after n a (FedTo m fed answer) = if n == m then record a { handled = a.handled ++ fed.frames } else a
after n a (TakenFrom m octets) = if n == m then record a { taken = a.taken ++ octets } else a
after n a _ = a

-- the same after calls, in order
abbrev pub after_all : ℕ → Account → List BrokerCall → Account
after_all n a [] = a
after_all n a (c ∷ calls) = after_all n (after n a c) calls

-- ---- a piece is fed

fed_waits : (piece : List ℕ) (i : Incoming) (c b : Bool) → WaitingFits c i.waiting
    → WaitingFits c (cond b i (record i { decoder = record i.decoder { octets = i.decoder.octets ++ piece } })).waiting
fed_waits piece i c true h = h
fed_waits piece i c false h = h

taking_touches : (R : Sent → Type 0) (piece : List ℕ) (s : Session) (b : Bool) → SessionFits R s
    → Touches R s (cond b s (record s { incoming = fed piece s.incoming }))
taking_touches R piece s true h = record { number = refl; server = refl; closed = refl; out = refl; fits = h }
taking_touches R piece s false h = record {
  number = refl;
  server = refl;
  closed = refl;
  out = refl;
  fits = record {
    waits = fed_waits piece s.incoming s.server s.incoming.decoder.failed h.waits;
    transactions = h.transactions;
  };
}

both_more : (n m : ℕ) (a : Account) (xs ys : List Decided) (v : Bool) → (n == m) ≡ v
    → handling_all n m (handling_all n m a xs) ys ≡ handling_all n m a (xs ++ ys)
both_more n m a xs ys true e = rw (e, append_assoc a.handled xs ys) refl
both_more n m a xs ys false e = rw e refl

-- ---- octets are taken

taken_wrote : (frames : List Content) (gone out : List ℕ) (count : ℕ) → Wrote frames gone out
    → Wrote frames (gone ++ take count out) (drop count out)
taken_wrote frames gone out count h = record {
  each = h.each;
  whole = append_assoc gone (take count out) (drop count out)
      ∙ ap (λ (l : List ℕ). gone ++ l) (take-append-drop count out) ∙ h.whole;
}

nothing_taken : (count : ℕ) → ◌≡◌ {A = List ℕ} (take count []) []
nothing_taken count = take-nil count

-- the same account with octets taken
abbrev with_taken : Account → List ℕ → Account
with_taken a octets = record a { taken = a.taken ++ octets }

module _ (R : Sent → Type 0) (Q : Subscription → Type 0) (n : ℕ) where
  feed_stands : (full m : ℕ) (a : Account) (old new : Server) (f : Fed) → Took full m old f new
      → AllByRecursion (Knows R Q m) f.frames
      → Stands R Q n a old → Stands R Q n (handling_all n m a f.frames) new
  feed_stands full m a old new f (whole count t e) k h =
      let ks = subst (AllByRecursion (Knows R Q m)) e k in
      let fed =
      touched R Q n a m (taking f.piece) old (λ s q. taking_touches R f.piece s s.closed (h.sessions m s q)) h in
      let b : Account = handling_all n m a t.frames in
      let handled =
      handled_stands R Q n full m a (changing m (taking f.piece) old) t.frames t.handled t.handles ks fed in
      rw e (dealing_stands R Q n b t.ended new t.settles.0 (ends_stand R Q n m b t.handled t.ended t.ends handled))
  feed_stands full m a old new f (part t e) k h =
      let ks = all_split (Knows R Q m) t.frames (stopped_frames t.stops) (subst (AllByRecursion (Knows R Q m)) e k) in
      let fed =
      touched R Q n a m (taking f.piece) old (λ s q. taking_touches R f.piece s s.closed (h.sessions m s q)) h in
      let b : Account = handling_all n m a t.frames in
      let handled =
      handled_stands R Q n full m a (changing m (taking f.piece) old) t.frames t.handled t.handles ks.0 fed in
      rw (e, ← both_more n m a t.frames (stopped_frames t.stops) (n == m) refl)
      (stops_stand R Q n full m b t.handled new t.stops ks.1 handled)

  -- ---- octets are taken

  taken_speaks : (a : Account) (octets : List ℕ) (count : ℕ) (o : Option Session) → octets ≡ take count (out_in o)
      → Speaks (IsLater R Q n) a o → (s : Session) → o ≡ Some s
      → Speaks (IsLater R Q n) (with_taken a octets) (Some (without_first count s))
  taken_speaks a octets count None e h s k = absurd cc
  taken_speaks a octets count (Some x) e h s k =
      let z : x ≡ s = cc in
      rw (← z) (record {
        frames = h.frames;
        left = drop count x.out;
        wrote = rw e (taken_wrote h.frames a.taken x.out count (rw h.now.2 h.wrote));
        connected = h.connected;
        closed = h.closed;
        told = h.told;
        confirms = h.confirms;
        now = (h.now.0, h.now.1, refl);
      })

  taken_keeps : (m count : ℕ) (b : Server) → Each (SessionFits R) b.sessions
      → Each (SessionFits R) (with_session m (without_first count) b.sessions)
  taken_keeps m count b all = each_changed (SessionFits R) m (without_first count) b.sessions (λ s e. refl) all
      (λ s e. record { waits = (all m s e).waits; transactions = (all m s e).transactions })

  none_taken : (a : Account) (octets : List ℕ) (count : ℕ) → octets ≡ take count [] → with_taken a octets ≡ a
  none_taken a octets count e = rw (e, nothing_taken count, append-nil a.taken) refl

  taken_here : (a : Account) (octets : List ℕ) (count : ℕ) (b : Server) (o : Option Session) → session_of n b ≡ o
      → octets ≡ take count (out_in (session_of n b)) → Stands R Q n a b
      → Stands R Q n (with_taken a octets) (changing n (without_first count) b)
  taken_here a octets count b None found e h =
      let none : octets ≡ take count [] = e ∙ ap (λ o. take count (out_in o)) found in
      let same : with_session n (without_first count) b.sessions ≡ b.sessions =
      none_changed n (without_first count) b.sessions found in
      rw (none_taken a octets count none, same) h
  taken_here a octets count b (Some s) found e h =
      let is : session_of n (changing n (without_first count) b) ≡ Some (without_first count s) =
      find_with n (without_first count) b.sessions s refl found in
      let same : is_live (session_of n b) ≡ is_live (session_of n (changing n (without_first count) b)) =
      ap is_live found ∙ sym (ap is_live is) in
      record {
        book = subst (λ u. BookFits R (SubscriptionFits Q n u) b.book) same h.book;
        sessions = taken_keeps n count b h.sessions;
        speaks = subst (λ o. Speaks (IsLater R Q n) (with_taken a octets) o) (sym is)
            (taken_speaks a octets count (session_of n b) e h.speaks s found);
      }

  takes_step : (m : ℕ) (a : Account) (octets : List ℕ) (count : ℕ) (b : Server) (v : Bool) → (n == m) ≡ v
      → octets ≡ take count (out_in (session_of m b)) → Stands R Q n a b
      → Stands R Q n (after n a (TakenFrom m octets)) (changing m (without_first count) b)
  takes_step m a octets count b true e k h =
      let z : n ≡ m = eqb-true n m e in
      rw (e, ← z) (taken_here a octets count b (session_of n b) refl (rw z k) h)
  takes_step m a octets count b false e k h = rw e (stands_alike R Q n a b (changing m (without_first count) b) h
      (same_alike _ _ (other_found m n (without_first count) b.sessions (turned n m e) (λ s q. refl))) h.book
      (taken_keeps m count b h.sessions))

  -- ---- a session is opened

  fresh_speaks : (k : ℕ) → Speaks (IsLater R Q n) no_account (Some (new_session k))
  fresh_speaks k = record {
    frames = [];
    left = [];
    wrote = record { each = tt; whole = refl };
    connected = false;
    closed = false;
    told = nothing refl refl refl;
    confirms = record { missing = None; receipts = refl; all = λ e. refl };
    now = (refl, refl, refl);
  }

  new_fits : (k : ℕ) → SessionFits R (new_session k)
  new_fits k = record { waits = tt; transactions = tt }

  added_step : (k m : ℕ) (ss : List Session) (t : Session) (o : Option Session) → find (is_session m) ss ≡ o
      → Each (SessionFits R) ss
      → find (is_session m) (ss ++ new_session k ∷ []) ≡ Some t → SessionFits R t
  added_step k m ss t None e all h =
      is_new (is_session m (new_session k)) refl (sym (new_found m (new_session k) ss e) ∙ h)
    where
      is_new : (v : Bool) → is_session m (new_session k) ≡ v → find (is_session m) (new_session k ∷ []) ≡ Some t
          → SessionFits R t
      is_new true i j =
          let z : Some (new_session k) ≡ Some t = rw i at j in let y : new_session k ≡ t = cc in rw (← y) (new_fits k)
      is_new false i j = let z : None ≡ Some t = rw i at j in absurd cc
  added_step k m ss t (Some s) e all h =
      let z : Some s ≡ Some t = sym (old_found m (new_session k) s ss e) ∙ h in
      let y : s ≡ t = cc in all m t (rw y at e)

  opens_step : (m : ℕ) (a : Account) (old new : Server) (v : Bool) → (n == m) ≡ v → OpensSession old m new
      → Stands R Q n a old
      → Stands R Q n (after n a (Opened (Ok m))) new
  opens_step m a old new true e t h =
      let z : m ≡ n = sym (eqb-true n m e) in
      let was : session_of n old ≡ None = ap (λ i. session_of i old) (sym z) ∙ t.unused in
      let is : session_of n new ≡ Some (new_session m) = ap (λ i. session_of i new) (sym z) ∙ t.found in
      let same : is_live (session_of n old) ≡ is_live (session_of n new) = ap is_live was ∙ sym (ap is_live is) in
      let book : BookFits R (SubscriptionFits Q n (is_live (session_of n new))) old.book =
      subst (λ u. BookFits R (SubscriptionFits Q n u) old.book) same h.book in
      rw e (record {
        book = subst (λ (b : Server). BookFits R (SubscriptionFits Q n (is_live (session_of n new))) b.book)
            (sym t.changed) book;
        sessions = subst (λ (b : Server). Each (SessionFits R) b.sessions) (sym t.changed)
            (λ k s q. added_step (old.opened + 1) k old.sessions s (find (is_session k) old.sessions) refl h.sessions
            q);
        speaks = subst (λ o. Speaks (IsLater R Q n) no_account o) (sym is) (fresh_speaks m);
      })
  opens_step m a old new false e t h =
      let apart : (n == old.opened + 1) ≡ false = ap (λ i. n == i) (sym t.next) ∙ e in
      rw (e, t.changed) (stands_alike R Q n a old (with_new_session old) h
      (same_alike _ _ (new_other n (old.opened + 1) old.sessions (session_of n old) refl apart)) h.book
      (λ k s q. added_step (old.opened + 1) k old.sessions s (find (is_session k) old.sessions) refl h.sessions q))

  -- ---- a session is dropped

  left_session : (m k : ℕ) (ss : List Session) (s : Session) (v : Bool) → (m == k) ≡ v → Each (SessionFits R) ss
      → find (is_session k) (others m ss) ≡ Some s → SessionFits R s
  left_session m k ss s true e all h =
      let z : None ≡ Some s =
      sym (none_left m ss) ∙ ap (λ i. find (is_session i) (others m ss)) (eqb-true m k e) ∙ h in absurd cc
  left_session m k ss s false e all h = all k s (sym (others_left m k ss e) ∙ h)

  gone_speaks : (a : Account) (o : Option Session) → Speaks (IsLater R Q n) a o → Speaks (IsLater R Q n) a None
  gone_speaks a o h = record {
    frames = h.frames;
    left = h.left;
    wrote = h.wrote;
    connected = h.connected;
    closed = h.closed;
    told = h.told;
    confirms = h.confirms;
    now = tt;
  }

  drop_step : (m : ℕ) (a : Account) (b : Server) (v : Bool) → (m == n) ≡ v → Stands R Q n a b
      → Stands R Q n a (record b { book = ended b.book m; sessions = others m b.sessions })
  drop_step m a b true e h =
      let z : m ≡ n = eqb-true m n e in
      let is : find (is_session n) (others m b.sessions) ≡ None =
      subst (λ i. find (is_session i) (others m b.sessions) ≡ None) z (none_left m b.sessions) in
      let book : BookFits R (SubscriptionFits Q n false) (ended b.book m) =
      book_weaker R _ (SubscriptionFits Q n false) (ended b.book m)
      (λ x g. record {
        echoed = g.0.echoed;
        asked = g.0.asked;
        live = λ k. absurd (let y : true ≡ false = sym (eq-eqb x.session m (k ∙ sym z)) ∙ g.1 in cc);
      }) (ended_fits R (SubscriptionFits Q n (is_live (session_of n b))) b.book m h.book) in
      record {
        book = subst (λ o. BookFits R (SubscriptionFits Q n (is_live o)) (ended b.book m)) (sym is) book;
        sessions = λ k s q. left_session m k b.sessions s (m == k) refl h.sessions q;
        speaks = subst (λ o. Speaks (IsLater R Q n) a o) (sym is) (gone_speaks a (session_of n b) h.speaks);
      }
  drop_step m a b false e h =
      stands_alike R Q n a b (record b { book = ended b.book m; sessions = others m b.sessions }) h
      (same_alike _ _ (others_left m n b.sessions e))
      (book_weaker R _ (SubscriptionFits Q n (is_live (session_of n b))) (ended b.book m) (λ x g. g.0)
      (ended_fits R (SubscriptionFits Q n (is_live (session_of n b))) b.book m h.book))
      (λ k s q. left_session m k b.sessions s (m == k) refl h.sessions q)

  drops_stand : (m : ℕ) (a : Account) (b : Server) (o : Option Session) → Stands R Q n a b
      → Stands R Q n a (dropped m b o)
  drops_stand m a b None h = h
  drops_stand m a b (Some s) h = drop_step m a b (m == n) refl h

  -- ---- each call

  -- the frames that a call handled are known
  abbrev pub KnowsCall : BrokerCall → Type 0
  KnowsCall (FedTo m f answer) = AllByRecursion (Knows R Q m) f.frames
  KnowsCall _ = Unit {0}

  fed_call : (full m : ℕ) (a : Account) (old : Server) (f : Fed) (new : Server) (answer : Result ℕ BrokerFault)
      → Answered full m old f new answer → AllByRecursion (Knows R Q m) f.frames → Stands R Q n a old
      → Stands R Q n (handling_all n m a f.frames) new
  fed_call full m a old f new answer (taken was t) k h = feed_stands full m a old new f t k h
  fed_call full m a old f new answer (thrown was same none) k h =
      subst (λ x. Stands R Q n x new) (sym (ap (handling_all n m a) none ∙ none_more n m a (n == m) refl)) (rw same h)

  call_stands : (full : ℕ) (c : BrokerCall) (a : Account) (old new : Server) → DoesCall full old c new → KnowsCall c
      → Stands R Q n a old
      → Stands R Q n (after n a c) new
  call_stands full (Opened (Ok m)) a old new t k h = opens_step m a old new (n == m) refl t h
  call_stands full (Opened (Err (Memory took))) a old new t k h = rw t.1 h
  call_stands full (Opened (Err NoSession)) a old new t k h = absurd t
  call_stands full (Opened (Err TooMany)) a old new t k h = rw t.1 h
  call_stands full (FedTo m f answer) a old new t k h =
      fed_call full m a old f new answer (answered full m old f new answer t) k h
  call_stands full (Dispatched true) a old new t k h = dealing_stands R Q n a old new t.0 h
  call_stands full (Dispatched false) a old new t k h = dealing_stands R Q n a old new t h
  call_stands full (TakenFrom m octets) a old new t k h = rw t.3 (takes_step m a octets t.0 old (n == m) refl t.2 h)
  call_stands full (Dropped m) a old new t k h = rw t (drops_stand m a old (session_of m old) h)
  call_stands full (Named None) a old new t k h = rw t.1 h
  call_stands full (Named (Some m)) a old new t k h = rw t.changed (touched R Q n a m named old
      (λ s e. record {
        number = refl;
        server = refl;
        closed = refl;
        out = refl;
        fits = record { waits = (h.sessions m s e).waits; transactions = (h.sessions m s e).transactions };
      }) h)
  call_stands full (Told accepted) a old new t k h = rw t.1 (record {
    book = record { living = h.book.living; subscriptions = h.book.subscriptions; accepted = tt };
    sessions = h.sessions;
    speaks = h.speaks;
  })

  pub calls_stand : (full : ℕ) (calls : List BrokerCall) (a : Account) (old new : Server) → Lives full old calls new
      → AllByRecursion KnowsCall calls
      → Stands R Q n a old → Stands R Q n (after_all n a calls) new
  calls_stand full [] a old new t k h = rw t h
  calls_stand full (c ∷ calls) a old new t k h =
      calls_stand full calls (after n a c) t.0 new t.2 k.1 (call_stands full c a old t.0 t.1 k.0 h)

  pub empty_stands : Stands R Q n no_account empty
  empty_stands = record {
    book = record { living = tt; subscriptions = tt; accepted = tt };
    sessions = λ m s e. absurd cc;
    speaks = gone_speaks no_account (Some (new_session 0)) (fresh_speaks 0);
  }

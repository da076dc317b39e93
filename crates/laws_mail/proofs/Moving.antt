-- Octets that leave a broker and are read, and sessions that are opened and dropped.
use Rattle.std.proofs.Common.{◌≡◌, ℕ, ◌+◌, Bool, true, false, List, [], ◌∷◌, ◌++◌, take, drop, Option, Some, None, Ok}
use Rattle.std.proofs.Common.{refl, sym, ap, ◌∙◌}
use Rattle.std.proofs.Common.{subst, append_assoc}
use Rattle.std.specs.Prelude.{◌==◌}
use Rattle.std.specs.List.{find}
use Rattle.std.proofs.lemmas.Bool.{eqb-true}
use Rattle.std.proofs.lemmas.List.{append-nil, take-append-drop}
use Rattle.std.proofs.Math.Seq.{take-nil}
use Rattle.base.specs.declared.limits.TheConstants.{MAX_BODY}
use Rattle.stomp_frame.specs.Decoding.{Held, Nexts}
use Rattle.stomp_frame.specs.Frames.{Content}
use Rattle.broker_core.specs.Calls.{dropped, empty, new_session, others, out_in, with_new_session, without_first}
use Rattle.broker_core.specs.Serving.{Server, changing, is_session, session_of}
use Rattle.broker_core.specs.declared.session.Session.{Session}
use Rattle.laws_broker.proofs.Sessions.{new_found, none_left, old_found, others_left}
use Rattle.envelope.specs.declared.message.Envelope.{Envelope}
use Rattle.laws_mail.specs.Passing.{GoodFrame, GoodServer, GoodSession, Spelled, at}
use Rattle.laws_mail.proofs.Serving.{ended_good}
use Rattle.laws_mail.proofs.Sessions.{found_changed, none_before}
use Rattle.laws_mail.proofs.Spelling.{behind_gap, first_good, nothing_spelled}
use Rattle.laws_mail.proofs.Texts.{apart, at_each, at_step, here, retold_at, session_texts}

module _ (ok : Envelope → Type 0) (up down : ℕ → List ℕ) where
  -- ---- a decoder at the other end

  -- all that is on its way down to a number, and what waits for it in the broker
  below : (n : ℕ) (b : Server) (o : Option Session) → session_of n b ≡ o → GoodServer ok up down b
      → Spelled ok (down n ++ out_in o)
  below n b None e h = subst (Spelled ok) (sym (append-nil (down n))) (h.gone n e)
  below n b (Some s) e h = (h.sessions n s e).goes

  -- the frame that it gives is good, and so is the rest
  pub given_good : (n : ℕ) (f : Content) (old new : Held) (b : Server) → down n ≡ old.octets
      → Nexts MAX_BODY old new (Ok (Some f))
      → GoodServer ok up down b → GoodFrame ok f × GoodServer ok (at n (up n) up) (at n new.octets down) b
  given_good n f old new b e (was, sound, front, s, octets) h =
      let parts : (out : List ℕ) → down n ++ out ≡ front ++ (new.octets ++ out) =
      λ out. ap (λ l. l ++ out) (e ∙ octets) ∙ append_assoc front new.octets out in
      let waits = out_in (session_of n b) in (
        (first_good ok f front (new.octets ++ waits) (down n ++ waits) (below n b (session_of n b) refl h) s
            (parts waits)).0,
        retold_at ok up down n (up n) new.octets b (λ held k. k)
            (λ out k. (first_good ok f front (new.octets ++ out) (down n ++ out) k s (parts out)).1) h,
      )

  -- the same where it gives none
  pub awaited_good : (n : ℕ) (old new : Held) (b : Server) → down n ≡ old.octets → Nexts MAX_BODY old new (Ok None)
      → GoodServer ok up down b
      → GoodServer ok (at n (up n) up) (at n new.octets down) b
  awaited_good n old new b e (was, sound, none, fine, few, gap, is, octets) h =
      retold_at ok up down n (up n) new.octets b (λ held k. k)
      (λ out k. behind_gap ok gap (new.octets ++ out) (down n ++ out) k is
      (ap (λ l. l ++ out) (e ∙ octets) ∙ append_assoc gap new.octets out)) h

  -- ---- octets leave the broker

  taken_session : (low : List ℕ) (high : List ℕ) (count : ℕ) (s : Session) → GoodSession ok high low s
      → GoodSession ok high (low ++ take count s.out) (without_first count s)
  taken_session low high count s h = record {
    waits = h.waits;
    comes = h.comes;
    transactions = h.transactions;
    goes = subst (Spelled ok)
        (sym (append_assoc low (take count s.out) (drop count s.out)
        ∙ ap (λ l. low ++ l) (take-append-drop count s.out))) h.goes;
  }

  none_taken : (low : List ℕ) (count : ℕ) (o : Option Session) → o ≡ None → Spelled ok low
      → Spelled ok (low ++ take count (out_in o))
  none_taken low count o e h =
      subst (Spelled ok) (sym (append-nil low) ∙ ap (λ l. low ++ l) (sym (taken_of count o e))) h
    where
      taken_of : (count : ℕ) (o : Option Session) → o ≡ None → take count (out_in o) ≡ []
      taken_of count None e = take-nil count
      taken_of count (Some s) e = absurd cc

  out_of : (n : ℕ) (b : Server) (s : Session) → session_of n b ≡ Some s → out_in (session_of n b) ≡ s.out
  out_of n b s e = rw e refl

  pub taken_good : (n count : ℕ) (b : Server) → GoodServer ok up down b
      → GoodServer ok up (at n (down n ++ take count (out_in (session_of n b))) down)
      (changing n (without_first count) b)
  taken_good n count b h =
      let low = down n ++ take count (out_in (session_of n b)) in
      record {
        book = h.book;
        sessions = λ m t. found_changed (λ m s. GoodSession ok (up m) (at n low down m) s) n (without_first count)
            b.sessions m t
            (λ s q. refl)
            (λ s q. session_texts ok _ _ _ _ (without_first count s) refl
            (here n n low down refl ∙ ap (λ l. down n ++ take count l) (out_of n b s q))
            (taken_session (down n) (up n) count s (h.sessions n s q)))
            (λ other q. session_texts ok _ _ _ _ t refl (apart n m low down other) (h.sessions m t q));
        gone = λ m none. at_each (λ i text. session_of i b ≡ None → Spelled ok text) n low down
            (λ e. none_taken (down n) count (session_of n b) e (h.gone n e)) (λ i e q. h.gone i q) m
            (none_before n (without_first count) b.sessions m (λ s q. refl) none);
      }

  -- ---- a session is dropped

  no_session : (P : Type 0) (o : Option Session) (s : Session) → o ≡ None → o ≡ Some s → P
  no_session P o s e k = let z : None ≡ Some s = sym e ∙ k in absurd cc

  -- with all that was on its way
  pub dropped_good : (n : ℕ) (b : Server) (o : Option Session) → session_of n b ≡ o → GoodServer ok up down b
      → GoodServer ok (at n [] up) (at n [] down) (dropped n b o)
  dropped_good n b None e h = record {
    book = h.book;
    sessions = λ m s found. at_step (λ x. GoodSession ok x (at n [] down m) s) [] (up m) (n == m)
        (λ q. no_session _ (session_of n b) s e (ap (λ i. session_of i b) (eqb-true n m q) ∙ found))
        (λ q. session_texts ok _ _ _ _ s refl (apart n m [] down q) (h.sessions m s found));
    gone = λ m none. at_step (Spelled ok) [] (down m) (n == m) (λ q. nothing_spelled ok) (λ q. h.gone m none);
  }
  dropped_good n b (Some x) e h = record {
    book = ended_good ok b.book n h.book;
    sessions = λ m s found. at_step (λ x. GoodSession ok x (at n [] down m) s) [] (up m) (n == m)
        (λ q. no_session _ (find (is_session n) (others n b.sessions)) s (none_left n b.sessions)
        (ap (λ i. find (is_session i) (others n b.sessions)) (eqb-true n m q) ∙ found))
        (λ q. session_texts ok _ _ _ _ s refl (apart n m [] down q) (h.sessions m s
        (sym (others_left n m b.sessions q) ∙ found)));
    gone = λ m none. at_step (Spelled ok) [] (down m) (n == m) (λ q. nothing_spelled ok)
        (λ q. h.gone m (sym (others_left n m b.sessions q) ∙ none));
  }

  -- ---- a session is opened

  -- nothing was fed to it, and nothing is on its way
  new_good : (k : ℕ) → GoodSession ok [] [] (new_session k)
  new_good k = record { waits = tt; comes = λ _ _. nothing_spelled ok; transactions = tt; goes = nothing_spelled ok }

  is_new : (m k : ℕ) (t : Session) (b : Bool) → is_session m (new_session k) ≡ b
      → find (is_session m) (new_session k ∷ []) ≡ Some t
      → (k ≡ m) × (new_session k ≡ t)
  is_new m k t true e f = let z : Some (new_session k) ≡ Some t = rw e at f in (eqb-true k m e, cc)
  is_new m k t false e f = let z : None ≡ Some t = rw e at f in absurd cc

  module _ (b : Server) (nothing_up : up (b.opened + 1) ≡ []) (nothing_down : down (b.opened + 1) ≡ [])
      (h : GoodServer ok up down b) where
    found_new : (m : ℕ) (t : Session) (o : Option Session) → find (is_session m) b.sessions ≡ o
        → find (is_session m) (b.sessions ++ new_session (b.opened + 1) ∷ []) ≡ Some t
        → GoodSession ok (up m) (down m) t
    found_new m t (Some s) e f =
        let z : Some s ≡ Some t = sym (old_found m (new_session (b.opened + 1)) s b.sessions e) ∙ f in
        h.sessions m t (e ∙ z)
    found_new m t None e f =
        let z = is_new m (b.opened + 1) t (is_session m (new_session (b.opened + 1))) refl
        (sym (new_found m (new_session (b.opened + 1)) b.sessions e) ∙ f) in
        subst (GoodSession ok (up m) (down m)) z.1
        (session_texts ok [] (up m) [] (down m) (new_session (b.opened + 1)) (ap up (sym z.0) ∙ nothing_up)
        (ap down (sym z.0) ∙ nothing_down) (new_good (b.opened + 1)))

    none_new : (m : ℕ) (o : Option Session) → find (is_session m) b.sessions ≡ o
        → find (is_session m) (b.sessions ++ new_session (b.opened + 1) ∷ []) ≡ None
        → find (is_session m) b.sessions ≡ None
    none_new m (Some s) e f = no_session _ _ s f (old_found m (new_session (b.opened + 1)) s b.sessions e)
    none_new m None e f = e

    pub new_session_good : GoodServer ok up down (with_new_session b)
    new_session_good = record {
      book = h.book;
      sessions = λ m t f. found_new m t (find (is_session m) b.sessions) refl f;
      gone = λ m f. h.gone m (none_new m (find (is_session m) b.sessions) refl f);
    }

-- a broker with no session and no message
pub empty_good : (ok : Envelope → Type 0) → GoodServer ok (λ _. []) (λ _. []) empty
empty_good ok = record {
  book = record { living = tt; subscriptions = tt; accepted = tt };
  sessions = λ n s e. absurd cc;
  gone = λ n e. nothing_spelled ok;
}

-- Other texts on their way.
use Rattle.std.proofs.Common.{◌≡◌, ℕ, Bool, true, false, cond, List, [], ◌++◌, refl, sym, subst}
use Rattle.std.specs.Prelude.{◌==◌}
use Rattle.std.proofs.lemmas.Bool.{eqb-true, eq-eqb}
use Rattle.std.proofs.lemmas.List.{append-nil}
use Rattle.broker_core.specs.Serving.{Server}
use Rattle.broker_core.specs.declared.session.Session.{Session}
use Rattle.envelope.specs.declared.message.Envelope.{Envelope}
use Rattle.laws_mail.specs.Passing.{GoodServer, GoodSession, Spelled, at}

-- ---- the text at one number

-- the text there, and at another
pub here : (n m : ℕ) (text : List ℕ) (on : ℕ → List ℕ) → n ≡ m → at n text on m ≡ text
here n m text on e = rw (eq-eqb n m e) refl

pub apart : (n m : ℕ) (text : List ℕ) (on : ℕ → List ℕ) → (n == m) ≡ false → at n text on m ≡ on m
apart n m text on e = rw e refl

pub at_step : (P : List ℕ → Type 0) (text other : List ℕ) (b : Bool) → (b ≡ true → P text) → (b ≡ false → P other)
    → P (cond b text other)
at_step P text other true h k = h refl
at_step P text other false h k = k refl

-- what holds of the text at one number and of those at others holds of each
pub at_each : (P : ℕ → List ℕ → Type 0) (n : ℕ) (text : List ℕ) (on : ℕ → List ℕ) → P n text
    → ((m : ℕ) → (n == m) ≡ false → P m (on m)) → (m : ℕ) → P m (at n text on m)
at_each P n text on h k m = at_step (P m) text (on m) (n == m) (λ e. subst (λ i. P i text) (eqb-true n m e) h) (k m)

-- ---- texts that serve as well

module _ (ok : Envelope → Type 0) where
  pub session_texts : (up up' down down' : List ℕ) (s : Session) → up' ≡ up → down' ≡ down → GoodSession ok up down s
      → GoodSession ok up' down' s
  session_texts up up' down down' s e k h = rw (e, k) h

  -- a text serves in place of another on the way up, or on the way down
  abbrev pub ServesUp : (old new : List ℕ) → Type 0
  ServesUp old new = (held : List ℕ) → Spelled ok (held ++ old) → Spelled ok (held ++ new)

  abbrev pub ServesDown : (old new : List ℕ) → Type 0
  ServesDown old new = (out : List ℕ) → Spelled ok (old ++ out) → Spelled ok (new ++ out)

  session_served : (up up' down down' : List ℕ) (s : Session) → ServesUp up up' → ServesDown down down'
      → GoodSession ok up down s
      → GoodSession ok up' down' s
  session_served up up' down down' s u d h = record {
    waits = h.waits;
    comes = λ a b. u s.incoming.decoder.octets (h.comes a b);
    transactions = h.transactions;
    goes = d s.out h.goes;
  }

  -- each text serves in place of the old one of its number
  pub retold : (up up' down down' : ℕ → List ℕ) (b : Server) → ((m : ℕ) → ServesUp (up m) (up' m))
      → ((m : ℕ) → ServesDown (down m) (down' m))
      → GoodServer ok up down b → GoodServer ok up' down' b
  retold up up' down down' b u d h = record {
    book = h.book;
    sessions = λ m s found. session_served (up m) (up' m) (down m) (down' m) s (u m) (d m) (h.sessions m s found);
    gone = λ m none. subst (Spelled ok) (append-nil (down' m)) (d m [] (subst (Spelled ok) (sym (append-nil (down m)))
        (h.gone m none)));
  }

  pub same_up : (old new : List ℕ) → new ≡ old → ServesUp old new
  same_up old new e held k = rw e k

  pub same_down : (old new : List ℕ) → new ≡ old → ServesDown old new
  same_down old new e out k = rw e k

  -- those of one number
  pub retold_at : (up down : ℕ → List ℕ) (n : ℕ) (rise fall : List ℕ) (b : Server) → ServesUp (up n) rise
      → ServesDown (down n) fall
      → GoodServer ok up down b → GoodServer ok (at n rise up) (at n fall down) b
  retold_at up down n rise fall b u d h = retold up (at n rise up) down (at n fall down) b
      (at_each (λ m text. ServesUp (up m) text) n rise up u (λ m e held k. k))
      (at_each (λ m text. ServesDown (down m) text) n fall down d (λ m e out k. k)) h

-- What a call leaves of the sessions that it isn't for.
use Rattle.std.proofs.Common.{◌≡◌, ℕ, Bool, true, false, List, [], ◌∷◌, Option, Some, None, refl, sym, ap, ◌∙◌}
use Rattle.std.proofs.Common.{subst}
use Rattle.std.specs.Prelude.{◌==◌, Ok, Err}
use Rattle.std.proofs.lemmas.Bool.{eqb-true}
use Rattle.broker_book.specs.Steps.{Handed, Taken}
use Rattle.broker_core.specs.Feeding.{Dealing, Hands}
use Rattle.broker_core.specs.Serving.{Decided, Part, Roster, Server, changing, changing_part, part, refused as refusing}
use Rattle.broker_core.specs.Serving.{roster_of}
use Rattle.broker_core.specs.Serving.{served, session_of, step, with_fault, with_session}
use Rattle.broker_core.specs.Streams.{Fed, Took, part as in_part, whole}
use Rattle.broker_core.specs.declared.fault.BrokerFault.TheVariants.{Memory}
use Rattle.broker_core.specs.declared.fault.FrameRefusal.TheVariants.{BadFrame}
use Rattle.broker_core.specs.declared.session.Session.{Session}
use Rattle.broker_core.proofs.Left.{Seen, find_with, seen, seen_in, seen_taken, served_number}
use Rattle.laws_broker.proofs.Sessions.{Keeps, at, none_changed, other_found}
use Rattle.laws_broker.proofs.There.{Follows, call_follows}

-- what is seen of a session stays where another one is meant, and no session is opened
pub record Spares (k m : ℕ) (old new : Server) : Type 0 where
  pub others : (k == m) ≡ false → seen_in (session_of m new) ≡ seen_in (session_of m old)
  pub opened : new.opened ≡ old.opened

module _ (k m : ℕ) where
  spares_same : (old new : Server) → new ≡ old → Spares k m old new
  spares_same old new e =
      record { others = λ d. ap (λ b. seen_in (session_of m b)) e; opened = ap (λ (b : Server). b.opened) e }

  spares_both : (old mid new : Server) → Spares k m old mid → Spares k m mid new → Spares k m old new
  spares_both old mid new h g = record { others = λ d. g.others d ∙ h.others d; opened = g.opened ∙ h.opened }

  pub changing_spares : (f : Session → Session) (b new : Server) → Keeps k f b.sessions → new ≡ changing k f b
      → Spares k m b new
  changing_spares f b new keeps e =
      rw e (record { others = λ d. ap seen_in (other_found k m f b.sessions d keeps); opened = refl })

  -- ---- a session and the book

  kept : (b : Server) (s t : Session) → session_of k b ≡ Some s → t.number ≡ s.number → Keeps k (λ _. t) b.sessions
  kept b s t found number x e = number ∙ ap (λ (y : Session). y.number) (same_some (session_of k b) e found)
    where
      same_some : (o : Option Session) → o ≡ Some x → o ≡ Some s → s ≡ x
      same_some o p q = cc

  part_spares : (change : Part → Part) (b : Server) (o : Option Session) → session_of k b ≡ o
      → ((p : Part) → (change p).session.number ≡ p.session.number) → Spares k m b (changing_part k change b o)
  part_spares change b None e number = spares_same b b refl
  part_spares change b (Some s) e number = record {
    others = λ d. ap seen_in (other_found k m (λ _. (change (part b.book s)).session) b.sessions d
        (kept b s (change (part b.book s)).session e (number (part b.book s))));
    opened = refl;
  }

  step_spares : (full : ℕ) (d : Decided) (b : Server) → Spares k m b (step full k d b)
  step_spares full d b = part_spares (served full d) b (session_of k b) refl (λ p. served_number full d p)

  fault_spares : (b : Server) → Spares k m b (with_fault k b)
  fault_spares b = part_spares (refusing BadFrame None) b (session_of k b) refl (λ p. refl)

  -- ---- deals

  pub same_opened : (ds : List Handed) (from to : Roster) → Taken Hands from ds to → to.opened ≡ from.opened
  same_opened [] from to t = ap (λ (r : Roster). r.opened) t
  same_opened (d ∷ ds) from to t = same_opened ds t.0 to t.2 ∙ ap (λ (r : Roster). r.opened) t.1

  pub dealing_spares : (old new : Server) → Dealing old new → Spares k m old new
  dealing_spares old new h = record {
    others = λ d. seen_taken m (roster_of old) (roster_of new) h.handed h.taken;
    opened = same_opened h.handed (roster_of old) (roster_of new) h.taken;
  }

  -- ---- calls

  pub spares_follow : (full : ℕ) → Follows full k (λ frames a b. Spares k m a b)
  spares_follow full = record {
    same = λ b. spares_same b b refl;
    after = λ frames more a b c h g. spares_both a b c h g;
    changes = λ f b keeps. changing_spares f b (changing k f b) (λ s e. keeps.number s) refl;
    steps = λ d b. step_spares full d b;
    faults = λ b. fault_spares b;
    deals = λ old new h. dealing_spares old new h;
  }

  -- ---- a piece

  pub took_spares : (full : ℕ) (old : Server) (f : Fed) (new : Server) → Took full k old f new → Spares k m old new
  took_spares full old f new (whole count h e) =
      call_follows full k (λ frames a b. Spares k m a b) (spares_follow full) old f.piece new (Ok count) h
  took_spares full old f new (in_part h e) =
      call_follows full k (λ frames a b. Spares k m a b) (spares_follow full) old f.piece new (Err (Memory true)) h

-- ---- a change of what isn't seen

unseen_here : (k : ℕ) (f : Session → Session) (ss : List Session) (o : Option Session) → at k ss ≡ o
    → ((s : Session) → (f s).number ≡ s.number) → ((s : Session) → seen (f s) ≡ seen s)
    → seen_in (at k (with_session k f ss)) ≡ seen_in (at k ss)
unseen_here k f ss None e number same = ap (λ l. seen_in (at k l)) (none_changed k f ss e)
unseen_here k f ss (Some s) e number same =
    ap seen_in (find_with k f ss s (number s) e) ∙ ap (λ (x : Seen). Some x) (same s) ∙ sym (ap seen_in e)

pub unseen : (k m : ℕ) (f : Session → Session) (ss : List Session) (b : Bool) → (k == m) ≡ b
    → ((s : Session) → (f s).number ≡ s.number)
    → ((s : Session) → seen (f s) ≡ seen s) → seen_in (at m (with_session k f ss)) ≡ seen_in (at m ss)
unseen k m f ss true e number same =
    subst (λ i. seen_in (at i (with_session k f ss)) ≡ seen_in (at i ss)) (eqb-true k m e)
    (unseen_here k f ss (at k ss) refl number same)
unseen k m f ss false e number same = ap seen_in (other_found k m f ss e (λ s q. number s))

-- The frames that were handled, and what the session was fed.
use Rattle.std.proofs.Common.{◌≡◌, ℕ, Bool, true, false, List, [], ◌∷◌, ◌++◌, Option, Some, None, Result, Ok, Err}
use Rattle.std.proofs.Common.{refl, sym, ap, ◌∙◌, append_assoc, subst, inl, inr}
use Rattle.std.specs.Prelude.{◌⊎◌}
use Rattle.stomp_session.specs.declared.request.Request.{Request}
use Rattle.broker_core.specs.Feeding.{DecidesNext, waited, read, Handles, with_incoming}
use Rattle.broker_core.specs.Performing.{Reach, performed}
use Rattle.broker_core.specs.Serving.{Decided, Part, Server, session_of, roster_of, served, finished, confirmed}
use Rattle.broker_core.specs.Serving.{closing_if, is_last}
use Rattle.broker_core.specs.Serving.{reached, step, part}
use Rattle.broker_core.specs.Streams.{TakesAll, Leaves, WereSpelled, HandledAreTaken, TakenAreSpelled}
use Rattle.broker_core.specs.declared.fault.FrameRefusal.{FrameRefusal}
use Rattle.broker_core.specs.declared.incoming.Incoming.{Incoming}
use Rattle.broker_core.specs.declared.session.Session.{Session}
use Rattle.broker_core.proofs.Left.{Seen, seen, seen_in, seen_taken, seen_some, find_with}

-- ---- the octets

spelled_first : (connected : Bool) (old mid new : Incoming) (d : Decided) (frames : List Decided) → old.waiting ≡ None
    → DecidesNext connected old d mid
    → (mid.waiting ≡ None → WereSpelled true mid frames new) → WereSpelled connected old (d ∷ frames) new
spelled_first connected old mid new d frames w (waited e k) ih = let z : Some d ≡ None = sym e ∙ w in cc
spelled_first connected old mid new d frames w (read f front w1 s1 spells octets s2 w2 answers) ih =
    let r = ih w2 in
    record {
      text = front ++ r.text;
      spells = (
        r.text,
        (
          record { frame = f; front = front; spells = spells; answers = answers; whole = refl },
          r.spells,
        ),
      );
      octets = octets ∙ ap (λ x. front ++ x) r.octets ∙ sym (append_assoc front r.text new.decoder.octets);
      none_waits = r.none_waits;
    }

-- the frames that were taken are spelled in what the session was fed
pub spelled : TakenAreSpelled
spelled connected old new [] t w = record {
  text = [];
  spells = refl;
  octets = ap (λ (i : Incoming). i.decoder.octets) (sym t);
  none_waits = ap (λ (i : Incoming). i.waiting) t ∙ w;
}
spelled connected old new (d ∷ frames) t w =
    spelled_first connected old t.0 new d frames w t.1.0 (spelled true t.0 new frames t.1.1)

-- ---- what stays of a session

-- a step closes a session, or leaves what it was fed and has it connected
pub record Keeps (old new : Session) : Type 0 where
  pub number : new.number ≡ old.number
  pub kept : (new.closed ≡ true) ⊎ ((new.incoming ≡ old.incoming) × (new.server ≡ true))

closing_keeps : (last : Bool) (s : Session) (p : Part) → Keeps s p.session → Keeps s (closing_if last p).session
closing_keeps true s p k = record { number = k.number; kept = inl refl }
closing_keeps false s p k = k

finished_keeps : (request : Request) (p : Part) (r : Result Reach FrameRefusal)
    → Keeps p.session (finished request p r).session
finished_keeps request p (Ok r) =
    closing_keeps (is_last request) p.session (confirmed request p r) (record
    { number = refl; kept = inr (refl, refl) })
finished_keeps request p (Err x) = record { number = refl; kept = inl refl }

served_keeps : (full : ℕ) (d : Decided) (p : Part) → Keeps p.session (served full d p).session
served_keeps full (Ok request) p = finished_keeps request p (performed full p.session.number (reached p) request)
served_keeps full (Err r) p = record { number = refl; kept = inl refl }

pub step_keeps : (full n : ℕ) (d : Decided) (b : Server) (s : Session) → session_of n b ≡ Some s
    → (t : Session) × ((session_of n (step full n d b) ≡ Some t) × Keeps s t)
step_keeps full n d b s h =
    let k = served_keeps full d (part b.book s) in
    let t = (served full d (part b.book s)).session in
    (t, (rw h (find_with n (λ _. t) b.sessions s k.number h), k))

pub same_session : (o : Option Session) (x y : Session) → o ≡ Some x → o ≡ Some y → x ≡ y
same_session o x y p q = cc

or_left : (t u : Session) (i : Incoming) → seen u ≡ seen t → (t.closed ≡ true) ⊎ ((t.incoming ≡ i) × (t.server ≡ true))
    → (u.closed ≡ true) ⊎ ((u.incoming ≡ i) × (u.server ≡ true))
or_left t u i e h = elim h [
  | inl k ↦ inl (ap (λ (x : Seen). x.closed) e ∙ k)
  | inr k ↦ inr (ap (λ (x : Seen). x.incoming) e ∙ k.0, ap (λ (x : Seen). x.server) e ∙ k.1)
]

-- one frame
pub record OneTaken (n : ℕ) (s : Session) (d : Decided) (new : Server) : Type 0 where
  pub left : Incoming
  pub takes : DecidesNext s.server s.incoming d left
  pub leaves : Leaves n new left true

pub one_taken : (full n : ℕ) (old new : Server) (d : Decided) (s : Session) → Handles full n old d new
    → session_of n old ≡ Some s
    → OneTaken n s d new
one_taken full n old new d s h found =
    let t = h.takes in
    let m : t.session ≡ s = same_session (session_of n old) t.session s t.is_open.found found in
    let mid : session_of n h.taken ≡ Some (with_incoming t.left t.session) =
    ap (session_of n) t.changed ∙ find_with n (with_incoming t.left) old.sessions t.session refl t.is_open.found in
    let k = step_keeps full n d h.taken (with_incoming t.left t.session) mid in
    let same : seen_in (session_of n new) ≡ Some (seen k.0) =
    seen_taken n (roster_of (step full n d h.taken)) (roster_of new) h.settles.0.handed h.settles.0.taken
    ∙ ap seen_in k.1.0 in
    let u = seen_some (session_of n new) k.0 same in
    record {
      left = t.left;
      takes = rw (← m) t.takes;
      leaves = record { session = u.0; found = u.1.0; is_left = or_left k.0 u.0 t.left u.1.1 k.1.1.kept };
    }

-- an open session has what is left
open_left : (s : Session) (i : Incoming) → s.closed ≡ false → (s.closed ≡ true) ⊎ ((s.incoming ≡ i) × (s.server ≡ true))
    → (s.incoming ≡ i) × (s.server ≡ true)
open_left s i e h = elim h [ inl k ↦ absurd (let z : true ≡ false = sym k ∙ e in cc) | inr k ↦ k ]

taken_from : (c : Bool) (i j : Incoming) (s : Session) (frames : List Decided) (left : Incoming) → s.incoming ≡ i
    → s.server ≡ c
    → TakesAll s.server s.incoming frames left → TakesAll c i frames left
taken_from c i j s frames left e k t = subst (λ (x : Incoming). TakesAll c x frames left) e
    (subst (λ b. TakesAll b s.incoming frames left) k t)

-- the frames that were handled were taken
pub taken : HandledAreTaken
taken full n old new [] s h found = record {
  left = s.incoming;
  takes = refl;
  leaves = record { session = s; found = ap (session_of n) h ∙ found; is_left = inr (refl, refl) };
}
taken full n old new (d ∷ []) s h found =
    let k = one_taken full n old h.0 d s h.1 found in
    record {
      left = k.left;
      takes = (k.left, (k.takes, refl));
      leaves = record {
        session = k.leaves.session;
        found = ap (session_of n) h.2 ∙ k.leaves.found;
        is_left = k.leaves.is_left;
      };
    }
taken full n old new (d ∷ g ∷ frames) s h found =
    let k = one_taken full n old h.0 d s h.1 found in
    let next = h.2.1.takes in
    let m : next.session ≡ k.leaves.session =
    same_session (session_of n h.0) next.session k.leaves.session next.is_open.found
    k.leaves.found in
    let e = open_left k.leaves.session k.left (ap (λ (x : Session). x.closed) (sym m) ∙ next.is_open.is_open)
    k.leaves.is_left in
    let r = taken full n h.0 new (g ∷ frames) k.leaves.session h.2 k.leaves.found in
    record {
      left = r.left;
      takes = (k.left, (k.takes, taken_from true k.left k.left k.leaves.session (g ∷ frames) r.left e.0 e.1 r.takes));
      leaves = r.leaves;
    }

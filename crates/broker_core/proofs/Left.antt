-- How much of a session's stream is left.
use Rattle.std.proofs.Common.{◌≡◌, ◌<◌, ◌≤◌, ℕ, ◌+◌, Bool, true, false, List, [], ◌∷◌, ◌++◌, length, Option, Some, None}
use Rattle.std.proofs.Common.{Result, Ok}
use Rattle.std.proofs.Common.{Err}
use Rattle.std.proofs.Common.{refl, sym, ap, ◌∙◌, arith, length-append}
use Rattle.std.specs.Prelude.{◌==◌}
use Rattle.std.specs.List.{find}
use Rattle.base.specs.declared.limits.TheConstants.{MAX_BODY}
use Rattle.stomp_frame.specs.Frames.{Content}
use Rattle.stomp_frame.specs.Spelling.{SpellsAfterGap}
use Rattle.stomp_session.specs.Replies.{message_frame}
use Rattle.stomp_session.specs.declared.request.Request.{Request}
use Rattle.broker_book.specs.Steps.{Handed, Taken}
use Rattle.broker_core.specs.Feeding.{Hands, DecidesNext, waited, read, delivery_of}
use Rattle.broker_core.specs.Parts.Taking.{left_of}
use Rattle.broker_core.specs.Performing.{Reach, performed}
use Rattle.broker_core.specs.Serving.{Decided, Part, Roster, Server, is_session, session_of, with_session, writing}
use Rattle.broker_core.specs.Serving.{served, finished}
use Rattle.broker_core.specs.Serving.{confirmed}
use Rattle.broker_core.specs.Serving.{closing_if, is_last, reached, step, part}
use Rattle.broker_core.specs.declared.fault.FrameRefusal.{FrameRefusal}
use Rattle.broker_core.specs.declared.incoming.Incoming.{Incoming}
use Rattle.broker_core.specs.declared.session.Session.{Session}

-- ---- what deals leave as it is

-- what no MESSAGE changes: whether a session is closed and connected, and what it was fed
pub record Seen : Type 0 where
  pub closed : Bool
  pub server : Bool
  pub incoming : Incoming

abbrev pub seen : Session → Seen
seen s = record { closed = s.closed; server = s.server; incoming = s.incoming }

abbrev pub seen_in : Option Session → Option Seen
seen_in None = None
seen_in (Some s) = Some (seen s)

seen_step : (n m : ℕ) (f : Content) (s : Session) (ss : List Session) (t u : Bool) → is_session n s ≡ t
    → is_session m s ≡ u
    → seen_in (find (is_session n) (with_session m (writing f) ss)) ≡ seen_in (find (is_session n) ss)
    → seen_in (find (is_session n) (with_session m (writing f) (s ∷ ss))) ≡ seen_in (find (is_session n) (s ∷ ss))
seen_step n m f s ss true true e k ih = rw (k, e) refl
seen_step n m f s ss true false e k ih = rw (k, e) refl
seen_step n m f s ss false true e k ih = rw (k, e) refl
seen_step n m f s ss false false e k ih = rw (k, e) ih

seen_written : (n m : ℕ) (f : Content) (ss : List Session)
    → seen_in (find (is_session n) (with_session m (writing f) ss)) ≡ seen_in (find (is_session n) ss)
seen_written n m f [] = refl
seen_written n m f (s ∷ ss) = seen_step n m f s ss (is_session n s) (is_session m s) refl refl (seen_written n m f ss)

-- what is seen of a session stays as it is while MESSAGEs are written
pub seen_taken : (n : ℕ) (old new : Roster) (ds : List Handed) → Taken Hands old ds new
    → seen_in (find (is_session n) new.sessions) ≡ seen_in (find (is_session n) old.sessions)
seen_taken n old new [] h = ap (λ (r : Roster). seen_in (find (is_session n) r.sessions)) h
seen_taken n old new (d ∷ ds) h =
    seen_taken n h.0 new ds h.2 ∙ ap (λ (r : Roster). seen_in (find (is_session n) r.sessions)) h.1
    ∙ seen_written n d.to.session (message_frame (delivery_of d)) old.sessions

pub seen_some : (o : Option Session) (t : Session) → seen_in o ≡ Some (seen t) → (u : Session)
    × ((o ≡ Some u) × (seen u ≡ seen t))
seen_some None t e = cc
seen_some (Some u) t e = let k : seen u ≡ seen t = cc in (u, (refl, k))

-- ---- a session that was changed is found

find_step : (n : ℕ) (f : Session → Session) (x : Session) (ss : List Session) (s : Session) (b : Bool)
    → is_session n x ≡ b
    → (f s).number ≡ s.number
    → (find (is_session n) ss ≡ Some s → find (is_session n) (with_session n f ss) ≡ Some (f s))
    → find (is_session n) (x ∷ ss) ≡ Some s → find (is_session n) (with_session n f (x ∷ ss)) ≡ Some (f s)
find_step n f x ss s true e k ih h =
    let j : Some x ≡ Some s = rw e at h in
    let m : x ≡ s = cc in
    let p : is_session n (f x) ≡ true =
    ap (λ y. is_session n (f y)) m ∙ ap (λ a. a == n) k ∙ ap (is_session n) (sym m) ∙ e in
    rw (e, p) (ap (λ y. Some (f y)) m)
find_step n f x ss s false e k ih h = rw (e, e) (ih (rw e at h))

pub find_with : (n : ℕ) (f : Session → Session) (ss : List Session) (s : Session) → (f s).number ≡ s.number
    → find (is_session n) ss ≡ Some s
    → find (is_session n) (with_session n f ss) ≡ Some (f s)
find_with n f [] s k h = cc
find_with n f (x ∷ ss) s k h = find_step n f x ss s (is_session n x) refl k (find_with n f ss s k) h

-- ---- the step

-- a session after a step: of the same number, and with no more left
pub record Lessens (old new : Session) : Type 0 where
  pub number : new.number ≡ old.number
  pub left : left_of new.incoming ≤ left_of old.incoming

closing_lessens : (last : Bool) (p : Part) → Lessens p.session (closing_if last p).session
closing_lessens true p = record { number = refl; left = omega arith }
closing_lessens false p = record { number = refl; left = omega arith }

finished_lessens : (request : Request) (p : Part) (r : Result Reach FrameRefusal)
    → Lessens p.session (finished request p r).session
finished_lessens request p (Ok r) = let k = closing_lessens (is_last request) (confirmed request p r) in record
    { number = k.number; left = k.left }
finished_lessens request p (Err x) = record { number = refl; left = omega arith }

served_lessens : (full : ℕ) (decided : Decided) (p : Part) → Lessens p.session (served full decided p).session
served_lessens full (Ok request) p = finished_lessens request p (performed full p.session.number (reached p) request)
served_lessens full (Err r) p = record { number = refl; left = omega arith }

pub served_number : (full : ℕ) (decided : Decided) (p : Part)
    → (served full decided p).session.number ≡ p.session.number
served_number full decided p = (served_lessens full decided p).number

pub step_lessens : (full n : ℕ) (decided : Decided) (b : Server) (s : Session) → session_of n b ≡ Some s
    → (t : Session) × ((session_of n (step full n decided b) ≡ Some t) × Lessens s t)
step_lessens full n decided b s h =
    let k = served_lessens full decided (part b.book s) in
    let t = (served full decided (part b.book s)).session in
    (t, (rw h (find_with n (λ _. t) b.sessions s k.number h), k))

-- ---- the frame that is taken

spelled_long : (f : Content) (front : List ℕ) → SpellsAfterGap MAX_BODY f front → 0 < length front
spelled_long f front h =
    let e : front ≡ h.1.head ++ f.body ++ 0 ∷ [] = h.1.whole in
    let k : length front ≡ length (h.1.head ++ f.body) + 1 =
    ap length e ∙ length-append (h.1.head ++ f.body) (0 ∷ []) in
    omega arith

pub taken_less : (connected : Bool) (old : Incoming) (decided : Decided) (new : Incoming)
    → DecidesNext connected old decided new
    → left_of new < left_of old
taken_less connected old decided new (waited w e) = rw (e, w) (omega arith)
taken_less connected old decided new (read f front w s spells octets s2 w2 d) =
    let k = spelled_long f front spells in
    let l : length old.decoder.octets ≡ length front + length new.decoder.octets =
    ap length octets ∙ length-append front
    new.decoder.octets in
    rw (w, w2) (omega arith)

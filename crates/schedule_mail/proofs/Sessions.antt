-- Which sessions a broker has after each call.
use Rattle.std.proofs.Common.{◌≡◌, ◌≢◌, ℕ, ◌+◌, Bool, true, false, not, List, [], ◌∷◌, ◌++◌, Option, Some, None, Result}
use Rattle.std.proofs.Common.{Ok, Err, refl, sym}
use Rattle.std.proofs.Common.{ap}
use Rattle.std.proofs.Common.{◌∙◌, eqb-true}
use Rattle.std.specs.Prelude.{◌==◌, is_some, IfErr, IfOk}
use Rattle.std.specs.List.{find}
use Rattle.broker_book.specs.Steps.{Handed, Taken}
use Rattle.broker_core.specs.Calls.{OpenAnswer, OpensSession, dropped, others, new_session, without_first}
use Rattle.broker_core.specs.Feeding.{DispatchAnswer, Dealing, Hands, delivery_of, TakesDecided, Handles, HandlesAll}
use Rattle.broker_core.specs.Feeding.{Ends, closed, awaits}
use Rattle.broker_core.specs.Feeding.{faulty}
use Rattle.broker_core.specs.Feeding.{Stops, at_frame, in_step, in_deals, at_fault, at_end, Feeds, FeedsPart}
use Rattle.broker_core.specs.Feeding.{FeedAnswer, taking}
use Rattle.broker_core.specs.Feeding.{with_incoming, with_waiting}
use Rattle.broker_core.specs.Serving.{Decided, Part, Roster, Server, is_session, session_of, with_session, changing}
use Rattle.broker_core.specs.Serving.{changing_part, part}
use Rattle.broker_core.specs.Serving.{served, step, with_fault, writing, refused}
use Rattle.broker_core.specs.declared.fault.BrokerFault.{BrokerFault}
use Rattle.broker_core.specs.declared.fault.BrokerFault.TheVariants.{Memory, NoSession, TooMany}
use Rattle.broker_core.specs.declared.fault.FrameRefusal.TheVariants.{BadFrame}
use Rattle.broker_core.specs.declared.session.Session.{Session}
use Rattle.broker_core.proofs.Left.{served_number}
use Rattle.stomp_session.specs.Replies.{message_frame}
use Rattle.schedule_mail.specs.Sessions.{has_session, KeepsSessions, KeepsOthers}

abbrev pub has : ℕ → List Session → Bool
has n ss = is_some (find (is_session n) ss)

-- ---- a session is changed

-- the number of the session that is changed stays
abbrev pub KeepsNumber : ℕ → (Session → Session) → Type 0
KeepsNumber m f = (s : Session) → is_session m s ≡ true → (f s).number ≡ s.number

one_has : (n m : ℕ) (f : Session → Session) (s : Session) (ss : List Session) (t u : Bool) → is_session m s ≡ t
    → is_session n s ≡ u
    → KeepsNumber m f → has n (with_session m f ss) ≡ has n ss → has n (with_session m f (s ∷ ss)) ≡ has n (s ∷ ss)
one_has n m f s ss true true e k keeps ih =
    let p : is_session n (f s) ≡ true = ap (λ a. a == n) (keeps s e) ∙ k in
    rw (e, k, p) refl
one_has n m f s ss true false e k keeps ih =
    let p : is_session n (f s) ≡ false = ap (λ a. a == n) (keeps s e) ∙ k in
    rw (e, k, p) refl
one_has n m f s ss false true e k keeps ih = rw (e, k) refl
one_has n m f s ss false false e k keeps ih = rw (e, k) ih

changed_has : (n m : ℕ) (f : Session → Session) (ss : List Session) → KeepsNumber m f
    → has n (with_session m f ss) ≡ has n ss
changed_has n m f [] keeps = refl
changed_has n m f (s ∷ ss) keeps =
    one_has n m f s ss (is_session m s) (is_session n s) refl refl keeps (changed_has n m f ss keeps)

pub changing_keeps : (m : ℕ) (f : Session → Session) (b : Server) → KeepsNumber m f → KeepsSessions b (changing m f b)
changing_keeps m f b keeps n = changed_has n m f b.sessions keeps

-- what is found has the number
found_step : (m : ℕ) (x : Session) (ss : List Session) (s : Session) (t : Bool) → is_session m x ≡ t
    → (find (is_session m) ss ≡ Some s → s.number ≡ m) → find (is_session m) (x ∷ ss) ≡ Some s → s.number ≡ m
found_step m x ss s true e ih h =
    let j : Some x ≡ Some s = rw e at h in
    let k : x ≡ s = cc in
    ap (λ (y : Session). y.number) (sym k) ∙ eqb-true x.number m e
found_step m x ss s false e ih h = ih (rw e at h)

found_number : (m : ℕ) (ss : List Session) (s : Session) → find (is_session m) ss ≡ Some s → s.number ≡ m
found_number m [] s h = cc
found_number m (x ∷ ss) s h = found_step m x ss s (is_session m x) refl (found_number m ss s) h

-- a session and the book are changed
part_keeps : (m : ℕ) (change : Part → Part) (b : Server) (o : Option Session)
    → ((p : Part) → (change p).session.number ≡ p.session.number)
    → session_of m b ≡ o → KeepsSessions b (changing_part m change b o)
part_keeps m change b None number e n = refl
part_keeps m change b (Some s) number e n =
    changed_has n m (λ _. (change (part b.book s)).session) b.sessions
    (λ x h. number (part b.book s) ∙ found_number m b.sessions s e ∙ sym (eqb-true x.number m h))

step_keeps : (full m : ℕ) (d : Decided) (b : Server) → KeepsSessions b (step full m d b)
step_keeps full m d b = part_keeps m (served full d) b (session_of m b) (served_number full d) refl

fault_keeps : (m : ℕ) (b : Server) → KeepsSessions b (with_fault m b)
fault_keeps m b = part_keeps m (refused BadFrame None) b (session_of m b) (λ p. refl) refl

-- ---- deals

taken_has : (n : ℕ) (old new : Roster) (ds : List Handed) → Taken Hands old ds new
    → has n new.sessions ≡ has n old.sessions
taken_has n old new [] h = ap (λ (r : Roster). has n r.sessions) h
taken_has n old new (d ∷ ds) h =
    taken_has n h.0 new ds h.2 ∙ ap (λ (r : Roster). has n r.sessions) h.1
    ∙ changed_has n d.to.session (writing (message_frame (delivery_of d))) old.sessions (λ s e. refl)

pub dealing_keeps : (old new : Server) → Dealing old new → KeepsSessions old new
dealing_keeps old new h n = taken_has n _ _ h.handed h.taken

-- ---- feed

both : (old mid new : Server) → KeepsSessions old mid → KeepsSessions mid new → KeepsSessions old new
both old mid new a b n = b n ∙ a n

same_keeps : (old mid new : Server) → new ≡ mid → KeepsSessions old mid → KeepsSessions old new
same_keeps old mid new e a n = ap (has_session n) e ∙ a n

takes_keeps : (old new : Server) (m : ℕ) (d : Decided) → TakesDecided old m d new → KeepsSessions old new
takes_keeps old new m d h = same_keeps old _ new h.changed (changing_keeps m (with_incoming h.left) old (λ s e. refl))

all_keep : (full m : ℕ) (old new : Server) (ds : List Decided) → HandlesAll full m old ds new → KeepsSessions old new
all_keep full m old new [] h = same_keeps old old new h (λ n. refl)
all_keep full m old new (d ∷ ds) h =
    let t = h.1 in
    let a = takes_keeps old t.taken m d t.takes in
    let b = step_keeps full m d t.taken in
    let c = dealing_keeps (step full m d t.taken) h.0 t.settles.0 in
    both old h.0 new (both old t.taken h.0 a (both t.taken (step full m d t.taken) h.0 b c))
    (all_keep full m h.0 new ds h.2)

ends_keep : (old new : Server) (m : ℕ) → Ends old m new → KeepsSessions old new
ends_keep old new m (closed s found is e) = same_keeps old old new e (λ n. refl)
ends_keep old new m (awaits s left o none e) =
    same_keeps old _ new e (changing_keeps m (with_incoming left) old (λ x k. refl))
ends_keep old new m (faulty s left o meets e) =
    let mid = changing m (with_incoming left) old in
    same_keeps old _ new e (both old mid (with_fault m mid) (changing_keeps m (with_incoming left) old (λ x k. refl))
    (fault_keeps m mid))

stops_keep : (full m : ℕ) (old new : Server) → Stops full m old new → KeepsSessions old new
stops_keep full m old new (at_frame e) = same_keeps old old new e (λ n. refl)
stops_keep full m old new (in_step d s left o takes e) =
    same_keeps old _ new e (changing_keeps m (with_incoming (with_waiting d left)) old (λ x k. refl))
stops_keep full m old new (in_deals d taken takes deals) =
    both old taken new (takes_keeps old taken m d takes)
    (both taken (step full m d taken) new (step_keeps full m d taken) (dealing_keeps (step full m d taken) new deals))
stops_keep full m old new (at_fault s left o meets e) =
    same_keeps old _ new e (changing_keeps m (with_incoming left) old (λ x k. refl))
stops_keep full m old new (at_end ended ends deals) =
    both old ended new (ends_keep old ended m ends) (dealing_keeps ended new deals)

taking_number : (piece : List ℕ) (s : Session) (t : Bool) → s.closed ≡ t → (taking piece s).number ≡ s.number
taking_number piece s true e = rw e refl
taking_number piece s false e = rw e refl

fed_keeps : (m : ℕ) (piece : List ℕ) (b : Server) → KeepsSessions b (changing m (taking piece) b)
fed_keeps m piece b = changing_keeps m (taking piece) b (λ s e. taking_number piece s s.closed refl)

pub feeds_keep : (full m : ℕ) (old new : Server) (piece : List ℕ) (count : ℕ) → Feeds full old m piece new count
    → KeepsSessions old new
feeds_keep full m old new piece count h =
    let fed = changing m (taking piece) old in
    both old h.ended new
    (both old h.handled h.ended (both old fed h.handled (fed_keeps m piece old)
    (all_keep full m fed h.handled h.frames h.handles))
    (ends_keep h.handled h.ended m h.ends))
    (dealing_keeps h.ended new h.settles.0)

pub part_feeds_keep : (full m : ℕ) (old new : Server) (piece : List ℕ) → FeedsPart full old m piece new
    → KeepsSessions old new
part_feeds_keep full m old new piece h =
    let fed = changing m (taking piece) old in
    both old h.handled new (both old fed h.handled (fed_keeps m piece old)
    (all_keep full m fed h.handled h.frames h.handles))
    (stops_keep full m h.handled new h.stops)

pub answer_keeps : (full m : ℕ) (old new : Server) (piece : List ℕ) (r : Result ℕ BrokerFault)
    → FeedAnswer full old m piece new r
    → KeepsSessions old new
answer_keeps full m old new piece (Ok count) h = feeds_keep full m old new piece count h
answer_keeps full m old new piece (Err (Memory true)) h = part_feeds_keep full m old new piece h
answer_keeps full m old new piece (Err (Memory false)) h = same_keeps old old new h.same (λ n. refl)
answer_keeps full m old new piece (Err NoSession) h = same_keeps old old new h.1 (λ n. refl)
answer_keeps full m old new piece (Err TooMany) h = absurd h

-- a session that is there isn't missed
pub answer_there : (full m : ℕ) (old new : Server) (piece : List ℕ) (r : Result ℕ BrokerFault)
    → FeedAnswer full old m piece new r
    → has_session m old ≡ true → IfErr r (λ fault. fault ≢ NoSession)
answer_there full m old new piece (Ok count) h e = tt
answer_there full m old new piece (Err (Memory took)) h e = λ k. absurd (cc)
answer_there full m old new piece (Err NoSession) h e =
    let k : has_session m old ≡ false = ap is_some h.0 in absurd (cc)
answer_there full m old new piece (Err TooMany) h e = λ k. absurd h

-- ---- the other calls

pub dispatch_keeps : {E : Type 0} (old new : Server) (r : Result (Unit {0}) E) → DispatchAnswer old new r
    → KeepsSessions old new
dispatch_keeps old new (Ok x) h = dealing_keeps old new h.0
dispatch_keeps old new (Err x) h = dealing_keeps old new h

pub taken_keeps : (m count : ℕ) (b : Server) → KeepsSessions b (changing m (without_first count) b)
taken_keeps m count b = changing_keeps m (without_first count) b (λ s e. refl)

-- ---- a session is dropped

others_step : (n m : ℕ) (s : Session) (ss : List Session) (t u : Bool) → is_session m s ≡ t → is_session n s ≡ u → n ≢ m
    → has n (others m ss) ≡ has n ss → has n (others m (s ∷ ss)) ≡ has n (s ∷ ss)
others_step n m s ss true true e k apart ih = absurd (apart (sym (eqb-true s.number n k) ∙ eqb-true s.number m e))
others_step n m s ss true false e k apart ih = rw (e, k) ih
others_step n m s ss false true e k apart ih = rw (e, k) refl
others_step n m s ss false false e k apart ih = rw (e, k) ih

others_have : (n m : ℕ) (ss : List Session) → n ≢ m → has n (others m ss) ≡ has n ss
others_have n m [] apart = refl
others_have n m (s ∷ ss) apart =
    others_step n m s ss (is_session m s) (is_session n s) refl refl apart (others_have n m ss apart)

gone_step : (m : ℕ) (s : Session) (ss : List Session) (t : Bool) → is_session m s ≡ t → has m (others m ss) ≡ false
    → has m (others m (s ∷ ss)) ≡ false
gone_step m s ss true e ih = rw e ih
gone_step m s ss false e ih = rw (e, e) ih

gone_from : (m : ℕ) (ss : List Session) → has m (others m ss) ≡ false
gone_from m [] = refl
gone_from m (s ∷ ss) = gone_step m s ss (is_session m s) refl (gone_from m ss)

dropped_others : (m : ℕ) (b : Server) (o : Option Session) → KeepsOthers m b (dropped m b o)
dropped_others m b None n apart = refl
dropped_others m b (Some s) n apart = others_have n m b.sessions apart

dropped_gone : (m : ℕ) (b : Server) (o : Option Session) → session_of m b ≡ o → has_session m (dropped m b o) ≡ false
dropped_gone m b None e = ap is_some e
dropped_gone m b (Some s) e = gone_from m b.sessions

pub drop_keeps : (m : ℕ) (b : Server) → KeepsOthers m b (dropped m b (session_of m b))
drop_keeps m b = dropped_others m b (session_of m b)

pub drop_gone : (m : ℕ) (b : Server) → has_session m (dropped m b (session_of m b)) ≡ false
drop_gone m b = dropped_gone m b (session_of m b) refl

-- ---- a session is opened

added_step : (n : ℕ) (s x : Session) (ss : List Session) (t : Bool) → is_session n s ≡ t
    → has n (ss ++ x ∷ []) ≡ has n ss
    → has n ((s ∷ ss) ++ x ∷ []) ≡ has n (s ∷ ss)
added_step n s x ss true e ih = rw e refl
added_step n s x ss false e ih = rw e ih

added_has : (n : ℕ) (x : Session) (ss : List Session) → is_session n x ≡ false → has n (ss ++ x ∷ []) ≡ has n ss
added_has n x [] e = rw e refl
added_has n x (s ∷ ss) e = added_step n s x ss (is_session n s) refl (added_has n x ss e)

not_own : (n k : ℕ) (t : Bool) → (k == n) ≡ t → n ≢ k → (k == n) ≡ false
not_own n k true e apart = absurd (apart (sym (eqb-true k n e)))
not_own n k false e apart = e

pub open_keeps : (old new : Server) (m : ℕ) → OpensSession old m new → KeepsOthers m old new
open_keeps old new m h n apart =
    ap (has_session n) h.changed
    ∙ added_has n (new_session (old.opened + 1)) old.sessions
    (ap (λ k. k == n) (sym h.next) ∙ not_own n m (m == n) refl apart)

pub open_answer_keeps : (old new : Server) (r : Result ℕ BrokerFault) → OpenAnswer old new r
    → IfOk r (λ own. KeepsOthers own old new)
open_answer_keeps old new (Ok own) h = open_keeps old new own h
open_answer_keeps old new (Err fault) h = tt

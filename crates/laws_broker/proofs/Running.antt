-- Calls, and lives, are runs of the book, along which no more is done than was asked for.
use Rattle.std.proofs.Common.{◌≡◌, ℕ, ◌+◌, ◌≤◌, Bool, true, false, List, [], ◌∷◌, ◌++◌, map, Option, Some, None, Result}
use Rattle.std.proofs.Common.{Ok, Err, refl}
use Rattle.std.proofs.Common.{ap}
use Rattle.std.proofs.Common.{subst, sym, ◌∙◌, append-nil, arith}
use Rattle.std.specs.Prelude.{count_by}
use Rattle.std.specs.List.{flat_map, sum_by}
use Rattle.std.proofs.lemmas.Grind.{flat_map-append}
use Rattle.std.proofs.lemmas.List.Sums.{sum_by-append, sum_by-cons}
use Rattle.stomp_session.specs.Replies.{message_frame}
use Rattle.broker_book.specs.Runs.{Hands, Takes, taken_in}
use Rattle.broker_book.specs.Steps.{Handed, Taken}
use Rattle.broker_book.specs.declared.parts.Accepted.{Accepted}
use Rattle.broker_book.proofs.Acted.{deals_run}
use Rattle.broker_book.proofs.Counts.{count-append}
use Rattle.broker_core.specs.Calls.{OpenAnswer, FreshAnswer, dropped, named, new_session, without_first}
use Rattle.broker_core.specs.Feeding.{Dealing, Ends, closed, awaits, faulty, FeedAnswer, Handles, HandlesAll, Stops}
use Rattle.broker_core.specs.Feeding.{TakesDecided as TakesNext}
use Rattle.broker_core.specs.Feeding.{Hands as Writes, at_frame, in_step, in_deals, at_fault, at_end, delivery_of}
use Rattle.broker_core.specs.Feeding.{taking, with_incoming}
use Rattle.broker_core.specs.Feeding.{with_waiting}
use Rattle.broker_core.specs.Serving.{Decided, Part, Roster, Server, changing, changing_part, part, refused, roster_of}
use Rattle.broker_core.specs.Serving.{served}
use Rattle.broker_core.specs.Serving.{session_of, step, with_fault, writing}
use Rattle.broker_core.specs.Streams.{stopped_frames}
use Rattle.broker_core.specs.declared.fault.BrokerFault.{BrokerFault}
use Rattle.broker_core.specs.declared.fault.BrokerFault.TheVariants.{Memory, NoSession, TooMany}
use Rattle.broker_core.specs.declared.fault.FrameRefusal.TheVariants.{BadFrame}
use Rattle.broker_core.specs.declared.session.Session.{Session}
use Rattle.broker_core.proofs.Left.{served_number}
use Rattle.laws_broker.specs.Deeds.{BrokerDeed, asked_in, asked_of, deeds_by, done_in}
use Rattle.laws_broker.specs.Lives.{BrokerCall, Opened, FedTo, Dispatched, TakenFrom, Dropped, Named, Told, Dispatches}
use Rattle.laws_broker.specs.Lives.{DoesCall, Lives, told_by}
use Rattle.laws_broker.specs.Lives.{told_in}
use Rattle.laws_broker.specs.Lives.{dealt_behind, dealt_before, dealt_feeding, dealt_dispatching, dealt_by, dealt_in}
use Rattle.laws_broker.specs.Lives.{frames_feeding}
use Rattle.laws_broker.specs.Runs.{Runs, StepsAreRuns, CallsAreRuns, LivesAreRuns, hands_in}
use Rattle.laws_broker.proofs.Steps.{PaysAt, ends, joined, pays_end, serves, stays}
use Rattle.laws_broker.proofs.There.{Spares, found_number, spares_left, spares_piece}
use Rattle.laws_broker.proofs.Weights.{burden, load, weight, done_append, found_load, gone_load, same_load}

-- ---- what is carried from one broker to another

-- A run of the book led there: with what all transactions keep then, no more was done than they kept before and was
-- asked for.
pub record Carries (old : Server) (told : List Accepted) (dealt : List Handed) (asked : List BrokerDeed) (new : Server)
    : Type 0 where
  pub runs : Runs old.book told dealt new.book
  pub owed : (p : BrokerDeed → Bool) → count_by p (done_in runs.events) + load p new ≤ load p old + count_by p asked

-- the book is the same, and transactions keep no more
lighter : (old new : Server) → new.book ≡ old.book → ((p : BrokerDeed → Bool) → load p new ≤ load p old)
    → Carries old [] [] [] new
lighter old new e h = record { runs = stays old.book new.book e; owed = λ p. let l = h p in omega arith }

same : (old new : Server) → new ≡ old → Carries old [] [] [] new
same old new e =
    lighter old new (ap (λ (b : Server). b.book) e) (λ p. let l : load p new ≡ load p old =
    ap (λ (b : Server). load p b) e in omega arith)

both : (old mid new : Server) (t u : List Accepted) (d g : List Handed) (a c : List BrokerDeed) → Carries old t d a mid
    → Carries mid u g c new
    → Carries old (t ++ u) (d ++ g) (a ++ c) new
both old mid new t u d g a c h k = record {
  runs = joined old.book mid.book new.book t u d g h.runs k.runs;
  owed = λ p.
      let first = h.owed p in
      let then = k.owed p in
      let done = done_append p h.runs.events k.runs.events in
      let asked = count-append p a c in
      omega (arith, first, then, done, asked);
}

-- ---- deals

-- deals take nothing, do nothing of what is asked for, and hand out what they deal
told_none : (ds : List Handed) → taken_in (map Hands ds) ≡ []
told_none [] = refl
told_none (d ∷ ds) = told_none ds

handed_all : (ds : List Handed) → hands_in (map Hands ds) ≡ ds
handed_all [] = refl
handed_all (d ∷ ds) = ap (λ l. d ∷ l) (handed_all ds)

done_none : (ds : List Handed) → done_in (map Hands ds) ≡ []
done_none [] = refl
done_none (d ∷ ds) = done_none ds

-- MESSAGEs change no transaction
written_load : (p : BrokerDeed → Bool) (old new : Roster) (ds : List Handed) → Taken Writes old ds new
    → sum_by (burden p) new.sessions ≡ sum_by (burden p) old.sessions
written_load p old new [] h = ap (λ (r : Roster). sum_by (burden p) r.sessions) h
written_load p old new (d ∷ ds) h =
    written_load p h.0 new ds h.2 ∙ ap (λ (r : Roster). sum_by (burden p) r.sessions) h.1
    ∙ same_load p d.to.session (writing (message_frame (delivery_of d))) (λ x. refl) old.sessions

deals_carry : (old new : Server) (h : Dealing old new) → Carries old [] h.handed [] new
deals_carry old new h = record {
  runs = record {
    events = map Hands h.handed;
    run = deals_run old.book new.book h.handed h.deals;
    told = told_none h.handed;
    handed = handed_all h.handed;
  };
  owed = λ p.
      let done : count_by p (done_in (map Hands h.handed)) ≡ 0 = ap (count_by p) (done_none h.handed) in
      let l = written_load p (roster_of old) (roster_of new) h.handed h.taken in
      omega (arith, done, l);
}

-- what was carried, and deals behind it
then_deals : (old mid new : Server) (d : List Handed) (a : List BrokerDeed) → Carries old [] d a mid
    → (h : Dealing mid new)
    → Carries old [] (d ++ h.handed) a new
then_deals old mid new d a h k =
    subst (λ l. Carries old [] (d ++ k.handed) l new) (append-nil a) (both old mid new [] [] d k.handed a [] h
    (deals_carry mid new k))

-- ---- changes of a session

spared : (p : BrokerDeed → Bool) (f : Session → Session) → Spares f → (s : Session) → burden p (f s) ≡ burden p s
spared p f k s = ap (λ n. weight p n (f s).transactions) (k.number s) ∙ ap (λ l. weight p s.number l) (k.transactions s)

changed : (n : ℕ) (f : Session → Session) (old new : Server) → Spares f → new ≡ changing n f old
    → Carries old [] [] [] new
changed n f old new k e =
    subst (λ (b : Server). Carries old [] [] [] b) (sym e) (lighter old (changing n f old) refl
    (λ p. let l = same_load p n f (spared p f k) old.sessions in omega (arith, l)))

-- a session and the book are put back
part_carries : (n : ℕ) (g : Part → Part) (asked : List BrokerDeed) (b : Server) (o : Option Session)
    → session_of n b ≡ o
    → ((p : Part) → (g p).session.number ≡ p.session.number)
    → ((s : Session) → s.number ≡ n → PaysAt s.number (part b.book s) asked (g (part b.book s)))
    → Carries b [] [] asked (changing_part n g b o)
part_carries n g asked b None e number pays = record { runs = stays b.book b.book refl; owed = λ p. omega arith }
part_carries n g asked b (Some s) e number pays =
    let t = (g (part b.book s)).session in
    let h = pays s (found_number n b.sessions s e) in
    record {
      runs = h.runs;
      owed = λ p.
          let l = found_load p n t b.sessions s e in
          let q = h.owed p in
          let k : burden p t ≡ weight p s.number t.transactions =
          ap (λ m. weight p m t.transactions) (number (part b.book s)) in
          omega (arith, l, q, k);
    }

step_carries : (full n : ℕ) (d : Decided) (b : Server) → Carries b [] [] (asked_of n d) (step full n d b)
step_carries full n d b =
    part_carries n (served full d) (asked_of n d) b (session_of n b) refl (served_number full d)
    (λ s e. subst (λ m. PaysAt s.number (part b.book s) (asked_of m d) (served full d (part b.book s))) e
    (serves full d (part b.book s)))

fault_carries : (n : ℕ) (b : Server) → Carries b [] [] [] (with_fault n b)
fault_carries n b =
    part_carries n (refused BadFrame None) [] b (session_of n b) refl (λ p. refl)
    (λ s e. pays_end s.number s.number b.book s.transactions [])

-- ---- frames

-- what frames of a session ask for
abbrev asks : ℕ → List Decided → List BrokerDeed
asks n frames = flat_map (asked_of n) frames

frame_carries : (full n : ℕ) (old mid : Server) (d : Decided) → TakesNext old n d mid
    → Carries old [] [] (asked_of n d) (step full n d mid)
frame_carries full n old mid d t =
    both old mid (step full n d mid) [] [] [] [] [] (asked_of n d) (changed n (with_incoming t.left) old mid
    (spares_left t.left) t.changed)
    (step_carries full n d mid)

one_handled : (full n : ℕ) (old new : Server) (d : Decided) (h : Handles full n old d new)
    → Carries old [] h.settles.0.handed (asked_of n d) new
one_handled full n old new d h =
    then_deals old (step full n d h.taken) new [] (asked_of n d) (frame_carries full n old h.taken d h.takes)
    h.settles.0

all_handled : (full n : ℕ) (old new : Server) (frames : List Decided) (h : HandlesAll full n old frames new)
    → Carries old [] (dealt_behind full n old new frames h) (asks n frames) new
all_handled full n old new [] h = same old new h
all_handled full n old new (d ∷ frames) h =
    both old h.0 new [] [] h.1.settles.0.handed (dealt_behind full n h.0 new frames h.2) (asked_of n d) (asks n frames)
    (one_handled full n old h.0 d h.1) (all_handled full n h.0 new frames h.2)

-- ---- the end of a call

end_carries : (n : ℕ) (old new : Server) → Ends old n new → Carries old [] [] [] new
end_carries n old new (closed s f k e) = same old new e
end_carries n old new (awaits s left o h e) = changed n (with_incoming left) old new (spares_left left) e
end_carries n old new (faulty s left o h e) =
    let mid = changing n (with_incoming left) old in
    subst (λ (b : Server). Carries old [] [] [] b) (sym e)
    (both old mid (with_fault n mid) [] [] [] [] [] [] (changed n (with_incoming left) old mid (spares_left left) refl)
    (fault_carries n mid))

stop_carries : (full n : ℕ) (old new : Server) (h : Stops full n old new)
    → Carries old [] (dealt_before h) (asks n (stopped_frames h)) new
stop_carries full n old new (at_frame e) = same old new e
stop_carries full n old new (in_step d s left o t e) =
    changed n (with_incoming (with_waiting d left)) old new (spares_left (with_waiting d left)) e
stop_carries full n old new (in_deals d mid t deals) =
    subst (λ l. Carries old [] deals.handed l new) (sym (append-nil (asked_of n d)))
    (then_deals old (step full n d mid) new [] (asked_of n d) (frame_carries full n old mid d t) deals)
stop_carries full n old new (at_fault s left o h e) = changed n (with_incoming left) old new (spares_left left) e
stop_carries full n old new (at_end mid h deals) = then_deals old mid new [] [] (end_carries n old mid h) deals

-- ---- calls

-- a piece was taken, and these frames were handled
piece_carries : (full n : ℕ) (old mid : Server) (piece : List ℕ) (frames : List Decided)
    → (h : HandlesAll full n (changing n (taking piece) old) frames mid)
    → Carries old [] (dealt_behind full n (changing n (taking piece) old) mid frames h) (asks n frames) mid
piece_carries full n old mid piece frames h =
    let begun = changing n (taking piece) old in
    both old begun mid [] [] [] (dealt_behind full n begun mid frames h) [] (asks n frames)
    (changed n (taking piece) old begun (spares_piece piece) refl) (all_handled full n begun mid frames h)

feeding_carries : (full : ℕ) (old : Server) (n : ℕ) (piece : List ℕ) (new : Server) (answer : Result ℕ BrokerFault)
    → (h : FeedAnswer full old n piece new answer)
    → Carries old [] (dealt_feeding full old n piece new answer h) (asks n
    (frames_feeding full old n piece new answer h)) new
feeding_carries full old n piece new (Ok count) h =
    let dealt = dealt_behind full n (changing n (taking piece) old) h.handled h.frames h.handles in
    let a = asks n h.frames in
    then_deals old h.ended new dealt a
    (subst (λ l. Carries old [] l a h.ended) (append-nil dealt)
    (subst (λ l. Carries old [] (dealt ++ []) l h.ended) (append-nil a)
    (both old h.handled h.ended [] [] dealt [] a [] (piece_carries full n old h.handled piece h.frames h.handles)
    (end_carries n h.handled h.ended h.ends))))
    h.settles.0
feeding_carries full old n piece new (Err (Memory true)) h =
    let dealt = dealt_behind full n (changing n (taking piece) old) h.handled h.frames h.handles in
    let last = stopped_frames h.stops in
    subst (λ l. Carries old [] (dealt ++ dealt_before h.stops) l new) (sym (flat_map-append (asked_of n) h.frames last))
    (both old h.handled new [] [] dealt (dealt_before h.stops) (asks n h.frames) (asks n last)
    (piece_carries full n old h.handled piece h.frames h.handles) (stop_carries full n h.handled new h.stops))
feeding_carries full old n piece new (Err (Memory false)) h = same old new h.same
feeding_carries full old n piece new (Err NoSession) h = same old new h.1
feeding_carries full old n piece new (Err TooMany) h = absurd h

opening_carries : (old new : Server) (answer : Result ℕ BrokerFault) → OpenAnswer old new answer
    → Carries old [] [] [] new
opening_carries old new (Ok n) h =
    let s = new_session (old.opened + 1) in
    lighter old new (ap (λ (b : Server). b.book) h.changed) (λ p.
    let l : load p new ≡ sum_by (burden p) (old.sessions ++ s ∷ []) = ap (λ (b : Server). load p b) h.changed in
    let a = sum_by-append (burden p) old.sessions (s ∷ []) in
    let c = sum_by-cons (burden p) s [] in
    omega (arith, l, a, c))
opening_carries old new (Err (Memory took)) h = same old new h.1
opening_carries old new (Err NoSession) h = absurd h
opening_carries old new (Err TooMany) h = same old new h.1

dispatching_carries : (whole : Bool) (old new : Server) (h : Dispatches whole old new)
    → Carries old [] (dealt_dispatching whole old new h) [] new
dispatching_carries true old new h = deals_carry old new h.0
dispatching_carries false old new h = deals_carry old new h

dropping_carries : (n : ℕ) (b : Server) (o : Option Session) → Carries b [] [] [] (dropped n b o)
dropping_carries n b None = same b b refl
dropping_carries n b (Some s) =
    record { runs = ends b.book n; owed = λ p. let l = gone_load p n b.sessions in omega (arith, l) }

naming_carries : (old new : Server) (answer : Option ℕ) → FreshAnswer old new answer → Carries old [] [] [] new
naming_carries old new (Some n) h =
    changed n named old new (record { number = λ s. refl; transactions = λ s. refl }) h.changed
naming_carries old new None h = same old new h.1

told_carries : (old new : Server) (accepted : List Accepted) → DoesCall 0 old (Told accepted) new
    → Carries old accepted [] [] new
told_carries old new accepted h = record {
  runs = record {
    events = Takes accepted ∷ [];
    run = (new.book, (h.0, ap (λ (b : Server). b.book) h.1), refl);
    told = append-nil accepted;
    handed = refl;
  };
  owed = λ p. let l : load p new ≡ load p old = ap (λ (b : Server). load p b) h.1 in omega (arith, l);
}

pub call_carries : (full : ℕ) (old new : Server) (c : BrokerCall) (h : DoesCall full old c new)
    → Carries old (told_by c) (dealt_by full old c new h) (deeds_by c) new
call_carries full old new (Opened answer) h = opening_carries old new answer h
call_carries full old new (FedTo n fed answer) h =
    subst (λ frames. Carries old [] (dealt_feeding full old n fed.piece new answer h.0) (asks n frames) new) (sym h.1)
    (feeding_carries full old n fed.piece new answer h.0)
call_carries full old new (Dispatched whole) h = dispatching_carries whole old new h
call_carries full old new (TakenFrom n octets) h =
    changed n (without_first h.0) old new (record { number = λ s. refl; transactions = λ s. refl }) h.3
call_carries full old new (Dropped n) h =
    subst (λ (b : Server). Carries old [] [] [] b) (sym h) (dropping_carries n old (session_of n old))
call_carries full old new (Named answer) h = naming_carries old new answer h
call_carries full old new (Told accepted) h = told_carries old new accepted h

pub life_carries : (full : ℕ) (old new : Server) (calls : List BrokerCall) (h : Lives full old calls new)
    → Carries old (told_in calls) (dealt_in full old calls new h) (asked_in calls) new
life_carries full old new [] h = same old new h
life_carries full old new (c ∷ calls) h =
    both old h.0 new (told_by c) (told_in calls) (dealt_by full old c h.0 h.1) (dealt_in full h.0 calls new h.2)
    (deeds_by c) (asked_in calls) (call_carries full old h.0 c h.1) (life_carries full h.0 new calls h.2)

-- ---- so the book runs

pub step_runs : StepsAreRuns
step_runs full n d b = (step_carries full n d b).runs

pub call_runs : CallsAreRuns
call_runs full old new c h = (call_carries full old new c h).runs

pub life_runs : LivesAreRuns
life_runs full old new calls h = (life_carries full old new calls h).runs

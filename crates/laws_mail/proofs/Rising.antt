-- The last number that was given to a session.
use Rattle.std.proofs.Common.{◌≡◌, ℕ, ◌+◌, ◌≤◌, true, false, List, [], ◌∷◌, Option, Some, None, Result, Ok, Err, refl}
use Rattle.std.proofs.Common.{ap, ◌∙◌, arith}
use Rattle.base.specs.declared.limits.TheConstants.{MAX_QUEUED}
use Rattle.stomp_frame.specs.declared.fault.FrameFault.{FrameFault}
use Rattle.broker_book.specs.Steps.{Handed, Taken}
use Rattle.broker_book.specs.declared.parts.Sent.{Sent}
use Rattle.broker_core.specs.Calls.{dropped}
use Rattle.broker_core.specs.Feeding.{Dealing, DispatchAnswer, Ends, FeedAnswer, Feeds, FeedsPart, Hands, HandlesAll}
use Rattle.broker_core.specs.Feeding.{Stops, at_end}
use Rattle.broker_core.specs.Feeding.{at_fault, at_frame, awaits, closed, faulty, in_deals, in_step, with_incoming}
use Rattle.broker_core.specs.Serving.{Decided, Part, Roster, Server, changing, changing_part, refused, roster_of}
use Rattle.broker_core.specs.Serving.{served, session_of, step}
use Rattle.broker_core.specs.Serving.{with_fault}
use Rattle.broker_core.specs.declared.fault.BrokerFault.{BrokerFault}
use Rattle.broker_core.specs.declared.fault.BrokerFault.TheVariants.{Memory, NoSession, TooMany}
use Rattle.broker_core.specs.declared.fault.FrameRefusal.TheVariants.{BadFrame}
use Rattle.broker_core.specs.declared.session.Session.{Session}
use Rattle.schedule_mail.specs.Connecting.{CarriesDown, CarriesUp, Cuts, Opens, without_session}
use Rattle.schedule_mail.specs.Mails.{Mail, collected, taken_from}
use Rattle.schedule_mail.specs.Repeating.{FailsToRepeat, Repeats, SentAgain, Unsent, refused as wasnt_sent, uncollected}
use Rattle.schedule_mail.specs.Repeating.{unfound, unsent}
use Rattle.schedule_mail.specs.declared.connection.Connection.{Connection}
use Rattle.schedule_mail.specs.declared.repeat_fault.RepeatFault.{RepeatFault}
use Rattle.schedule_mail.specs.declared.repeat_fault.RepeatFault.TheVariants as repeat_fault

-- ---- a broker

abbrev last : Server → ℕ
last b = b.opened

taken_last : (from to : Roster) (ds : List Handed) → Taken Hands from ds to → to.opened ≡ from.opened
taken_last from to [] h = ap (λ (r : Roster). r.opened) h
taken_last from to (d ∷ ds) h = taken_last h.0 to ds h.2 ∙ ap (λ (r : Roster). r.opened) h.1

dealing_last : (old new : Server) → Dealing old new → new.opened ≡ old.opened
dealing_last old new h = taken_last (roster_of old) (roster_of new) h.handed h.taken

dispatch_last : {E : Type 0} (old new : Server) (r : Result (Unit {0}) E) → DispatchAnswer old new r
    → new.opened ≡ old.opened
dispatch_last old new (Ok _) h = dealing_last old new h.0
dispatch_last old new (Err _) h = dealing_last old new h

part_last : (n : ℕ) (change : Part → Part) (b : Server) (o : Option Session)
    → (changing_part n change b o).opened ≡ b.opened
part_last n change b None = refl
part_last n change b (Some s) = refl

step_last : (full n : ℕ) (d : Decided) (b : Server) → (step full n d b).opened ≡ b.opened
step_last full n d b = part_last n (served full d) b (session_of n b)

fault_last : (n : ℕ) (b : Server) → (with_fault n b).opened ≡ b.opened
fault_last n b = part_last n (refused BadFrame None) b (session_of n b)

all_last : (full n : ℕ) (old new : Server) (ds : List Decided) → HandlesAll full n old ds new → new.opened ≡ old.opened
all_last full n old new [] h = ap last h
all_last full n old new (d ∷ ds) h =
    let t = h.1 in
    all_last full n h.0 new ds h.2 ∙ dealing_last (step full n d t.taken) h.0 t.settles.0 ∙ step_last full n d t.taken
    ∙ ap last t.takes.changed

ends_last : (old new : Server) (n : ℕ) → Ends old n new → new.opened ≡ old.opened
ends_last old new n (closed s found is e) = ap last e
ends_last old new n (awaits s left o none e) = ap last e
ends_last old new n (faulty s left o meets e) = ap last e ∙ fault_last n (changing n (with_incoming left) old)

stops_last : (full n : ℕ) (old new : Server) → Stops full n old new → new.opened ≡ old.opened
stops_last full n old new (at_frame e) = ap last e
stops_last full n old new (in_step d s left o takes e) = ap last e
stops_last full n old new (in_deals d taken takes deals) =
    dealing_last (step full n d taken) new deals ∙ step_last full n d taken ∙ ap last takes.changed
stops_last full n old new (at_fault s left o meets e) = ap last e
stops_last full n old new (at_end ended ends deals) = dealing_last ended new deals ∙ ends_last old ended n ends

pub feeds_last : (full n : ℕ) (old new : Server) (piece : List ℕ) (count : ℕ) → Feeds full old n piece new count
    → new.opened ≡ old.opened
feeds_last full n old new piece count h =
    dealing_last h.ended new h.settles.0 ∙ ends_last h.handled h.ended n h.ends
    ∙ all_last full n _ h.handled h.frames h.handles

pub part_feeds_last : (full n : ℕ) (old new : Server) (piece : List ℕ) → FeedsPart full old n piece new
    → new.opened ≡ old.opened
part_feeds_last full n old new piece h =
    stops_last full n h.handled new h.stops ∙ all_last full n _ h.handled h.frames h.handles

pub feed_last : (full n : ℕ) (old new : Server) (piece : List ℕ) (r : Result ℕ BrokerFault)
    → FeedAnswer full old n piece new r
    → new.opened ≡ old.opened
feed_last full n old new piece (Ok count) h = feeds_last full n old new piece count h
feed_last full n old new piece (Err (Memory true)) h = part_feeds_last full n old new piece h
feed_last full n old new piece (Err (Memory false)) h = ap last h.same
feed_last full n old new piece (Err NoSession) h = ap last h.1
feed_last full n old new piece (Err TooMany) h = absurd h

pub dropped_last : (n : ℕ) (b : Server) (o : Option Session) → (dropped n b o).opened ≡ b.opened
dropped_last n b None = refl
dropped_last n b (Some s) = refl

-- ---- the mail

-- the last number that its broker gave
abbrev pub last_of : Mail → ℕ
last_of o = o.broker.opened

-- a new connection has the next number, and it is the last
pub opened_number : (from : Mail) (c : Connection) (to : Mail) → Opens from to (Ok c)
    → (c.session ≡ last_of from + 1) × (last_of to ≡ last_of from + 1)
opened_number from c to h = (h.session.next, ap last h.session.changed)

pub carried_up_opened : (most : ℕ) (old : Connection) (from : Mail) (new : Connection) (to : Mail)
    (r : Result ℕ BrokerFault)
    → CarriesUp most old from new to r → last_of to ≡ last_of from
carried_up_opened most old from new to (Ok count) h =
    feeds_last MAX_QUEUED old.session from.broker to.broker _ h.handled h.feeds
carried_up_opened most old from new to (Err (Memory true)) h =
    part_feeds_last MAX_QUEUED old.session from.broker to.broker _ h.feeds
carried_up_opened most old from new to (Err (Memory false)) h = ap last_of h.1
carried_up_opened most old from new to (Err NoSession) h = ap last_of h.1
carried_up_opened most old from new to (Err TooMany) h = ap last_of h.1

pub carried_down_opened : (most : ℕ) (old : Connection) (from : Mail) (new : Connection) (to : Mail)
    (r : Result ℕ FrameFault)
    → CarriesDown most old from new to r → last_of to ≡ last_of from
carried_down_opened most old from new to (Ok count) h = ap last_of h.left
carried_down_opened most old from new to (Err fault) h = ap last_of h.1

pub dispatched_opened : {E : Type 0} (from to : Mail) (r : Result (Unit {0}) E)
    → DispatchAnswer from.broker to.broker r
    → last_of to ≡ last_of from
dispatched_opened from to r h = dispatch_last from.broker to.broker r h

pub cut_opened : {E : Type 0} (c : Connection) (from to : Mail) (r : Result (Unit {0}) E) → Cuts c from to r
    → last_of to ≡ last_of from
cut_opened c from to r h =
    dispatch_last (without_session c.session from).broker to.broker r h.deals
    ∙ dropped_last c.session from.broker (session_of c.session from.broker)

-- ---- a repeat

pub again_opened : (sent : Sent) (old new : Mail) (r : Result (Option ℕ) RepeatFault) → SentAgain sent old new r
    → last_of new ≡ last_of old + 1
again_opened sent old new r h =
    ap last_of h.feeds.left ∙ dropped_last h.session (taken_from h.feeds.fed) (session_of h.session h.feeds.fed)
    ∙ feed_last MAX_QUEUED h.session h.opened.broker h.feeds.fed _ h.feeds.answer h.feeds.feeds
    ∙ ap last h.opens.changed

pub unsent_same : (old new : Mail) (fault : RepeatFault) → Unsent old new fault → new ≡ old
unsent_same old new repeat_fault.Memory h = h
unsent_same old new repeat_fault.TooMany h = h.1
unsent_same old new repeat_fault.QueueFull h = absurd h

not_less : (n m : ℕ) → m ≡ n → n ≤ m
not_less n m e = omega (arith, e)

one_more : (n m : ℕ) → m ≡ n + 1 → n ≤ m
one_more n m e = omega (arith, e)

fails_opened : (place : ℕ) (old new : Mail) (fault : RepeatFault) → FailsToRepeat place old new fault
    → last_of old ≤ last_of new
fails_opened place old new fault (uncollected e k) = not_less _ _ (ap last_of k)
fails_opened place old new fault (unfound e k) = not_less _ _ (ap last_of k)
fails_opened place old new fault (unsent sent found k) =
    not_less _ _ (ap last_of (unsent_same (collected old) new fault k))
fails_opened place old new fault (wasnt_sent sent found k) =
    one_more _ _ (again_opened sent (collected old) new (Err fault) k)

pub repeated_opened : (place : ℕ) (old new : Mail) (r : Result (Option ℕ) RepeatFault) → Repeats place old new r
    → last_of old ≤ last_of new
repeated_opened place old new (Ok (Some number)) h =
    one_more _ _ (again_opened h.sent (collected old) new (Ok (Some number)) h.again)
repeated_opened place old new (Ok None) h = not_less _ _ (ap last_of h.1)
repeated_opened place old new (Err fault) h = fails_opened place old new fault h

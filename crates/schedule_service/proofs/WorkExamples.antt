-- Examples: events of a service that do something: its store is written, opened anew and stopped, and frames that came
-- are taken.
use Rattle.std.proofs.Common.{◌≡◌, ◌∙◌, ◌⊎◌, ℕ, List, [], ◌∷◌, length, Option, Some, None, Result, Ok, Err, Bool, true}
use Rattle.std.proofs.Common.{false, refl}
use Rattle.std.proofs.Common.{sym, ap, subst, inl, inr, arith}
use Rattle.std.proofs.Math.Logic.{∥∥₁_elim}
use Rattle.std.specs.Prelude.{MatchBool}
use Rattle.activities.proofs.Asking.{Asked}
use Rattle.broker_core.specs.Calls.{empty as no_session, new_session}
use Rattle.endpoint.specs.Calls.{Commits}
use Rattle.endpoint.specs.Faults.{end_of}
use Rattle.endpoint.specs.Matches.{TablesMatchJournal, AllMatch}
use Rattle.endpoint.specs.declared.answer.Committed.{Committed}
use Rattle.endpoint.specs.declared.fault.EndFault.{EndFault}
use Rattle.endpoint.specs.declared.fault.EndFault.TheVariants.{NotMine, Business}
use Rattle.endpoint.proofs.Examples.{placing, a_placed_order_is_committed}
use Rattle.endpoint.proofs.CallExamples.{orders, OrderTables, before, after, before_matches, taken_in}
use Rattle.keep.specs.Failing.{Failing, through}
use Rattle.keep.specs.Law.{Reopens}
use Rattle.keep.specs.Seen.{Seen}
use Rattle.keep.specs.declared.faulty.Leaves.TheVariants.{New as NewTables}
use Rattle.schedule_mail.specs.Mails.{Mail, new_mail}
use Rattle.relay.specs.declared.relay.Relay.{Relay}
use Rattle.schedule_mail.specs.declared.connection.Connection.{Connection}
use Rattle.schedule_text.specs.declared.outcome.Outcome.{Outcome}
use Rattle.schedule_text.specs.declared.outcome.Outcome.TheVariants as told
use Rattle.schedule_service.specs.Channels.{MailAfterCut}
use Rattle.schedule_service.specs.SiteSteps.{command_row, TakesCommand, ReopensStore, StopsSite, SiteStep}
use Rattle.schedule_service.specs.Outcomes.{fault_told, commit_told, end_told}
use Rattle.schedule_service.specs.SiteEvents as event
use Rattle.schedule_service.specs.declared.site_channel.SiteChannel.{SiteChannel}
use Rattle.schedule_service.specs.declared.site.Site.{Site}
use Rattle.schedule_service.proofs.StepExamples.{asked}

-- ---- what is told of faults

-- whether an outcome is a refusal
abbrev pub is_refusal : Outcome → Bool
is_refusal (told.Refused n) = true
is_refusal (told.NotDone refusal) = true
is_refusal _ = false

-- a fault is told as one, and as nothing else
pub fault_is_refusal : (f : EndFault) → is_refusal (fault_told f) ≡ true
fault_is_refusal NotMine = refl
fault_is_refusal (Business refusal) = refl
fault_is_refusal _ = refl

pub no_refusal : (o r : Outcome) → is_refusal o ≡ false → is_refusal r ≡ true → o ≡ r → ⊥
no_refusal o r none some h = let both : false ≡ true = sym none ∙ ap is_refusal h ∙ some in absurd (cc)

pub no_fault : (o : Outcome) → is_refusal o ≡ false → (f : EndFault) → o ≡ fault_told f → ⊥
no_fault o none f h = no_refusal o (fault_told f) none (fault_is_refusal f) h

-- ---- a service of orders

-- its store is usable or not, and has these tables; of one that isn't usable a stop may leave those before the placing
-- or those after it
abbrev pub Store : Type 0
Store = Bool × OrderTables

abbrev before_or_after : OrderTables → Type 0
before_or_after t = (t ≡ before) ⊎ (t ≡ after)

abbrev pub seen : Store → Seen OrderTables
seen k = record {
  tables = k.1;
  may_leave = λ t. MatchBool k.0 (t ≡ k.1) (before_or_after t);
  failures = 0;
  usable = k.0;
  doubt =
      0;
  armed = None;
}

abbrev pub store : Bool → OrderTables → Failing Store
store usable tables = record { keep = (usable, tables); armed = None; is_down = false; failures = 0 }

abbrev pub Service : Type 0
Service = Site ℕ Store (Option Asked) Asked

abbrev pub site : Failing Store → Option SiteChannel → Service
site e zero = record { endpoint = e; zero = zero; one = None }

-- tables that match and that alone are left all match
pub only : (t : OrderTables) → TablesMatchJournal orders t → AllMatch orders (λ u. u ≡ t)
only t match u left = subst (TablesMatchJournal orders) (sym left) match

abbrev rows : OrderTables → ℕ
rows t = length t.journal

-- ---- commands

-- from these tables to those the command is given, and this is told
abbrev Gives : Outcome → OrderTables → OrderTables → Type 0
Gives o x y =
    TakesCommand seen orders asked o (site (store true x) None) new_mail (site (store true y) None) new_mail

-- the order is placed and stands in the journal at the position that is told; it isn't told where the tables stay, nor
-- at another one
a_command_is_taken_in : Gives (told.Committed 1) before after
    × SiteStep seen orders (event.Commits asked) (told.Committed 1) (site (store true before) None) new_mail
    (site (store true after) None) new_mail
    × (Gives (told.Committed 1) before before → ⊥) × (Gives (told.Committed 2) before after → ⊥)
a_command_is_taken_in =
    (placed, placed, λ h. stays h.result h.tells h.commits, λ h. elsewhere h.result h.tells h.commits)
  where
    placed : Gives (told.Committed 1) before after
    placed = record {
      result = Ok (record { pos = 1 });
      commits = record {
        call = ((refl, refl, refl, refl), refl);
        doubt = omega arith;
        clean = λ clean good. (a_placed_order_is_committed, taken_in);
      };
      tells = refl;
      after = (refl, refl);
    }

    stays : (r : Result Committed EndFault) → told.Committed 1 ≡ commit_told r
        → Commits (through seen) (store true before) (store true before) orders (command_row asked) r → ⊥
    stays (Ok c) tells commits =
        let more : 0 ≡ 1 =
        ap length (commits.clean refl (only before before_matches)).0.0.appended in omega (arith, more)
    stays (Err f) tells commits = no_fault (told.Committed 1) refl f tells

    elsewhere : (r : Result Committed EndFault) → told.Committed 2 ≡ commit_told r
        → Commits (through seen) (store true before) (store true after) orders (command_row asked) r → ⊥
    elsewhere (Ok c) tells commits =
        let first : c.pos ≡ 1 = (commits.clean refl (only before before_matches)).0.1 in
        let second : 2 ≡ c.pos = cc in omega (arith, first, second)
    elsewhere (Err f) tells commits = no_fault (told.Committed 2) refl f tells

-- ---- a store is opened anew

abbrev Finds : Failing Store → Type 0
Finds e = ReopensStore seen orders told.Reopened (site (store false before) None) new_mail (site e None) new_mail

-- tables of two rows
abbrev others : OrderTables
others = record after { journal = placing ∷ placing ∷ [] }

-- behind a failure it is usable, and has the tables that the failure left; it has no others, and isn't unusable as
-- before
a_store_is_opened_anew : Finds (store true after) × Finds (store true before) × (Finds (store true others) → ⊥)
    × (Finds (store false before) → ⊥)
a_store_is_opened_anew = (
  finds after (inr refl) (λ t left. inr left),
  finds before (inl refl) (λ t left. inl left),
  λ h. no_others h.result h.tells h.reopens,
  λ h. still_unusable h.result h.tells h.reopens,
)
  where
    finds : (x : OrderTables) → before_or_after x → ((t : OrderTables) → t ≡ x → before_or_after t)
        → Finds (store true x)
    finds x is may = record {
      result = Ok tt;
      reopens = record { call = (refl, refl, refl); doubt = omega arith; clean = λ clean. ∣ is ∣₁ };
      finds = λ clean t left. ∣ may t left ∣₁;
      tells = refl;
      after = (refl, refl);
    }

    neither : before_or_after others → ⊥
    neither (inl old) = let none : 2 ≡ 0 = ap rows old in omega (arith, none)
    neither (inr new) = let one : 2 ≡ 1 = ap rows new in omega (arith, one)

    no_others : (r : Result (Unit {0}) EndFault) → told.Reopened ≡ end_told (λ _. told.Reopened) r
        → Reopens (through seen) (store false before) (store true others) (end_of r) → ⊥
    no_others (Ok u) tells reopens = ∥∥₁_elim (reopens.clean refl) (λ a b. absurd a) neither
    no_others (Err f) tells reopens = no_fault told.Reopened refl f tells

    still_unusable : (r : Result (Unit {0}) EndFault) → told.Reopened ≡ end_told (λ _. told.Reopened) r
        → Reopens (through seen) (store false before) (store false before) (end_of r) → ⊥
    still_unusable (Ok u) tells reopens = let usable : false ≡ true = reopens.call.0 in absurd (cc)
    still_unusable (Err f) tells reopens = no_fault told.Reopened refl f tells

-- ---- a service is stopped

-- a mail whose broker has one session, with these octets for it; and the mail behind its end
abbrev pub served : List ℕ → Mail
served octets = record {
  broker = record no_session {
    sessions = record (new_session 1) { out = octets } ∷ [];
    opened = 1;
  };
  earlier = [];
}

abbrev pub left : Mail
left = record { broker = record no_session { opened = 1 }; earlier = [] }

abbrev opened : Option SiteChannel → ℕ
opened None = 0
opened (Some l) = 1

abbrev pub is_open : Service → ℕ
is_open s = opened s.zero

-- where a connection of that session is cut the session ends
pub cut_leaves : (c : Connection) (relay : Relay) (octets : List ℕ)
    → MailAfterCut (Some (record { connection = record c { session = 1 }; relay = relay })) (served octets) left
cut_leaves c relay octets =
    (Ok tt, record { deals = (record { handed = []; deals = refl; taken = refl }, refl); earlier = refl })

module _ (c : Connection) (relay : Relay) (octets : List ℕ) where
  abbrev l : SiteChannel
  l = record { connection = record c { session = 1 }; relay = relay }

  -- a store that is told to fail at its second call
  abbrev armed : Failing Store
  armed = record (store true after) { armed = Some (record { calls = 2; leaves = NewTables }) }

  abbrev Ends : Service → Mail → Type 0
  Ends t to = StopsSite seen orders told.Stopped (site armed (Some l)) (served octets) t to

  -- the connection is cut and its session ends, and the store isn't told to fail any more; neither the one nor the
  -- other stays
  a_service_is_stopped : Ends (site (store true after) None) left × (Ends (site armed None) left → ⊥)
      × (Ends (site (store true after) (Some l)) left → ⊥)
  a_service_is_stopped = (
    record {
      result = Ok tt;
      opened = armed;
      reopens = record { call = (refl, refl, refl); doubt = omega arith; clean = λ clean. ∣ refl ∣₁ };
      finds = λ clean t kept. ∣ kept ∣₁;
      tells = refl;
      cuts = record { between = left; zero = cut_leaves c relay octets; one = refl; site = refl };
    },
    λ h. let armed = ap (λ (s : Service). s.endpoint.armed) h.cuts.site in absurd (cc),
    λ h. let still : 1 ≡ 0 = ap is_open h.cuts.site in omega (arith, still),
  )

-- What each event tells of the three journals.
use Rattle.std.proofs.Common.{◌≡◌, ℕ, zero, suc, Option, List, [], ◌∷◌, ◌++◌, Some, None, refl, ap, sym, ◌∙◌, subst}
use Rattle.std.proofs.Common.{inl, inr, length}
use Rattle.std.proofs.lemmas.List.{append-nil}
use Rattle.activities.specs.declared.input.JournalRow.{JournalRow}
use Rattle.activities.specs.Service.{Service}
use Rattle.activities.proofs.Sameness.{either}
use Rattle.endpoint.specs.Deeds.{Kept, kept, Deed, Nothing, TakesIn, Holds, Settles, Did}
use Rattle.stomp_wire.specs.declared.wire.Way.{Way}
use Rattle.stomp_wire.specs.declared.wire.Way.TheVariants.{Up, Down}
use Rattle.schedule_text.specs.declared.event.ConnectionName.{ConnectionName}
use Rattle.schedule_text.specs.declared.event.ConnectionNumber.TheVariants.{Zero, One}
use Rattle.schedule_text.specs.declared.event.Event.{Event}
use Rattle.schedule_text.specs.declared.event.Event.TheVariants as event
use Rattle.schedule_text.specs.declared.event.SeatCommand.{SeatCommand}
use Rattle.schedule_text.specs.declared.event.ServiceName.{ServiceName}
use Rattle.schedule_text.specs.declared.event.ServiceName.TheVariants.{Purchasing, Warehouse, Billing}
use Rattle.schedule_text.specs.declared.outcome.Outcome.{Outcome}
use Rattle.schedule_text.specs.declared.outcome.Outcome.TheVariants as outcome
use Rattle.schedule_service.specs.Deeds.{Channels, SiteMay, channels_of, CameOn}
use Rattle.schedule_service.specs.SiteSteps.{command_row}
use Rattle.schedule_service.specs.SiteEvents.{Commits}
use Rattle.keep.specs.Seen.{Seen}
use Rattle.keep.specs.Tables.{Tables}
use Rattle.schedule_runner.specs.declared.acting.ServiceEvent.{ServiceEvent}
use Rattle.schedule_runner.specs.declared.acting.ServiceEvent.TheVariants.{Open, Cut, Fill, Resend, Carry, Take, Drain}
use Rattle.schedule_runner.specs.declared.acting.ServiceEvent.TheVariants.{Fail, Reopen, Stop}
use Rattle.schedule_runner.specs.Events.{asked_of}
use Rattle.schedule_runner.specs.Deeds.{Moment, In, TablesStep, Step, GoesBy, Goes}
use Rattle.schedule_runner.specs.Paths.{IsPath, Leads, Makes}
use Rattle.schedule_runner.specs.Rounds.{takes, connection_events, service_events, round_events, all_rounds, named}
use Rattle.schedule_runner.specs.declared.world.World.{World}
use Rattle.laws_stores.specs.Sight.{AllTables, OrderTables, StockTables, AccountTables}
use Rattle.laws_stores.specs.Sight.{orders_service, stocks_service, accounts_service}
use Rattle.schedule_runner.specs.Told.{commands_from, TellsCommand, RecordsTold, AllTold, Told, asks_orders}
use Rattle.schedule_runner.specs.Told.{asks_stocks, asks_accounts}
use Rattle.schedule_runner.proofs.Composing.{goes_map}
use Rattle.schedule_runner.proofs.Receiving.{frame_rests, held_rests}
use Rattle.schedule_runner.proofs.Resting.{IsNoCommand, nothing_is}
use Rattle.schedule_runner.proofs.Telling.{RecordsOne, AskNothing, nothing_append, told_nothing, path_told}

-- a journal that no command came to
abbrev pub RecordsNone : {C : Type 0} → (old new : List (JournalRow C)) → Type 0
RecordsNone {C} old new =
    (more : List (JournalRow C)) × (new ≡ old ++ more) × (commands_from (suc (length old)) more ≡ [])

same_journal : {C : Type 0} (x y : List (JournalRow C)) → y ≡ x → RecordsNone x y
same_journal x y e = ([], e ∙ sym (append-nil x), refl)

-- ---- deeds

no_command : {S C : Type 0} (s : Service S C) (x y : Kept C) (d : Deed C) → Did s x d y → IsNoCommand d
    → RecordsNone x.journal y.journal
no_command s x y Nothing did h = same_journal x.journal y.journal (ap (λ (k : Kept _). k.journal) did)
no_command s x y (TakesIn row) did h = (
  row ∷ [],
  did.0.appended,
  subst (λ r. commands_from (suc (length x.journal)) (r ∷ []) ≡ []) (sym h.1) refl,
)
no_command s x y (Holds l) did h = same_journal x.journal y.journal (ap (λ (k : Kept _). k.journal) did.2)
no_command s x y (Settles p n) did h = same_journal x.journal y.journal (ap (λ (k : Kept _). k.journal) did.2)

-- what the site's event does is no command
rests : {S C : Type 0} (s : Service S C) (channels : Channels) (e : ServiceEvent) (o : Outcome) (x : Kept C)
    (d : Deed C)
    → SiteMay s channels (asked_of e) o x d → IsNoCommand d
rests s channels (Open c) o x d may = nothing_is d may
rests s channels (Cut c) o x d may = nothing_is d may
rests s channels (Fill c n) o x d may = nothing_is d may
rests s channels (Resend c) o x d may = nothing_is d may
rests s channels (Carry c way most) o x d may = nothing_is d may
rests s channels (Fail n leaves) o x d may = nothing_is d may
rests s channels Reopen o x d may = nothing_is d may
rests s channels Stop o x d may = nothing_is d may
rests s channels (Take c) o x d may = frame_rests s (CameOn (channels c)) o x d may
rests s channels (Drain c) o x d may = held_rests s o x d may

-- a command: one that stands as it was told
abbrev CommitTells : {S C : Type 0} (s : Service S C) → SeatCommand C → Outcome → (x y : Kept C) → Type 0
CommitTells {S} {C} s asked o x y = (more : List (JournalRow C)) × (y.journal ≡ x.journal ++ more)
    × TellsCommand (Some asked) o (commands_from (suc (length x.journal)) more)

commit_tells : {S C : Type 0} (s : Service S C) (channels : Channels) (asked : SeatCommand C) (o : Outcome)
    (x y : Kept C) (d : Deed C)
    → SiteMay s channels (Commits asked) o x d → Did s x d y → CommitTells s asked o x y
commit_tells s channels asked (outcome.Committed pos) x y d may did =
    let h = subst (λ e. Did s x e y) may.0 did in
    (command_row asked ∷ [], h.0.appended, ap (λ (n : ℕ). (n, asked) ∷ []) (sym may.1))
commit_tells s channels asked (outcome.NotDone refusal) x y d may did =
    same_journal x.journal y.journal (ap (λ (k : Kept _). k.journal) (subst (λ e. Did s x e y) may.0 did))
commit_tells s channels asked (outcome.Refused n) x y d may did = either may
    (λ e. let h = same_journal x.journal y.journal (ap (λ (k : Kept _). k.journal) (subst (λ e. Did s x e y) e did)) in
    (h.0, h.1, inl h.2))
    (λ e. let h = subst (λ e. Did s x e y) e.1 did in
    (command_row asked ∷ [], h.0.appended, inr (e.0, suc (length x.journal), refl)))
commit_tells s channels asked outcome.Opened x y d may did = absurd may
commit_tells s channels asked outcome.Already x y d may did = absurd may
commit_tells s channels asked outcome.Closed x y d may did = absurd may
commit_tells s channels asked outcome.Cut x y d may did = absurd may
commit_tells s channels asked (outcome.Sent n) x y d may did = absurd may
commit_tells s channels asked outcome.Due x y d may did = absurd may
commit_tells s channels asked (outcome.Carried n) x y d may did = absurd may
commit_tells s channels asked outcome.Connected x y d may did = absurd may
commit_tells s channels asked (outcome.Receipt n) x y d may did = absurd may
commit_tells s channels asked (outcome.Handled n) x y d may did = absurd may
commit_tells s channels asked outcome.Repeated x y d may did = absurd may
commit_tells s channels asked outcome.Held x y d may did = absurd may
commit_tells s channels asked (outcome.Settled n) x y d may did = absurd may
commit_tells s channels asked (outcome.Error text) x y d may did = absurd may
commit_tells s channels asked outcome.Idle x y d may did = absurd may
commit_tells s channels asked (outcome.Drained p n) x y d may did = absurd may
commit_tells s channels asked (outcome.Again n) x y d may did = absurd may
commit_tells s channels asked outcome.Absent x y d may did = absurd may
commit_tells s channels asked outcome.Armed x y d may did = absurd may
commit_tells s channels asked outcome.Reopened x y d may did = absurd may
commit_tells s channels asked outcome.Stopped x y d may did = absurd may
commit_tells s channels asked outcome.Pumped x y d may did = absurd may
commit_tells s channels asked (outcome.Shown text) x y d may did = absurd may
commit_tells s channels asked (outcome.Agreement agree) x y d may did = absurd may

-- ---- events

-- of all three journals
abbrev AllNone : (x y : AllTables) → Type 0
AllNone x y =
    RecordsNone x.purchasing.journal y.purchasing.journal × RecordsNone x.warehouse.journal y.warehouse.journal
    × RecordsNone x.billing.journal y.billing.journal

abbrev AllOne : Event → Outcome → (x y : AllTables) → Type 0
AllOne e o x y = RecordsOne asks_orders e o x.purchasing.journal y.purchasing.journal
    × RecordsOne asks_stocks e o x.warehouse.journal y.warehouse.journal
    × RecordsOne asks_accounts e o x.billing.journal y.billing.journal

quiet_tables : {S C : Type 0} (s : Service S C) (channels : Channels) (e : ServiceEvent) (o : Outcome) (x y : Kept C)
    (d : Deed C)
    → SiteMay s channels (asked_of e) o x d → Did s x d y → RecordsNone x.journal y.journal
quiet_tables s channels e o x y d may did = no_command s x y d did (rests s channels e o x d may)

same_tables : (x y : AllTables) → y ≡ x → AllNone x y
same_tables x y e = (
  same_journal _ _ (ap (λ (t : AllTables). t.purchasing.journal) e),
  same_journal _ _ (ap (λ (t : AllTables). t.warehouse.journal) e),
  same_journal _ _ (ap (λ (t : AllTables). t.billing.journal) e),
)

module _ {KO KS KA : Type 0} where
  quiet : (service : ServiceName) (e : ServiceEvent) (o : Outcome) (a b : Moment KO KS KA) → In service e o a b
      → AllNone a.tables b.tables
  quiet Purchasing e o a b h = (
    quiet_tables orders_service (channels_of a.world.purchasing) e o (kept a.tables.purchasing)
        (kept b.tables.purchasing) h.0.0 h.0.1 h.0.2,
    same_journal a.tables.warehouse.journal b.tables.warehouse.journal (ap (λ (t : Tables _ _). t.journal) h.1),
    same_journal a.tables.billing.journal b.tables.billing.journal (ap (λ (t : Tables _ _). t.journal) h.2),
  )
  quiet Warehouse e o a b h = (
    same_journal a.tables.purchasing.journal b.tables.purchasing.journal (ap (λ (t : Tables _ _). t.journal) h.1),
    quiet_tables stocks_service (channels_of a.world.warehouse) e o (kept a.tables.warehouse) (kept b.tables.warehouse)
        h.0.0 h.0.1 h.0.2,
    same_journal a.tables.billing.journal b.tables.billing.journal (ap (λ (t : Tables _ _). t.journal) h.2),
  )
  quiet Billing e o a b h = (
    same_journal a.tables.purchasing.journal b.tables.purchasing.journal (ap (λ (t : Tables _ _). t.journal) h.1),
    same_journal a.tables.warehouse.journal b.tables.warehouse.journal (ap (λ (t : Tables _ _). t.journal) h.2),
    quiet_tables accounts_service (channels_of a.world.billing) e o (kept a.tables.billing) (kept b.tables.billing)
        h.0.0 h.0.1 h.0.2,
  )

  step_told : (e : Event) (o : Outcome) (a b : Moment KO KS KA) → TablesStep e o a b → AllOne e o a.tables b.tables
  step_told (event.Order asked) o a b h = (
    commit_tells orders_service (channels_of a.world.purchasing) asked o (kept a.tables.purchasing)
        (kept b.tables.purchasing) h.0.0 h.0.1
        h.0.2,
    same_journal a.tables.warehouse.journal b.tables.warehouse.journal (ap (λ (t : Tables _ _). t.journal) h.1),
    same_journal a.tables.billing.journal b.tables.billing.journal (ap (λ (t : Tables _ _). t.journal) h.2),
  )
  step_told (event.Stock asked) o a b h = (
    same_journal a.tables.purchasing.journal b.tables.purchasing.journal (ap (λ (t : Tables _ _). t.journal) h.1),
    commit_tells stocks_service (channels_of a.world.warehouse) asked o (kept a.tables.warehouse)
        (kept b.tables.warehouse) h.0.0 h.0.1 h.0.2,
    same_journal a.tables.billing.journal b.tables.billing.journal (ap (λ (t : Tables _ _). t.journal) h.2),
  )
  step_told (event.Account asked) o a b h = (
    same_journal a.tables.purchasing.journal b.tables.purchasing.journal (ap (λ (t : Tables _ _). t.journal) h.1),
    same_journal a.tables.warehouse.journal b.tables.warehouse.journal (ap (λ (t : Tables _ _). t.journal) h.2),
    commit_tells accounts_service (channels_of a.world.billing) asked o (kept a.tables.billing) (kept b.tables.billing)
        h.0.0 h.0.1 h.0.2,
  )
  step_told (event.Open c) o a b h = quiet c.service (Open c.number) o a b h
  step_told (event.Cut c) o a b h = quiet c.service (Cut c.number) o a b h
  step_told (event.Fill c limit) o a b h = quiet c.service (Fill c.number limit) o a b h
  step_told (event.Resend c) o a b h = quiet c.service (Resend c.number) o a b h
  step_told (event.Carry c way most) o a b h = quiet c.service (Carry c.number way most) o a b h
  step_told (event.Take c) o a b h = quiet c.service (Take c.number) o a b h
  step_told (event.Drain c) o a b h = quiet c.service (Drain c.number) o a b h
  step_told (event.Fail service n leaves) o a b h = quiet service (Fail n leaves) o a b h
  step_told (event.Reopen service) o a b h = quiet service Reopen o a b h
  step_told (event.Stop service) o a b h = quiet service Stop o a b h
  step_told (event.Pump rounds) o a b h = absurd h
  step_told (event.Repeat place) o a b h = same_tables a.tables b.tables h
  step_told event.StopBroker o a b h = same_tables a.tables b.tables h
  step_told (event.Show entity) o a b h = same_tables a.tables b.tables h
  step_told (event.Pair pair) o a b h = same_tables a.tables b.tables h
  step_told (event.Frames service) o a b h = same_tables a.tables b.tables h
  step_told (event.Journal service) o a b h = same_tables a.tables b.tables h
  step_told event.Agreement o a b h = same_tables a.tables b.tables h

-- ---- rounds ask for nothing

module _ {C : Type 0} (asks : Event → Option (SeatCommand C)) (fill : (c : ConnectionName) (n : ℕ)
    → asks (event.Fill c n) ≡ None)
    (carry : (c : ConnectionName) (way : Way) (n : ℕ) → asks (event.Carry c way n) ≡ None)
    (take : (c : ConnectionName) → asks (event.Take c) ≡ None) (drain : (c : ConnectionName)
    → asks (event.Drain c) ≡ None) where
  takes_nothing : (n : ℕ) (c : ConnectionName) → AskNothing asks (takes n c)
  takes_nothing zero c = tt
  takes_nothing (suc n) c = nothing_append asks (takes n c) (event.Take c ∷ []) (takes_nothing n c) (take c, tt)

  connection_nothing : (c : ConnectionName) → AskNothing asks (connection_events c)
  connection_nothing c = (fill c 64, (carry c Up 1048576, (carry c Down 1048576, takes_nothing 16 c)))

  service_nothing : (service : ServiceName) → AskNothing asks (service_events service)
  service_nothing service =
      nothing_append asks (connection_events (named service Zero) ++ connection_events (named service One))
      (event.Drain (named service Zero) ∷ [])
      (nothing_append asks (connection_events (named service Zero)) (connection_events (named service One))
      (connection_nothing (named service Zero)) (connection_nothing (named service One)))
      (drain (named service Zero), tt)

  round_nothing : AskNothing asks round_events
  round_nothing = nothing_append asks (service_events Purchasing ++ service_events Warehouse) (service_events Billing)
      (nothing_append asks (service_events Purchasing) (service_events Warehouse) (service_nothing Purchasing)
      (service_nothing Warehouse))
      (service_nothing Billing)

  rounds_nothing : (n : ℕ) → AskNothing asks (all_rounds n)
  rounds_nothing zero = tt
  rounds_nothing (suc n) = nothing_append asks (all_rounds n) round_events (rounds_nothing n) round_nothing

orders_rest : (n : ℕ) → AskNothing asks_orders (all_rounds n)
orders_rest n = rounds_nothing asks_orders (λ c n. refl) (λ c way n. refl) (λ c. refl) (λ c. refl) n

stocks_rest : (n : ℕ) → AskNothing asks_stocks (all_rounds n)
stocks_rest n = rounds_nothing asks_stocks (λ c n. refl) (λ c way n. refl) (λ c. refl) (λ c. refl) n

accounts_rest : (n : ℕ) → AskNothing asks_accounts (all_rounds n)
accounts_rest n = rounds_nothing asks_accounts (λ c n. refl) (λ c way n. refl) (λ c. refl) (λ c. refl) n

-- what is told of events that ask for nothing
none_told : {C : Type 0} (asks : Event → Option (SeatCommand C)) (es : List Event) (os : List Outcome)
    (x y : List (JournalRow C))
    → AskNothing asks es → RecordsTold asks es os x y → RecordsNone x y
none_told asks es os x y none h = (h.0, h.1, told_nothing asks es os _ none h.2)

module _ {KO KS KA : Type 0} (orders : KO → Seen OrderTables) (stocks : KS → Seen StockTables)
    (accounts : KA → Seen AccountTables) where
  abbrev M : Type 0
  M = Moment KO KS KA

  abbrev S : Event → Outcome → M → M → Type 0
  S = Step orders stocks accounts

  pumped : (n : ℕ) (a b : M) → Leads S (all_rounds n) a b → AllNone a.tables b.tables
  pumped n a b leads = (
    none_told asks_orders (all_rounds n) leads.0 _ _ (orders_rest n) (path_told S asks_orders
        (λ m. m.tables.purchasing.journal)
        (λ e o a b h. (step_told e o a b h.1).0) (all_rounds n) leads.0 a b leads.1),
    none_told asks_stocks (all_rounds n) leads.0 _ _ (stocks_rest n) (path_told S asks_stocks
        (λ m. m.tables.warehouse.journal)
        (λ e o a b h. (step_told e o a b h.1).1) (all_rounds n) leads.0 a b leads.1),
    none_told asks_accounts (all_rounds n) leads.0 _ _ (accounts_rest n) (path_told S asks_accounts
        (λ m. m.tables.billing.journal)
        (λ e o a b h. (step_told e o a b h.1).2) (all_rounds n) leads.0 a b leads.1),
  )

  -- ---- all events

  makes_told : (e : Event) (o : Outcome) (a b : M) → Makes S e o a b → AllOne e o a.tables b.tables
  makes_told (event.Pump rounds) o a b h = pumped rounds a b h.1
  makes_told (event.Order asked) o a b h = step_told (event.Order asked) o a b h.1
  makes_told (event.Stock asked) o a b h = step_told (event.Stock asked) o a b h.1
  makes_told (event.Account asked) o a b h = step_told (event.Account asked) o a b h.1
  makes_told (event.Open c) o a b h = step_told (event.Open c) o a b h.1
  makes_told (event.Cut c) o a b h = step_told (event.Cut c) o a b h.1
  makes_told (event.Fill c limit) o a b h = step_told (event.Fill c limit) o a b h.1
  makes_told (event.Resend c) o a b h = step_told (event.Resend c) o a b h.1
  makes_told (event.Carry c way most) o a b h = step_told (event.Carry c way most) o a b h.1
  makes_told (event.Take c) o a b h = step_told (event.Take c) o a b h.1
  makes_told (event.Drain c) o a b h = step_told (event.Drain c) o a b h.1
  makes_told (event.Fail service n leaves) o a b h = step_told (event.Fail service n leaves) o a b h.1
  makes_told (event.Reopen service) o a b h = step_told (event.Reopen service) o a b h.1
  makes_told (event.Stop service) o a b h = step_told (event.Stop service) o a b h.1
  makes_told (event.Repeat place) o a b h = step_told (event.Repeat place) o a b h.1
  makes_told event.StopBroker o a b h = step_told event.StopBroker o a b h.1
  makes_told (event.Show entity) o a b h = step_told (event.Show entity) o a b h.1
  makes_told (event.Pair pair) o a b h = step_told (event.Pair pair) o a b h.1
  makes_told (event.Frames service) o a b h = step_told (event.Frames service) o a b h.1
  makes_told (event.Journal service) o a b h = step_told (event.Journal service) o a b h.1
  makes_told event.Agreement o a b h = step_told event.Agreement o a b h.1

  -- what a schedule's outcomes tell of all three journals
  all_told : (es : List Event) (os : List Outcome) (a b : M) → IsPath (Makes S) es os a b
      → AllTold es os a.tables b.tables
  all_told es os a b path = record {
    purchasing = path_told (Makes S) asks_orders (λ m. m.tables.purchasing.journal)
        (λ e o a b h. (makes_told e o a b h).0) es os a b path;
    warehouse = path_told (Makes S) asks_stocks (λ m. m.tables.warehouse.journal)
        (λ e o a b h. (makes_told e o a b h).1) es os a b path;
    billing = path_told (Makes S) asks_accounts (λ m. m.tables.billing.journal) (λ e o a b h. (makes_told e o a b h).2)
        es os a b path;
  }

  -- and those of one event that is no pump
  step_all_told : (e : Event) (o : Outcome) (a b : M) → S e o a b → AllTold (e ∷ []) (o ∷ []) a.tables b.tables
  step_all_told e o a b step = record {
    purchasing = path_told S asks_orders (λ m. m.tables.purchasing.journal) (λ e o a b h. (step_told e o a b h.1).0)
        (e ∷ []) (o ∷ []) a b (b, step, refl);
    warehouse = path_told S asks_stocks (λ m. m.tables.warehouse.journal) (λ e o a b h. (step_told e o a b h.1).1)
        (e ∷ []) (o ∷ []) a b (b, step, refl);
    billing = path_told S asks_accounts (λ m. m.tables.billing.journal) (λ e o a b h. (step_told e o a b h.1).2)
        (e ∷ []) (o ∷ []) a b (b, step, refl);
  }

  pub event_told : (e : Event) (o : Outcome) (old new : World KO KS KA) → GoesBy orders stocks accounts (S e o) old new
      → Told orders stocks accounts (e ∷ []) (o ∷ []) old new
  event_told e o =
      goes_map orders stocks accounts (S e o) (λ a b. AllTold (e ∷ []) (o ∷ []) a.tables b.tables) (step_all_told e o)

  pub goes_told : (es : List Event) (os : List Outcome) (old new : World KO KS KA)
      → Goes orders stocks accounts es os old new
      → Told orders stocks accounts es os old new
  goes_told es os =
      goes_map orders stocks accounts (IsPath (Makes S) es os) (λ a b. AllTold es os a.tables b.tables) (all_told es os)

-- What an event does to the world, by its outcome.
use Rattle.std.specs.Prelude.{◌≡◌, ℕ, Option, Some, None, Result, Ok, Err}
use Rattle.keep.specs.Seen.{Seen}
use Rattle.schedule_mail.specs.Mails.{Mail, restarted}
use Rattle.schedule_mail.specs.RepeatFaults.{repeat_fault_number}
use Rattle.schedule_mail.specs.declared.repeat_fault.RepeatFault.{RepeatFault}
use Rattle.schedule_mail.specs.Repeating.{Repeats}
use Rattle.schedule_text.specs.declared.event.Event.{Event}
use Rattle.schedule_text.specs.declared.event.Event.TheVariants as event
use Rattle.schedule_text.specs.declared.event.ServiceName.{ServiceName}
use Rattle.schedule_text.specs.declared.event.ServiceName.TheVariants.{Purchasing, Warehouse, Billing}
use Rattle.schedule_text.specs.declared.outcome.Outcome.{Outcome}
use Rattle.schedule_text.specs.declared.outcome.Outcome.TheVariants.{Again, Absent, Stopped, Refused}
use Rattle.schedule_service.specs.SiteSteps.{SiteStep}
use Rattle.schedule_service.specs.Channels.{CutsBoth}
use Rattle.schedule_service.specs.SiteEvents.{SiteEvent, Commits}
use Rattle.trade.specs.declared.commands.OrderCommand.{OrderCommand}
use Rattle.trade.specs.declared.commands.StockCommand.{StockCommand}
use Rattle.trade.specs.declared.commands.AccountCommand.{AccountCommand}
use Rattle.schedule_runner.specs.declared.acting.ServiceEvent.{ServiceEvent}
use Rattle.schedule_runner.specs.declared.acting.ServiceEvent.TheVariants.{Open, Cut, Fill, Resend, Carry, Take, Drain}
use Rattle.schedule_runner.specs.declared.acting.ServiceEvent.TheVariants.{Fail, Reopen, Stop}
use Rattle.schedule_runner.specs.declared.looking.Listing.TheVariants.{Frames, Journal}
use Rattle.schedule_runner.specs.declared.world.World.{World}
use Rattle.schedule_runner.specs.Events.{asked_of}
use Rattle.schedule_runner.specs.Agreeing.{TellsAgreement}
use Rattle.schedule_runner.specs.Shows.{TellsReading, RowOf, ListOf, ShowsPair}
use Rattle.laws_stores.specs.Sight.{OrderTables, StockTables, AccountTables, orders_service, stocks_service}
use Rattle.laws_stores.specs.Sight.{accounts_service}

-- what a repetition is answered
abbrev pub again : Result (Option ℕ) RepeatFault → Outcome
again (Ok (Some number)) = Again number
again (Ok None) = Absent
again (Err fault) = Refused (repeat_fault_number fault)

-- an accepted message is sent again
abbrev pub SendsAgain : ℕ → Outcome → (mail later : Mail) → Type 0
SendsAgain place o mail later =
    (result : Result (Option ℕ) RepeatFault) × Repeats place mail later result × (o ≡ again result)

-- a new broker begins; or memory was refused, and the old one stays
abbrev pub IsNewBroker : Outcome → (mail later : Mail) → Type 0
IsNewBroker Stopped mail later = later ≡ restarted mail
IsNewBroker (Refused n) mail later = (n ≡ 34) × (later ≡ mail)
IsNewBroker _ mail later = ⊥

module _ {KO KS KA : Type 0} where
  -- the mail alone, and all services are as they were
  abbrev pub AtMail : ((mail later : Mail) → Type 0) → (a b : World KO KS KA) → Type 0
  AtMail R a b = R a.mail b.mail × (b.purchasing ≡ a.purchasing) × (b.warehouse ≡ a.warehouse) × (b.billing ≡ a.billing)

  -- all connections are cut, one service after another, and then a new broker begins
  abbrev pub BeginsAnew : Outcome → (a b : World KO KS KA) → Type 0
  BeginsAnew o a b = (one two three : Mail) × CutsBoth a.purchasing a.mail b.purchasing one
      × CutsBoth a.warehouse one b.warehouse two
      × CutsBoth a.billing two b.billing three × IsNewBroker o three b.mail

module _ {KO KS KA : Type 0} (orders : KO → Seen OrderTables) (stocks : KS → Seen StockTables)
    (accounts : KA → Seen AccountTables) where
  -- one service acts, with the mail, and the other two are as they were
  abbrev pub AtPurchasing : SiteEvent OrderCommand → Outcome → (a b : World KO KS KA) → Type 0
  AtPurchasing e o a b = SiteStep orders orders_service e o a.purchasing a.mail b.purchasing b.mail
      × (b.warehouse ≡ a.warehouse) × (b.billing ≡ a.billing)

  abbrev pub AtWarehouse : SiteEvent StockCommand → Outcome → (a b : World KO KS KA) → Type 0
  AtWarehouse e o a b = SiteStep stocks stocks_service e o a.warehouse a.mail b.warehouse b.mail
      × (b.purchasing ≡ a.purchasing) × (b.billing ≡ a.billing)

  abbrev pub AtBilling : SiteEvent AccountCommand → Outcome → (a b : World KO KS KA) → Type 0
  AtBilling e o a b = SiteStep accounts accounts_service e o a.billing a.mail b.billing b.mail
      × (b.purchasing ≡ a.purchasing) × (b.warehouse ≡ a.warehouse)

  -- an event of this service, which isn't a command
  abbrev pub At : ServiceName → ServiceEvent → Outcome → (a b : World KO KS KA) → Type 0
  At Purchasing e o = AtPurchasing (asked_of e) o
  At Warehouse e o = AtWarehouse (asked_of e) o
  At Billing e o = AtBilling (asked_of e) o

  -- what one event but a pump does
  abbrev pub WorldStep : Event → Outcome → (a b : World KO KS KA) → Type 0
  WorldStep (event.Order asked) o = AtPurchasing (Commits asked) o
  WorldStep (event.Stock asked) o = AtWarehouse (Commits asked) o
  WorldStep (event.Account asked) o = AtBilling (Commits asked) o
  WorldStep (event.Open c) o = At c.service (Open c.number) o
  WorldStep (event.Cut c) o = At c.service (Cut c.number) o
  WorldStep (event.Fill c limit) o = At c.service (Fill c.number limit) o
  WorldStep (event.Resend c) o = At c.service (Resend c.number) o
  WorldStep (event.Carry c way most) o = At c.service (Carry c.number way most) o
  WorldStep (event.Take c) o = At c.service (Take c.number) o
  WorldStep (event.Drain c) o = At c.service (Drain c.number) o
  WorldStep (event.Fail service n leaves) o = At service (Fail n leaves) o
  WorldStep (event.Reopen service) o = At service Reopen o
  WorldStep (event.Stop service) o = At service Stop o
  WorldStep (event.Repeat place) o = AtMail (SendsAgain place o)
  WorldStep event.StopBroker o = BeginsAnew o
  WorldStep (event.Pump rounds) o = λ a b. ⊥
  WorldStep (event.Show e) o = TellsReading (RowOf orders stocks accounts e.kind e) o
  WorldStep (event.Pair p) o = ShowsPair orders stocks accounts p o
  WorldStep (event.Frames service) o = TellsReading (ListOf orders stocks accounts service Frames) o
  WorldStep (event.Journal service) o = TellsReading (ListOf orders stocks accounts service Journal) o
  WorldStep event.Agreement o = TellsAgreement orders stocks accounts o

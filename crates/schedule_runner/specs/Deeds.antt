-- What an event does to the tables of the three services, by its outcome.
use Rattle.std.specs.Prelude.{◌≡◌, List}
use Rattle.activities.specs.Service.{Service}
use Rattle.trade.specs.declared.commands.OrderCommand.{OrderCommand}
use Rattle.trade.specs.declared.commands.StockCommand.{StockCommand}
use Rattle.trade.specs.declared.commands.AccountCommand.{AccountCommand}
use Rattle.keep.specs.Seen.{Seen}
use Rattle.keep.specs.Tables.{Tables}
use Rattle.endpoint.specs.Deeds.{kept, Deed, Did}
use Rattle.schedule_text.specs.declared.event.Event.{Event}
use Rattle.schedule_text.specs.declared.event.Event.TheVariants as event
use Rattle.schedule_text.specs.declared.event.ServiceName.{ServiceName}
use Rattle.schedule_text.specs.declared.event.ServiceName.TheVariants.{Purchasing, Warehouse, Billing}
use Rattle.schedule_text.specs.declared.outcome.Outcome.{Outcome}
use Rattle.schedule_service.specs.Deeds.{Channels, SiteMay, channels_of}
use Rattle.schedule_service.specs.SiteEvents.{SiteEvent, Commits}
use Rattle.schedule_runner.specs.declared.acting.ServiceEvent.{ServiceEvent}
use Rattle.schedule_runner.specs.declared.acting.ServiceEvent.TheVariants.{Open, Cut, Fill, Resend, Carry, Take, Drain}
use Rattle.schedule_runner.specs.declared.acting.ServiceEvent.TheVariants.{Fail, Reopen, Stop}
use Rattle.schedule_runner.specs.declared.world.World.{World}
use Rattle.schedule_runner.specs.Events.{asked_of}
use Rattle.schedule_runner.specs.Paths.{IsPath, Makes}
use Rattle.laws_stores.specs.Sight.{AllTables, OrderTables, StockTables, AccountTables}
use Rattle.laws_stores.specs.Sight.{orders_service, stocks_service, accounts_service}
use Rattle.laws_stores.specs.Sight.{AreClean, AreMatching, MayLeave}
use Rattle.schedule_runner.specs.Sight.{sight}
use Rattle.schedule_runner.specs.Steps.{WorldStep}

-- the world, and with it tables of each service that a stop may leave
pub record Moment (KO KS KA : Type 0) : Type 0 where
  pub world : World KO KS KA
  pub tables : AllTables

abbrev pub moment : {KO KS KA : Type 0} → World KO KS KA → AllTables → Moment KO KS KA
moment w t = record { world = w; tables = t }

-- a deed that this event and its outcome allow leads from tables to these
abbrev pub AllowedDeed : {S C : Type 0} → Service S C → Channels → SiteEvent C → Outcome → Tables S C → Tables S C
    → Type 0
AllowedDeed {S} {C} service channels e o x y =
    (d : Deed C) × SiteMay service channels e o (kept x) d × Did service (kept x) d (kept y)

module _ {KO KS KA : Type 0} where
  -- one service moves, and the tables of the others stay as they are
  abbrev pub InPurchasing : SiteEvent OrderCommand → Outcome → (a b : Moment KO KS KA) → Type 0
  InPurchasing e o a b =
      AllowedDeed orders_service (channels_of a.world.purchasing) e o a.tables.purchasing b.tables.purchasing
      × (b.tables.warehouse ≡ a.tables.warehouse) × (b.tables.billing ≡ a.tables.billing)

  abbrev pub InWarehouse : SiteEvent StockCommand → Outcome → (a b : Moment KO KS KA) → Type 0
  InWarehouse e o a b = AllowedDeed stocks_service (channels_of a.world.warehouse) e o a.tables.warehouse
      b.tables.warehouse
      × (b.tables.purchasing ≡ a.tables.purchasing) × (b.tables.billing ≡ a.tables.billing)

  abbrev pub InBilling : SiteEvent AccountCommand → Outcome → (a b : Moment KO KS KA) → Type 0
  InBilling e o a b = AllowedDeed accounts_service (channels_of a.world.billing) e o a.tables.billing b.tables.billing
      × (b.tables.purchasing ≡ a.tables.purchasing) × (b.tables.warehouse ≡ a.tables.warehouse)

  -- an event of this service, which isn't a command
  abbrev pub In : ServiceName → ServiceEvent → Outcome → (a b : Moment KO KS KA) → Type 0
  In Purchasing e o = InPurchasing (asked_of e) o
  In Warehouse e o = InWarehouse (asked_of e) o
  In Billing e o = InBilling (asked_of e) o

  -- no table changes
  abbrev pub Same : (a b : Moment KO KS KA) → Type 0
  Same a b = b.tables ≡ a.tables

  -- what one event but a pump does to the tables
  abbrev pub TablesStep : Event → Outcome → (a b : Moment KO KS KA) → Type 0
  TablesStep (event.Order asked) o = InPurchasing (Commits asked) o
  TablesStep (event.Stock asked) o = InWarehouse (Commits asked) o
  TablesStep (event.Account asked) o = InBilling (Commits asked) o
  TablesStep (event.Open c) o = In c.service (Open c.number) o
  TablesStep (event.Cut c) o = In c.service (Cut c.number) o
  TablesStep (event.Fill c limit) o = In c.service (Fill c.number limit) o
  TablesStep (event.Resend c) o = In c.service (Resend c.number) o
  TablesStep (event.Carry c way most) o = In c.service (Carry c.number way most) o
  TablesStep (event.Take c) o = In c.service (Take c.number) o
  TablesStep (event.Drain c) o = In c.service (Drain c.number) o
  TablesStep (event.Fail service n leaves) o = In service (Fail n leaves) o
  TablesStep (event.Reopen service) o = In service Reopen o
  TablesStep (event.Stop service) o = In service Stop o
  TablesStep (event.Pump rounds) o = λ a b. ⊥
  TablesStep _ o = Same

module _ {KO KS KA : Type 0} (orders : KO → Seen OrderTables) (stocks : KS → Seen StockTables)
    (accounts : KA → Seen AccountTables) where
  -- what the event does to the world, and to the tables
  abbrev pub Step : Event → Outcome → (a b : Moment KO KS KA) → Type 0
  Step e o a b = WorldStep orders stocks accounts e o a.world b.world × TablesStep e o a b

  -- tables now come so of some that a stop might leave before
  pub record LedBy (Leads : (a b : Moment KO KS KA) → Type 0) (old new : World KO KS KA) (now : AllTables) : Type 0
    where
      pub before : AllTables
      pub was : MayLeave (sight orders stocks accounts old) before
      pub leads : Leads (moment old before) (moment new now)

  -- so do all that a stop may leave now
  abbrev pub GoesBy : ((a b : Moment KO KS KA) → Type 0) → (old new : World KO KS KA) → Type 0
  GoesBy Leads old new = AreClean (sight orders stocks accounts new) → AreMatching (sight orders stocks accounts old)
      → (t : AllTables) → MayLeave (sight orders stocks accounts new) t → ∥ LedBy Leads old new t ∥₁

  -- by what these events do with these outcomes
  abbrev pub Goes : List Event → List Outcome → (old new : World KO KS KA) → Type 0
  Goes events outcomes old new = GoesBy (IsPath (Makes Step) events outcomes) old new

-- Tables that a run may begin with, and leaves.
use Rattle.std.specs.Prelude.{◌≡◌, List}
use Rattle.keep.specs.Seen.{Seen}
use Rattle.endpoint.specs.Matches.{TablesMatchJournal}
use Rattle.laws_journals.specs.Envelopes.{SettledAreHandled}
use Rattle.laws_journals.specs.Journals.{AreLawful}
use Rattle.laws_stores.specs.Good.{journals_of, settled_in, HoldsAuthentic}
use Rattle.laws_stores.specs.Sight.{AllTables, OrderTables, StockTables, AccountTables, MayLeave}
use Rattle.laws_stores.specs.Sight.{orders_service, stocks_service, accounts_service}
use Rattle.schedule_text.specs.declared.event.Event.{Event}
use Rattle.schedule_text.specs.declared.outcome.Outcome.{Outcome}
use Rattle.schedule_runner.specs.Sight.{sight}
use Rattle.schedule_runner.specs.Told.{AllTold}
use Rattle.schedule_runner.specs.declared.world.World.{World}
use Rattle.programs.specs.Runs.{IsGoodStart, IsGoodEnd}

-- Each service's tables match its journal, and the three journals are lawful together; what is marked as settled was
-- handled, and each letter that is held is what its sender's journal sends. Empty tables are so.
pub record AreGood (t : AllTables) : Type 0 where
  pub purchasing : TablesMatchJournal orders_service t.purchasing
  pub warehouse : TablesMatchJournal stocks_service t.warehouse
  pub billing : TablesMatchJournal accounts_service t.billing
  pub lawful : AreLawful (journals_of t)
  pub settled : SettledAreHandled (journals_of t) (settled_in t)
  pub held : HoldsAuthentic t

module _ {KO KS KA : Type 0} (orders : KO → Seen OrderTables) (stocks : KS → Seen StockTables)
    (accounts : KA → Seen AccountTables) where
  -- A run that began with these tables, which are a good start, and has a good end. Whatever a stop leaves of it is good,
  -- and has the commands behind these tables that the outcomes tell.
  pub record GoesOn (left : AllTables) (events : List Event) (outcomes : List Outcome) (first last : World KO KS KA)
      : Type 0 where
    pub found : (t : AllTables) → MayLeave (sight orders stocks accounts first) t → t ≡ left
    pub start : IsGoodStart (sight orders stocks accounts first)
    pub end : IsGoodEnd orders stocks accounts events outcomes first last
    pub leaves : (t : AllTables) → MayLeave (sight orders stocks accounts last) t → AreGood t
    pub told : (t : AllTables) → MayLeave (sight orders stocks accounts last) t → ∥ AllTold events outcomes left t ∥₁

-- What running events tells: three services over their stores, and the mail between them.
use Rattle.std.specs.Prelude.{◌≡◌, ℕ, List, Option, None, Result, Ok, Err}
use Rattle.keep.specs.Seen.{Seen}
use Rattle.schedule_text.specs.declared.event.Event.{Event}
use Rattle.schedule_text.specs.declared.outcome.Outcome.{Outcome}
use Rattle.schedule_mail.specs.Mails.{new_mail}
use Rattle.laws_stores.specs.Sight.{AllTables, Sight, OrderTables, StockTables, AccountTables, AreClean, AreMatching}
use Rattle.laws_stores.specs.Good.{IsGood, AllAgree}
use Rattle.laws_stores.specs.Deeds.{ComesOf}
use Rattle.schedule_runner.specs.Good.{IsGoodWorld}
use Rattle.schedule_runner.specs.Passing.{Passed}
use Rattle.schedule_runner.specs.Paths.{IsPath, Makes}
use Rattle.schedule_runner.specs.Sight.{sight, StaysClean}
use Rattle.schedule_runner.specs.Told.{AllTold}
use Rattle.schedule_runner.specs.declared.world.World.{World}
use Rattle.schedule_io.specs.Ends.{IsRunOf}
use Rattle.schedule_io.specs.Opened.{AreOpened}
use Rattle.schedule_io.specs.declared.fault.RunFault.{RunFault}
use Rattle.schedule_io.specs.declared.fault.StoresFault.{StoresFault}

-- A good start: the tables that were found match their journals, and those of all three are good together. Empty tables
-- are so, and those that a good end left.
pub record IsGoodStart (s : Sight) : Type 0 where
  pub matching : AreMatching s
  pub good : IsGood s

module _ {KO KS KA : Type 0} (orders : KO → Seen OrderTables) (stocks : KS → Seen StockTables)
    (accounts : KA → Seen AccountTables) where
  -- where a schedule begins: the stores were opened, no connection is open, and the broker accepted nothing
  pub record IsBeginning (Found : AllTables → Type 0) (world : World KO KS KA) : Type 0 where
    pub stores : AreOpened Found (sight orders stocks accounts world)
    pub purchasing : (world.purchasing.zero ≡ None) × (world.purchasing.one ≡ None)
    pub warehouse : (world.warehouse.zero ≡ None) × (world.warehouse.one ≡ None)
    pub billing : (world.billing.zero ≡ None) × (world.billing.one ≡ None)
    pub mail : world.mail ≡ new_mail

  -- A good end of these events: at the beginning as in the end the world is good; in the end the tables match the
  -- journals, the partners of each order agree, and of each stock and each account nothing is lost or used twice; and
  -- behind what was found, the commands that stand in the journals are those that the outcomes tell.
  pub record IsGoodEnd (events : List Event) (outcomes : List Outcome) (first last : World KO KS KA) : Type 0 where
    pub began : IsGoodWorld orders stocks accounts first
    pub good : IsGoodWorld orders stocks accounts last
    pub matching : AreMatching (sight orders stocks accounts last)
    pub agree : AllAgree (sight orders stocks accounts last)
    pub told : ComesOf (AllTold events outcomes) (sight orders stocks accounts first)
        (sight orders stocks accounts last)

  -- These events were made one after another, each with its outcome: what happened is what the outcomes say, step by
  -- step, and what held before a step holds behind it. Where no file is in doubt in the end, none was at the beginning;
  -- and where the start was good too, the end is.
  pub record HasRun (Found : AllTables → Type 0) (events : List Event) (outcomes : List Outcome) : Type 0 where
    pub first : World KO KS KA
    pub last : World KO KS KA
    pub began : IsBeginning Found first
    pub passed : IsPath (Makes (Passed orders stocks accounts)) events outcomes first last
    pub clean : StaysClean orders stocks accounts first last
    pub ended : IsGoodStart (sight orders stocks accounts first) → AreClean (sight orders stocks accounts last)
        → IsGoodEnd events outcomes first last

  -- a run in which the last of these events left this world
  abbrev pub HasLeft : (Found : AllTables → Type 0) → (left : World KO KS KA) → List Event → List Outcome → Type 0
  HasLeft Found left events outcomes = (run : HasRun Found events outcomes) × (run.last ≡ left)

  -- what running a text returns: the world that the last of its events left, or why not all of them were made
  abbrev pub RunsText : (Found : AllTables → Type 0) → (Fails : StoresFault → Type 0) → (text : List ℕ)
      → (old new : Option (List ℕ)) → Result (World KO KS KA) RunFault → Type 0
  RunsText Found Fails text old new (Ok left) = IsRunOf (HasLeft Found left) Fails text old new (Ok tt)
  RunsText Found Fails text old new (Err fault) = IsRunOf (HasRun Found) Fails text old new (Err fault)

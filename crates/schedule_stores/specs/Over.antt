-- Runs over three stores that were opened.
use Rattle.std.specs.Prelude.{◌≡◌, List}
use Rattle.keep.specs.Seen.{Seen}
use Rattle.laws_stores.specs.Sight.{OrderTables, StockTables, AccountTables}
use Rattle.schedule_text.specs.declared.event.Event.{Event}
use Rattle.schedule_text.specs.declared.outcome.Outcome.{Outcome}
use Rattle.schedule_io.specs.Opened.{AreLeftBy, shown}
use Rattle.programs.specs.Runs.{HasRun}

-- tables that a stop may leave of a store that isn't in doubt
abbrev pub IsLeftBy : {T : Type 0} → Seen T → T → Type 0
IsLeftBy s t = (s.doubt ≡ 0) × s.may_leave t

-- what happened over three stores that were opened, of which it's known what a stop may leave of them
abbrev pub RunsOver : {KO KS KA : Type 0} → (KO → Seen OrderTables) → (KS → Seen StockTables) → (KA → Seen AccountTables)
    → KO × KS × KA → List Event → List Outcome → Type 0
RunsOver order stock account keeps = HasRun order stock account (AreLeftBy (shown order stock account keeps))

-- What is known of runs over files that were opened.
use Rattle.std.proofs.Common.{ℕ, List, Option, Result, sym, subst}
use Rattle.std.specs.Prelude.{⊤}
use Rattle.keep.specs.Seen.{Seen}
use Rattle.laws_stores.specs.Sight.{AllTables, OrderTables, StockTables, AccountTables}
use Rattle.schedule_text.specs.declared.event.Event.{Event}
use Rattle.sqlite_wal.specs.Recovery.{Image}
use Rattle.keep_sqlite.specs.Accounts.{accounts}
use Rattle.keep_sqlite.specs.Found.{IsFoundIn}
use Rattle.keep_sqlite.specs.Orders.{orders}
use Rattle.keep_sqlite.specs.Stocks.{stocks}
use Rattle.programs.proofs.Beginnings.{run_as}
use Rattle.schedule_io.proofs.Endings.{are_run_as}
use Rattle.schedule_io.specs.Ends.{AreRun}
use Rattle.schedule_io.specs.Opened.{AreLeftBy, shown}
use Rattle.programs.specs.Runs.{HasRun}
use Rattle.schedule_io.specs.declared.fault.RunFault.{RunFault}
use Rattle.schedule_program.specs.Files.{AreFoundIn, IsOpenedWith}
use Rattle.schedule_stores.specs.Over.{IsLeftBy, RunsOver}

-- of a store that was opened with such tables a stop leaves no others
found_left : {T : Type 0} (Has : T → Type 0) (s : Seen T) → IsOpenedWith Has s → (t : T) → IsLeftBy s t → Has t
found_left Has s opened t left =
    subst Has (sym (opened.sound.only_now left.0 opened.opened.usable t left.1)) (opened.found left.0)

module _ {KO KS KA : Type 0} (order : KO → Seen OrderTables) (stock : KS → Seen StockTables)
    (account : KA → Seen AccountTables) (p w b : Image) (keeps : KO × KS × KA)
    (one : IsOpenedWith (IsFoundIn orders p) (order keeps.0)) (two : IsOpenedWith (IsFoundIn stocks w) (stock keeps.1))
    (three : IsOpenedWith (IsFoundIn accounts b) (account keeps.2)) where
  files_left : (t : AllTables) → AreLeftBy (shown order stock account keeps) t → AreFoundIn p w b t
  files_left t left = record {
    orders = found_left (IsFoundIn orders p) (order keeps.0) one t.purchasing (left.0.0, left.1.purchasing);
    stocks = found_left (IsFoundIn stocks w) (stock keeps.1) two t.warehouse (left.0.1, left.1.warehouse);
    accounts = found_left (IsFoundIn accounts b) (account keeps.2) three t.billing (left.0.2, left.1.billing);
  }

  -- a run over what a stop may leave of files is one over what they are found to hold
  pub run_over_files : (events : List Event) (out out' : Option (List ℕ)) (r : Result Unit RunFault)
      → AreRun (RunsOver order stock account keeps) (λ _. ⊥) events out out' r
      → AreRun (HasRun order stock account (AreFoundIn p w b)) (λ _. ⊤) events out out' r
  run_over_files = are_run_as (RunsOver order stock account keeps) (HasRun order stock account (AreFoundIn p w b))
      (λ _. ⊥) (λ _. ⊤)
      (run_as order stock account (AreLeftBy (shown order stock account keeps)) (AreFoundIn p w b) files_left)
      (λ fault no. absurd no)

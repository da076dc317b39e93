use Rattle.std.proofs.Common.{Ok, Err}
use Rattle.std.proofs.lemmas.Result.{err_from_is_err_and}
use Rattle.programs.proofs.Beginnings.{run_found, left_found, ran}
use Rattle.schedule_io.proofs.Endings.{are_run_as, run_told, unread}
use Rattle.schedule_io.specs.Opened.{AreLeftBy, shown}
use Rattle.programs.specs.Runs.{HasRun, HasLeft}
use Rattle.programs.proofs.schedule.run_text.Goals as goal

pub returns-in_err-events : goal.returns-in_err-events
returns-in_err-events g c =
    let run = HasRun g.S.Orders.Keep.seen g.S.Stocks.Keep.seen g.S.Accounts.Keep.seen g.S.Stores.found in
    let p = err_from_is_err_and c.from_residual.result c.from_residual.ensures.1 in
    rw (p.1, p.2) (unread run g.S.Stores.fails c.args.text.now (g.W.Write.contents c.args.out.now)
    c.in_err-events.field-0.0
    c.in_err-events.ensures)

pub returns-in-Ok : goal.returns-in-Ok
returns-in-Ok g c =
    let orders = g.S.Orders.Keep.seen in
    let stocks = g.S.Stocks.Keep.seen in
    let accounts = g.S.Accounts.Keep.seen in
    let found = g.S.Stores.found in
    let fails = g.S.Stores.fails in
    let sight = shown orders stocks accounts c.in_ok-keeps.keeps in
    let left = c.run_events-world.result.0 in
    let out = g.W.Write.contents c.args.out.now in
    let out' = g.W.Write.contents c.run_events-world.new.out in
    let events = c.in_ok-events.events.items in
    run_told (HasLeft orders stocks accounts found left) fails c.args.text.now events out out' (Ok tt)
    c.in_ok-events.ensures
    (are_run_as (HasLeft orders stocks accounts (AreLeftBy sight) left) (HasLeft orders stocks accounts found left)
    (λ _. ⊥) fails
    (left_found orders stocks accounts found sight c.in_ok-keeps.ensures.opened left) (λ fault no. absurd no)
    events out out' (Ok tt) (rw c.in-Ok.is at c.run_events-world.ensures))

pub returns-in-Err : goal.returns-in-Err
returns-in-Err g c =
    let orders = g.S.Orders.Keep.seen in
    let stocks = g.S.Stocks.Keep.seen in
    let accounts = g.S.Accounts.Keep.seen in
    let found = g.S.Stores.found in
    let run = HasRun orders stocks accounts found in
    let fails = g.S.Stores.fails in
    let sight = shown orders stocks accounts c.in_ok-keeps.keeps in
    let out = g.W.Write.contents c.args.out.now in
    let out' = g.W.Write.contents c.run_events-world.new.out in
    let events = c.in_ok-events.events.items in
    let made = ran orders stocks accounts (AreLeftBy sight) c.run_events-world.result.0 (λ _. ⊥) events out out'
    (Err c.in-Err.fault) (rw c.in-Err.is at c.run_events-world.ensures) in
    run_told run fails c.args.text.now events out out' (Err c.in-Err.fault) c.in_ok-events.ensures
    (are_run_as (HasRun orders stocks accounts (AreLeftBy sight)) run (λ _. ⊥) fails
    (run_found orders stocks accounts found sight c.in_ok-keeps.ensures.opened) (λ fault no. absurd no)
    events out out' (Err c.in-Err.fault) made)

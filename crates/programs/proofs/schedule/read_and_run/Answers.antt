use Rattle.std.proofs.Common.{subst, Ok, Err}
use Rattle.std.proofs.lemmas.Result.{err_from_is_err_and}
use Rattle.programs.proofs.Beginnings.{ran_whole}
use Rattle.programs.specs.Runs.{HasRun}
use Rattle.schedule_io.specs.Ends.{IsRunOf}
use Rattle.schedule_io.proofs.Endings.{from_nothing, from_text}
use Rattle.programs.proofs.schedule.read_and_run.Goals as goal

pub returns-in_err-text : goal.returns-in_err-text
returns-in_err-text g c =
    let run = HasRun g.S.Orders.Keep.seen g.S.Stocks.Keep.seen g.S.Accounts.Keep.seen g.S.Stores.found in
    let p = err_from_is_err_and c.from_residual.result c.from_residual.ensures.1 in
    rw (p.1, p.2) (from_nothing run g.S.Stores.fails (g.R.Read.remaining c.args.input.now)
    (g.W.Write.contents c.args.out.now)
    c.in_err-text.field-0.0
    c.in_err-text.ensures)

pub returns-in-Ok : goal.returns-in-Ok
returns-in-Ok g c =
    let run = HasRun g.S.Orders.Keep.seen g.S.Stocks.Keep.seen g.S.Accounts.Keep.seen g.S.Stores.found in
    let out = g.W.Write.contents c.args.out.now in
    let out' = g.W.Write.contents c.run_text.new.out in
    from_text run g.S.Stores.fails (g.R.Read.remaining c.args.input.now) c.in_ok-text.text.items out out' (Ok tt)
    c.in_ok-text.ensures
    (ran_whole g.S.Orders.Keep.seen g.S.Stocks.Keep.seen g.S.Accounts.Keep.seen g.S.Stores.found _
    g.S.Stores.fails c.in_ok-text.text.items out out' (rw c.as_slice.ensures.value at c.in-Ok.ensures))

pub returns : goal.returns
returns g c =
    let run = HasRun g.S.Orders.Keep.seen g.S.Stocks.Keep.seen g.S.Accounts.Keep.seen g.S.Stores.found in
    let told = subst (λ text. IsRunOf run g.S.Stores.fails text (g.W.Write.contents c.args.out.now)
    (g.W.Write.contents c.run_text.new.out) (Err c.in-Err.fault)) c.as_slice.ensures.value c.in-Err.ensures in
    from_text run g.S.Stores.fails (g.R.Read.remaining c.args.input.now) c.in_ok-text.text.items
    (g.W.Write.contents c.args.out.now)
    (g.W.Write.contents c.run_text.new.out) (Err c.in-Err.fault) c.in_ok-text.ensures told

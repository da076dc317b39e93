use Rattle.programs.proofs.GoodTables.{goes_on}
use Rattle.programs.proofs.laws.a_run_goes_on.Goals as goal

pub returns : goal.returns
returns g c = λ left good is.
    goes_on g.S.Orders.Keep.seen g.S.Stocks.Keep.seen g.S.Accounts.Keep.seen g.met.S.Orders.Keep.sound g.met.S.Stocks.Keep.sound
    g.met.S.Accounts.Keep.sound left good g.S.Stores.found is

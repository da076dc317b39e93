use Rattle.std.proofs.Common.{arith, refl, subst}
use Rattle.std.specs.List.{AllByRecursion}
use Rattle.sqlite.specs.Held.{state}
use Rattle.sqlite.specs.State.{HasCleanDisk}
use Rattle.keep_sqlite.specs.Stocks.{stocks as filing, stock_rows}
use Rattle.keep_sqlite.specs.Holders.{holder_in}
use Rattle.keep_sqlite.proofs.Clean.{clean_before}
use Rattle.keep_sqlite.proofs.Frames.{IsLeft}
use Rattle.keep_sqlite.proofs.Renewals.{version_renews}
use Rattle.keep_sqlite.proofs.stocks.StocksFiled.renew.Goals as goal

pub set_version-requires-clause-schema : goal.set_version-requires-clause-schema
set_version-requires-clause-schema g c clean = (c.requires.first clean).is

pub set_version-requires-clause-rising : goal.set_version-requires-clause-rising
set_version-requires-clause-rising g c clean = (c.requires.first clean).rising.1.1.1.1.1.1.1.0

pub returns-clause-ok : goal.returns-clause-ok
returns-clause-ok g c clean =
    let old = state g.S.Store c.args.tx.now.conn.now in
    let new = state g.S.Store c.set_version.new.tx.conn.now in
    let early : HasCleanDisk old = clean_before _ _ c.set_version.ensures.survives.clean clean in
    let was = c.requires.first early in
    let told = c.in_ok-set_version.ensures.ok clean in
    let left = subst (λ s. AllByRecursion (IsLeft 13 old.now.trees new.now.trees) s.tables) was.is told.others in
    version_renews filing old new was refl told (λ i e. holder_in stock_rows e (left.1.1.1.1.1.0 (λ x. omega (arith, x)) i)
    (left.1.1.1.1.1.1.0 (λ x. omega (arith, x)) i))

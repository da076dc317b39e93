use Rattle.sqlite.specs.Held.{state}
use Rattle.sqlite.specs.State.{HasCleanDisk}
use Rattle.base.specs.declared.entity.Kind.TheVariants as kind
use Rattle.trade.specs.Words.{stock_line_word}
use Rattle.keep_sqlite.specs.Stocks.{stocks as filing, stock_rows}
use Rattle.keep_sqlite.proofs.Clean.{clean_before}
use Rattle.keep_sqlite.proofs.Holders.{removes}
use Rattle.keep_sqlite.proofs.StocksHeld.{stocks_held}
use Rattle.keep_sqlite.proofs.stocks.remove_stock.Goals as goal

pub returns-clause-ok : goal.returns-clause-ok
returns-clause-ok g c clean =
    let old = state g.S.Store c.args.tx.now.conn.now in
    let mid = state g.S.Store c.take_stock_lines.new.tx.conn.now in
    let new = state g.S.Store c.take_stock.new.tx.conn.now in
    let between : HasCleanDisk mid = clean_before _ _ c.take_stock.ensures.survives.clean clean in
    let early : HasCleanDisk old = clean_before _ _ c.take_stock_lines.ensures.survives.clean between in
    removes filing stock_rows kind.Stock stock_line_word stocks_held c.args.key.now c.args.count old mid new
    (c.requires.filed early) (c.requires.sound early) (c.in_ok-take_stock_lines.ensures.ok between)
    (c.in_ok-take_stock.ensures.ok clean)

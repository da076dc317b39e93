use Rattle.std.proofs.Common.{◌≡◌, Some, None, refl, sym, ap, ◌∙◌}
use Rattle.std.specs.Prelude.{option_copied}
use Rattle.sqlite.specs.Held.{state}
use Rattle.sqlite.specs.State.{HasCleanDisk}
use Rattle.base.specs.declared.entity.Kind.TheVariants as kind
use Rattle.trade.specs.Words.{stock_line_word}
use Rattle.keep_sqlite.specs.Holders.{sender_line}
use Rattle.keep_sqlite.specs.Stocks.{stocks as filing, stock_rows, stock_cells}
use Rattle.keep_sqlite.proofs.Clean.{clean_before}
use Rattle.keep_sqlite.proofs.StocksHeld.{stocks_held}
use Rattle.keep_sqlite.proofs.HolderSteps.{steps_head, steps_line}
use Rattle.keep_sqlite.proofs.stocks.step_stock.Goals as goal

pub returns-in_ok-set_line-in-Some-clause-ok : goal.returns-in_ok-set_line-in-Some-clause-ok
returns-in_ok-set_line-in-Some-clause-ok g c clean =
    let old = state g.S.Store c.args.tx.now.conn.now in
    let head = state g.S.Store c.put_head.new.tx.conn.now in
    let new = state g.S.Store c.set_line.new.tx.conn.now in
    let late : HasCleanDisk head = clean_before _ _ c.set_line.ensures.survives.clean clean in
    let early : HasCleanDisk old = clean_before _ _ c.put_head.ensures.survives.clean late in
    let x = c.args.stock.now in
    let found : sender_line (option_copied c.args.sender) x.lines ≡ Some c.in-Some.line.now =
    sym (c.in-Some.ensures ∙ ap (sender_line (option_copied c.args.sender)) c.lines.ensures) in
    steps_line filing stock_rows kind.Stock stock_line_word stocks_held (λ s. s.lines) (λ r ls. refl) c.args.key.now
    (stock_cells c.args.key.now x) x (λ id. refl) c.args.count old (c.requires.filed early) (c.requires.sound early)
    (option_copied c.args.sender) (c.requires.stands early) (c.requires.follows early) head new c.in-Some.line.now
    found c.put_head.ensures.sound.lines c.set_line.ensures.row (c.in_ok-put_head.ensures.ok late)
    (c.in_ok-set_line-in-Some.ensures.ok clean)

pub returns-in-None-clause-ok : goal.returns-in-None-clause-ok
returns-in-None-clause-ok g c clean =
    let old = state g.S.Store c.args.tx.now.conn.now in
    let new = state g.S.Store c.put_head.new.tx.conn.now in
    let early : HasCleanDisk old = clean_before _ _ c.put_head.ensures.survives.clean clean in
    let x = c.args.stock.now in
    let none : sender_line (option_copied c.args.sender) x.lines ≡ None =
    sym (c.in-None.ensures ∙ ap (sender_line (option_copied c.args.sender)) c.lines.ensures) in
    steps_head filing stock_rows kind.Stock stock_line_word stocks_held (λ s. s.lines) (λ r ls. refl) c.args.key.now
    (stock_cells c.args.key.now x) x (λ id. refl) c.args.count old (c.requires.filed early) (c.requires.sound early)
    (option_copied c.args.sender) (c.requires.stands early) (c.requires.follows early) new none
    (c.in_ok-put_head.ensures.ok clean)

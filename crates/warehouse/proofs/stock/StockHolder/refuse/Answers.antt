use Rattle.std.proofs.Common.{◌≡◌, None, sym, subst}
use Rattle.trade.specs.Stocks.{StockState}
use Rattle.trade.specs.Lines.{line_of}
use Rattle.trade.proofs.Sound.{stocks_keep}
use Rattle.warehouse.specs.Parts.StockView.{stock_in}
use Rattle.warehouse.proofs.stock.StockHolder.refuse.Goals as goal

pub invariant_of-self-2 : goal.invariant_of-self-2
invariant_of-self-2 c =
    let none : line_of c.args.order c.self.inside.lines ≡ None =
    subst (λ (x : StockState). line_of c.args.order x.lines ≡ None) (sym c.self.view_is) c.requires.new
    in
    rw c.in_ok-insert.ensures.ok
    (stocks_keep.refuses (stock_in c.self.inside) c.args.order c.args.number c.requires.order none c.self.invariant)

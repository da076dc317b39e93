use Rattle.std.proofs.Common.{◌≡◌, ◌+◌, true, None, sym, subst}
use Rattle.std.specs.Prelude.{nat_le}
use Rattle.trade.specs.Stocks.{StockState}
use Rattle.trade.specs.Lines.{line_of}
use Rattle.trade.proofs.Sound.{stocks_keep}
use Rattle.warehouse.specs.Parts.StockView.{stock_in}
use Rattle.warehouse.proofs.stock.StockHolder.hold.Goals as goal

pub invariant_of-self-2 : goal.invariant_of-self-2
invariant_of-self-2 c =
    let none : line_of c.args.order c.self.inside.lines ≡ None =
    subst (λ (x : StockState). line_of c.args.order x.lines ≡ None) (sym c.self.view_is) c.requires.new
    in
    let fits : nat_le (c.self.inside.held + c.args.number) c.self.inside.on_hand ≡ true =
    subst (λ (x : StockState). nat_le (x.held + c.args.number) x.on_hand ≡ true) (sym c.self.view_is) c.requires.fits
    in
    rw (c.in_ok-insert.ensures.ok, c.get.ensures.value)
    (stocks_keep.holds (stock_in c.self.inside) c.args.order c.args.number c.requires.order none fits c.self.invariant)

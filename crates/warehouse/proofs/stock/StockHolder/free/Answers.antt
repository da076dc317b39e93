use Rattle.std.proofs.Common.{◌≡◌, Some, refl, arith, sym, subst}
use Rattle.trade.specs.Stocks.{StockState}
use Rattle.trade.specs.declared.line_phase.LinePhase.TheVariants.{Released}
use Rattle.trade.specs.Holding.{held_by}
use Rattle.trade.specs.Lines.{line_of}
use Rattle.trade.proofs.Holdings.{left}
use Rattle.trade.proofs.Sound.{stocks_keep}
use Rattle.warehouse.specs.Parts.StockView.{stock_in}
use Rattle.warehouse.proofs.stock.StockHolder.free.Goals as goal

pub overflow_sub-self : goal.overflow_sub-self
overflow_sub-self c =
    let at : held_by (line_of c.args.order.now c.self.inside.lines) ≡ Some c.args.number =
    subst (λ (x : StockState). held_by (line_of c.args.order.now x.lines) ≡ Some c.args.number) (sym c.self.view_is)
    c.requires
    in
    let now = left Released c.args.order.now c.args.number c.self.inside.lines at refl in
    let was = c.self.invariant.held in
    let covered = c.self.invariant.covered in
    let number = c.get.ensures.value in
    omega arith

pub invariant_of-self-2 : goal.invariant_of-self-2
invariant_of-self-2 c =
    let at : held_by (line_of c.args.order.now c.self.inside.lines) ≡ Some c.args.number =
    subst (λ (x : StockState). held_by (line_of c.args.order.now x.lines) ≡ Some c.args.number) (sym c.self.view_is)
    c.requires
    in
    rw (c.in_ok-set_phase.ensures.ok, c.get.ensures.value)
    (stocks_keep.frees (stock_in c.self.inside) c.args.order.now c.args.number at c.self.invariant)

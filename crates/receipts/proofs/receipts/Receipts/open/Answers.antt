use Rattle.std.proofs.Common.{◌+◌, sym, ap}
use Rattle.receipts.specs.Books.{ReceiptBook}
use Rattle.receipts.proofs.Adding.{is_book, is_opened}
use Rattle.receipts.proofs.receipts.Receipts.open.Goals as goal

pub invariant_of-self : goal.invariant_of-self
invariant_of-self g c =
    is_book c.self.inside.last c.args.tag c.self.inside.tags.entries c.self.invariant c.in-Ok.ensures.ok

pub returns-in-Ok : goal.returns-in-Ok
returns-in-Ok g c = (
  ap (λ (b : ReceiptBook g.row.T.Denot). b.last + 1) c.self.view_is,
  is_opened c.self.inside.last c.args.tag c.self.inside.tags.entries (sym c.self.view_is) c.self.invariant
      c.in-Ok.ensures.ok,
)

use Rattle.std.proofs.Common.{◌≡◌, ◌+◌, true, None, sym, subst}
use Rattle.std.specs.Prelude.{nat_le}
use Rattle.trade.specs.Accounts.{AccountState}
use Rattle.trade.specs.Lines.{line_of}
use Rattle.trade.proofs.Sound.{accounts_keep}
use Rattle.billing.specs.Parts.AccountView.{account_in}
use Rattle.billing.proofs.account.AccountHolder.hold.Goals as goal

pub invariant_of-self-2 : goal.invariant_of-self-2
invariant_of-self-2 c =
    let none : line_of c.args.order c.self.inside.lines ≡ None =
    subst (λ (x : AccountState). line_of c.args.order x.lines ≡ None) (sym c.self.view_is) c.requires.new
    in
    let fits : nat_le (c.self.inside.billed + c.self.inside.held + c.args.number) c.self.inside.limit ≡ true =
    subst (λ (x : AccountState). nat_le (x.billed + x.held + c.args.number) x.limit ≡ true) (sym c.self.view_is)
    c.requires.fits
    in
    rw (c.in_ok-insert.ensures.ok, c.get.ensures.value)
    (accounts_keep.holds (account_in c.self.inside) c.args.order c.args.number c.requires.order none fits
    c.self.invariant)
